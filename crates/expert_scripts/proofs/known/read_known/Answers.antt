use Rattle.std.proofs.Common.{◌≡◌, ◌+◌, true, false, sym, ap, ◌∙◌, inr, arith}
use Rattle.std.proofs.lemmas.Result.{err_from_is_err_and}
use Rattle.text_pieces.specs.Lines.{lines}
use Rattle.expert_wire.specs.Lines.{is_skipped}
use Rattle.text_pieces.proofs.LineLemmas.{lines-cut}
use Rattle.expert_scripts.specs.Known.{known_from}
use Rattle.expert_scripts.proofs.KnownLemmas.{after, known_form-from, known_from-skipped, known_from-rule, known_from-fault}
use Rattle.expert_scripts.proofs.known.read_known.Goals as goal

pub loop-rest-init : goal.loop-rest-init
loop-rest-init c = record {
  counted = omega arith;
  width = ap (λ l. l.width) c.in_ok-list.ensures;
  known = rw c.in_ok-list.ensures (known_form-from c.args.bytes.now c.args.n);
}

pub loop-rest-preserved-then-is_skipped : goal.loop-rest-preserved-then-is_skipped
loop-rest-preserved-then-is_skipped c =
    let cut = lines-cut c.loop-rest.rest.now c.split_line.result.0.now c.split_line.result.1.now c.is_empty.result c.is_empty.ensures
    c.loop-rest-test.true c.split_line.ensures.line c.split_line.ensures.behind in
    let skip : is_skipped c.split_line.result.0.now ≡ true = sym c.is_skipped.ensures ∙ c.if-is_skipped.true in
    record {
      counted = let less = cut.1 in let counted = c.loop-rest.invariant.counted in omega arith;
      width = c.loop-rest.invariant.width;
      known =
          sym (ap (λ ls. after c.loop-rest.list.members (known_from c.args.n (c.loop-rest.number + 1) ls)) cut.0
          ∙ ap (after c.loop-rest.list.members) (known_from-skipped c.args.n (c.loop-rest.number + 1) c.split_line.result.0.now
          (lines c.split_line.result.1.now) skip))
          ∙ c.loop-rest.invariant.known;
    }

pub returns-in_err-read_rule-clause-refused : goal.returns-in_err-read_rule-clause-refused
returns-in_err-read_rule-clause-refused c =
    let p = err_from_is_err_and c.from_residual-in_err-read_rule.result c.from_residual-in_err-read_rule.ensures.1 in
    let cut = lines-cut c.loop-rest.rest.now c.split_line.result.0.now c.split_line.result.1.now c.is_empty.result c.is_empty.ensures
    c.loop-rest-test.true c.split_line.ensures.line c.split_line.ensures.behind in
    let kept : is_skipped c.split_line.result.0.now ≡ false = sym c.is_skipped.ensures ∙ c.if-is_skipped.false in
    rw (p.1, p.2) (inr (sym c.loop-rest.invariant.known
    ∙ ap (λ ls. after c.loop-rest.list.members (known_from c.args.n (c.loop-rest.number + 1) ls)) cut.0
    ∙ known_from-fault c.args.n (c.loop-rest.number + 1) c.split_line.result.0.now
    (lines c.split_line.result.1.now) kept c.loop-rest.list.members c.in_err-read_rule.field-0.0 c.in_err-read_rule.ensures.refused))

pub loop-rest-preserved : goal.loop-rest-preserved
loop-rest-preserved c =
    let cut = lines-cut c.loop-rest.rest.now c.split_line.result.0.now c.split_line.result.1.now c.is_empty.result c.is_empty.ensures
    c.loop-rest-test.true c.split_line.ensures.line c.split_line.ensures.behind in
    let kept : is_skipped c.split_line.result.0.now ≡ false = sym c.is_skipped.ensures ∙ c.if-is_skipped.false in
    record {
      counted = let less = cut.1 in let counted = c.loop-rest.invariant.counted in omega arith;
      width = ap (λ l. l.width) c.in_ok-push.ensures.ok ∙ c.loop-rest.invariant.width;
      known =
          rw c.in_ok-push.ensures.ok (sym (ap (λ ls. after c.loop-rest.list.members (known_from c.args.n (c.loop-rest.number + 1) ls)) cut.0
          ∙ known_from-rule c.args.n (c.loop-rest.number + 1) c.split_line.result.0.now
          (lines c.split_line.result.1.now) kept c.loop-rest.list.members c.in_ok-read_rule.field-0 c.in_ok-read_rule.ensures.ok)
          ∙ c.loop-rest.invariant.known);
    }
