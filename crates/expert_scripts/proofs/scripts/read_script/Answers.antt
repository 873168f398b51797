use Rattle.std.proofs.Common.{◌≡◌, ◌+◌, true, false, sym, ap, ◌∙◌, inl, inr, arith}
use Rattle.std.proofs.lemmas.Result.{err_from_is_err_and}
use Rattle.text_pieces.specs.Lines.{lines}
use Rattle.expert_wire.specs.Lines.{is_skipped, numbered_lines}
use Rattle.text_pieces.proofs.LineLemmas.{lines-cut, lines-none}
use Rattle.expert_wire.proofs.LineLemmas.{numbered_lines-skipped, numbered_lines-kept}
use Rattle.expert_scripts.specs.Scripts.{content_of}
use Rattle.expert_scripts.specs.Stages.{content_to_come}
use Rattle.expert_scripts.proofs.StageLemmas.{script_form-content_of_lines}
use Rattle.expert_scripts.proofs.FitLemmas.{script_form-fine}
use Rattle.expert_scripts.proofs.scripts.read_script.Goals as goal

pub loop-rest-init : goal.loop-rest-init
loop-rest-init c = record {
  counted = omega arith;
  width = c.in_ok-script.ensures.width;
  said = c.in_ok-script.ensures.new (numbered_lines 1 (lines c.args.bytes.now)) ∙ script_form-content_of_lines c.args.bytes.now c.args.n;
}

pub loop-rest-preserved-then-is_skipped : goal.loop-rest-preserved-then-is_skipped
loop-rest-preserved-then-is_skipped c =
    let k = c.loop-rest.number + 1 in
    let line = c.split_line.result.0.now in
    let cut = lines-cut c.loop-rest.rest.now line c.split_line.result.1.now c.is_empty.result c.is_empty.ensures c.loop-rest-test.true
    c.split_line.ensures.line c.split_line.ensures.behind in
    let skip : is_skipped line ≡ true = sym c.is_skipped.ensures ∙ c.if-is_skipped.true in
    let said = ap (numbered_lines k) cut.0 ∙ numbered_lines-skipped k line (lines c.split_line.result.1.now) skip in
    record {
      counted = let less = cut.1 in let counted = c.loop-rest.invariant.counted in omega arith;
      width = c.loop-rest.invariant.width;
      said = ap (content_to_come c.args.n c.loop-rest.script) (sym said) ∙ c.loop-rest.invariant.said;
    }

pub loop-rest-preserved : goal.loop-rest-preserved
loop-rest-preserved c =
    let k = c.loop-rest.number + 1 in
    let line = c.split_line.result.0.now in
    let cut = lines-cut c.loop-rest.rest.now line c.split_line.result.1.now c.is_empty.result c.is_empty.ensures c.loop-rest-test.true
    c.split_line.ensures.line c.split_line.ensures.behind in
    let kept : is_skipped line ≡ false = sym c.is_skipped.ensures ∙ c.if-is_skipped.false in
    let said = ap (numbered_lines k) cut.0 ∙ numbered_lines-kept k line (lines c.split_line.result.1.now) kept in
    record {
      counted = let less = cut.1 in let counted = c.loop-rest.invariant.counted in omega arith;
      width = c.in_ok-take.ensures.width;
      said = sym (c.in_ok-take.ensures.ok (numbered_lines (k + 1) (lines c.split_line.result.1.now)))
          ∙ ap (content_to_come c.args.n c.loop-rest.script) (sym said) ∙ c.loop-rest.invariant.said;
    }

pub returns-in_err-take-clause-refused : goal.returns-in_err-take-clause-refused
returns-in_err-take-clause-refused c =
    let p = err_from_is_err_and c.from_residual-in_err-take.result c.from_residual-in_err-take.ensures.1 in
    let k = c.loop-rest.number + 1 in
    let line = c.split_line.result.0.now in
    let cut = lines-cut c.loop-rest.rest.now line c.split_line.result.1.now c.is_empty.result c.is_empty.ensures c.loop-rest-test.true
    c.split_line.ensures.line c.split_line.ensures.behind in
    let kept : is_skipped line ≡ false = sym c.is_skipped.ensures ∙ c.if-is_skipped.false in
    let said = ap (numbered_lines k) cut.0 ∙ numbered_lines-kept k line (lines c.split_line.result.1.now) kept in
    rw (p.1, p.2) (elim c.in_err-take.ensures.refused [
      | inl m ↦ inl m
      | inr e ↦ inr (sym c.loop-rest.invariant.said ∙ ap (content_to_come c.args.n c.loop-rest.script) said
          ∙ e (numbered_lines (k + 1) (lines c.split_line.result.1.now)))
    ])

pub returns-clause-ok : goal.returns-clause-ok
returns-clause-ok c =
    let none = lines-none c.loop-rest.rest.now c.is_empty.result c.is_empty.ensures c.loop-rest-test.false in
    sym c.loop-rest.invariant.said ∙ ap (λ ls. content_to_come c.args.n c.loop-rest.script (numbered_lines (c.loop-rest.number + 1) ls))
    none ∙ c.into_script.ensures.said c.args.n

pub returns-clause-writable : goal.returns-clause-writable
returns-clause-writable c =
    let none = lines-none c.loop-rest.rest.now c.is_empty.result c.is_empty.ensures c.loop-rest-test.false in
    (script_form-fine c.args.bytes.now c.args.n (content_of c.into_script.result)
    (sym c.loop-rest.invariant.said ∙ ap (λ ls. content_to_come c.args.n c.loop-rest.script (numbered_lines (c.loop-rest.number + 1) ls))
    none ∙ c.into_script.ensures.said c.args.n)).writable

pub returns-clause-fits : goal.returns-clause-fits
returns-clause-fits c =
    let none = lines-none c.loop-rest.rest.now c.is_empty.result c.is_empty.ensures c.loop-rest-test.false in
    (script_form-fine c.args.bytes.now c.args.n (content_of c.into_script.result)
    (sym c.loop-rest.invariant.said ∙ ap (λ ls. content_to_come c.args.n c.loop-rest.script (numbered_lines (c.loop-rest.number + 1) ls))
    none ∙ c.into_script.ensures.said c.args.n)).fits
