use Rattle.std.proofs.Common.{◌≡◌, ℕ, get_or, sym, ap, ◌∙◌, arith}
use Rattle.std.specs.Prelude.{unwrap_or}
use Rattle.lectic_concepts.proofs.FailureLemmas.{at_member, open_or_seen}
use Rattle.lectic_concepts.proofs.failures.is_to_try.Goals as goal

pub returns-then-has : goal.returns-then-has
returns-then-has g c = at_member c.args.rows.now c.args.a.now c.args.i (sym c.has.ensures ∙ c.if-has.true)

pub returns-else-member-i : goal.returns-else-member-i
returns-else-member-i g c =
    let i : ℕ = c.args.i in
    let member : get_or c.args.witnesses.now i i ≡ c.unwrap_or-member.result =
    sym (c.unwrap_or-member.ensures ∙ ap (λ o. unwrap_or o i) c.copied.ensures ∙ c.get.ensures.lookup.4 (omega arith) i) in
    open_or_seen c.args.rows.now c.args.a.now c.args.witnesses.now i c.unwrap_or-member.result c.has-else-member-i.result
    (sym c.has.ensures ∙ c.if-has.false) c.requires.wide c.requires.inside c.requires.witnesses
    member c.if-member-i.false c.has-else-member-i.ensures
