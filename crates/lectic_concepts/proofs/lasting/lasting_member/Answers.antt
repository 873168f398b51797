use Rattle.std.proofs.Common.{◌≡◌, rules, true, false, get_or, sym, ap₂, subst, ◌∙◌, ◌&&◌, not}
use Rattle.fca_model.specs.Sets.{Set}
use Rattle.attr_bits.proofs.DifferenceLemmas.{first_missing-parts, get_or-minus, lacked}
use Rattle.lectic_concepts.proofs.lasting.lasting_member.Goals as goal

pub returns-then-first-from-clause-member : goal.returns-then-first-from-clause-member
returns-then-first-from-clause-member g c =
    (first_missing-parts c.args.closed.now c.args.a.now c.in-Some.first (sym c.first_missing.ensures ∙ c.in-Some.is)).0

pub returns-then-first-from-clause-lacks : goal.returns-then-first-from-clause-lacks
returns-then-first-from-clause-lacks g c =
    (first_missing-parts c.args.closed.now c.args.a.now c.in-Some.first (sym c.first_missing.ensures ∙ c.in-Some.is)).1

pub rarest_member-requires : goal.rarest_member-requires
rarest_member-requires g c =
    let first = first_missing-parts c.args.closed.now c.args.a.now c.in-Some.first (sym c.first_missing.ensures ∙ c.in-Some.is) in (
      search rules,
      (
        c.if-i-first.false,
        subst (λ (X : Set). get_or X c.in-Some.first false ≡ true) (sym c.minus.ensures)
            (get_or-minus c.args.closed.now c.args.a.now c.in-Some.first ∙ ap₂ (λ x y. x && not y) first.0 first.1),
      ),
    )

pub returns-else-first-from-clause-member : goal.returns-else-first-from-clause-member
returns-else-first-from-clause-member g c =
    (lacked c.args.closed.now c.args.a.now c.rarest_member.result
    (subst (λ (X : Set). get_or X c.rarest_member.result false ≡ true) c.minus.ensures c.rarest_member.ensures.member)).0

pub returns-else-first-from-clause-lacks : goal.returns-else-first-from-clause-lacks
returns-else-first-from-clause-lacks g c =
    (lacked c.args.closed.now c.args.a.now c.rarest_member.result
    (subst (λ (X : Set). get_or X c.rarest_member.result false ≡ true) c.minus.ensures c.rarest_member.ensures.member)).1
