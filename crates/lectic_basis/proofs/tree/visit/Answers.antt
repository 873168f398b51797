use Rattle.std.proofs.Common.{◌≡◌, true, sym, ◌∙◌, subst, arith}
use Rattle.fca_model.specs.Sets.{Set, within}
use Rattle.fca_model.proofs.ClosureLemmas.{closure_extensive}
use Rattle.fca_model.proofs.SetLemmas.{same-true, within_refl}
use Rattle.lectic_basis.proofs.WalkLemmas.{visit_wide, visit_inside, closure_wide, closure_up, visit_closed, visit_ends, visit_can_close}
use Rattle.lectic_basis.proofs.WalkLemmas.{visit_below, visit_done, part_before, longer_push, bounded_push}
use Rattle.lectic_basis.proofs.tree.visit.Goals as goal

-- an intent

pub returns-then-eq-clause-below : goal.returns-then-eq-clause-below
returns-then-eq-clause-below g c = visit_closed c.requires.visit c.requires.closed (sym c.eq.ensures ∙ c.if-eq.true)

pub returns-then-eq-clause-done : goal.returns-then-eq-clause-done
returns-then-eq-clause-done g c = λ new h. part_before h

-- the premise of a member

pub push_to_wait-requires : goal.push_to_wait-requires
push_to_wait-requires g c = (
  omega arith,
  (
    omega (arith, c.width-width.ensures.words),
    (visit_wide c.requires.visit, (closure_wide c.requires.visit c.requires.closed, visit_inside c.requires.visit)),
  ),
)

pub agrees-requires : goal.agrees-requires
agrees-requires g c = (omega (arith, c.width-width.ensures.words), closure_up c.requires.visit c.requires.closed)

pub returns-then-not-agrees-clause-done : goal.returns-then-not-agrees-clause-done
returns-then-not-agrees-clause-done g c = visit_ends c.requires.visit c.requires.closed
    (sym c.eq.ensures ∙ c.if-eq.false) _ c.in_ok-push_to_wait.ensures.list c.in_ok-push_to_wait.ensures.put
    (sym c.agrees.ensures ∙ c.if-not-agrees.true)

pub close-requires : goal.close-requires
close-requires g c = (
  omega arith,
  (
    omega (arith, c.width-width.ensures.words),
    visit_can_close c.requires.visit c.requires.closed (sym c.eq.ensures
        ∙ c.if-eq.false) _ c.in_ok-push_to_wait.ensures.list c.in_ok-push_to_wait.ensures.put (sym c.agrees.ensures ∙ c.if-not-agrees.false),
  ),
)

pub returns-clause-below : goal.returns-clause-below
returns-clause-below g c = visit_below c.requires.visit c.requires.closed
    (sym c.eq.ensures ∙ c.if-eq.false) _ c.in_ok-push_to_wait.ensures.list c.in_ok-push_to_wait.ensures.put
    (sym c.agrees.ensures ∙ c.if-not-agrees.false) c.in_ok-close.ensures.moved _ _ c.in_ok-close.ensures.closure
    c.in_ok-close.ensures.differs

pub returns-clause-done : goal.returns-clause-done
returns-clause-done g c = λ new h. visit_done c.requires.visit c.requires.closed
    (sym c.eq.ensures ∙ c.if-eq.false) _ c.in_ok-push_to_wait.ensures.list c.in_ok-push_to_wait.ensures.put
    (sym c.agrees.ensures ∙ c.if-not-agrees.false) c.in_ok-close.ensures.moved h

-- what is told is larger, and what was found is kept

pub returns-clause-larger : goal.returns-clause-larger
returns-clause-larger g c = closure_up c.requires.visit c.requires.closed

pub returns-then-eq-clause-larger : goal.returns-then-eq-clause-larger
returns-then-eq-clause-larger g c = within_refl c.args.a.now

pub returns-then-not-agrees-clause-more : goal.returns-then-not-agrees-clause-more
returns-then-not-agrees-clause-more g c = longer_push _ _ _ c.in_ok-push_to_wait.ensures.list

pub returns-clause-more : goal.returns-clause-more
returns-clause-more g c = longer_push _ _ _ (c.in_ok-close.ensures.moved.list ∙ c.in_ok-push_to_wait.ensures.list)

-- and lies within the closure

pub returns-clause-shared : goal.returns-clause-shared
returns-clause-shared g c = subst (λ (X : Set). within c.args.closed.now X ≡ true) c.requires.closed (within_refl c.args.closed.now)

pub returns-then-eq-clause-shared : goal.returns-then-eq-clause-shared
returns-then-eq-clause-shared g c = closure_extensive c.args.indexed.now c.args.a.now c.requires.visit.at.family.wide

-- each set that contains the premise and respects what was found contains the closure

pub returns-then-eq-clause-bounded : goal.returns-then-eq-clause-bounded
returns-then-eq-clause-bounded g c = λ T h r. subst (λ (X : Set). within X T ≡ true)
    (sym (same-true c.args.closed.now c.args.a.now (sym c.eq.ensures ∙ c.if-eq.true))) h

pub returns-then-not-agrees-clause-bounded : goal.returns-then-not-agrees-clause-bounded
returns-then-not-agrees-clause-bounded g c = bounded_push _ _ _ c.in_ok-push_to_wait.ensures.list

pub returns-clause-bounded : goal.returns-clause-bounded
returns-clause-bounded g c = bounded_push _ _ _ (c.in_ok-close.ensures.moved.list ∙ c.in_ok-push_to_wait.ensures.list)
