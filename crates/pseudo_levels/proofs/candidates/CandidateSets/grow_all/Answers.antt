use Rattle.std.proofs.Common.{length, sym, ap, ◌∙◌, subst}
use Rattle.std.proofs.lemmas.List.Folds.{list_any_at}
use Rattle.fca_model.specs.Sets.{same}
use Rattle.fca_model.proofs.SetLemmas.{same_refl}
use Rattle.pseudo_levels.specs.Search.{Grows}
use Rattle.pseudo_levels.proofs.CandidateLemmas.{grows_trans, larger_one, wide_at}
use Rattle.pseudo_levels.proofs.candidates.CandidateSets.grow_all.Goals as goal

pub loop-set-preserved : goal.loop-set-preserved
loop-set-preserved c =
    let Cs = c.args.sets.now in
    let C = c.set-item.result in
    let new = c.grow.new.self in
    record {
      grown = larger_one (length C) c.loop-set.set-index Cs c.loop-set.self new C c.loop-set-test.true c.set-item.is c.grow.ensures.grows
          c.loop-set.invariant.grown c.in_ok-grow.ensures.grown;
      only = λ p all each. c.grow.ensures.only p (c.loop-set.invariant.only p all each)
          (λ A larger. each A (
            C,
            list_any_at (same C) Cs c.loop-set.set-index C c.loop-set-test.true (ap (same C) (sym c.set-item.is)
                ∙ same_refl C),
            larger,
          ));
      grows = λ n w. grows_trans n c.args.self.now c.loop-set.self new (c.loop-set.invariant.grows n w)
          (subst (λ m. Grows m c.loop-set.self new) (wide_at n c.loop-set.set-index Cs C w c.loop-set-test.true c.set-item.is)
          c.grow.ensures.grows);
    }

pub returns-in_err-grow-clause-only : goal.returns-in_err-grow-clause-only
returns-in_err-grow-clause-only c p all each =
    let C = c.set-item.result in
    c.grow.ensures.only p (c.loop-set.invariant.only p all each)
    (λ A larger. each A (
      C,
      list_any_at (same C) c.args.sets.now c.loop-set.set-index C c.loop-set-test.true (ap (same C)
          (sym c.set-item.is) ∙ same_refl C),
      larger,
    ))
