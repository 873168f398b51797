use Rattle.std.proofs.Common.{All, List, length, ◌≡◌, sym, subst, arith}
use Rattle.fca_model.specs.Sets.{Set}
use Rattle.fca_model.specs.Pseudo.{intents}
use Rattle.lectic_concepts.proofs.IntentLemmas.{intents_wide}
use Rattle.lattice_covers.proofs.narrow_covers.Goals as goal

pub resize_sets-requires : goal.resize_sets-requires
resize_sets-requires g c =
    let width = c.width.result in
    let even : All (λ (A : Set). length A ≡ width) c.args.intents.now =
    subst (λ (Xs : List Set). All (λ (A : Set). length A ≡ width) Xs) (sym c.requires.intents)
    (subst (λ n. All (λ (A : Set). length A ≡ n) (intents c.args.rows.now)) (sym c.width.ensures.width) (intents_wide c.args.rows.now)) in
    (omega arith, (omega arith, (omega arith, (omega (arith, c.requires.fits), even))))
