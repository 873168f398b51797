use Rattle.std.proofs.Common.{◌≡◌, ℕ, ◌<◌, true, eqb, eqb-true, length, ap, ◌∙◌, sym, subst, arith}
use Rattle.std.proofs.lemmas.Bool.{and_parts}
use Rattle.std.proofs.lemmas.List.Sums.{AllPass-from_list_all}
use Rattle.fca_model.specs.Exploration.{first_missing}
use Rattle.fca_model.specs.Implications.{Rule}
use Rattle.implication_closure.specs.Closing.{has_width}
use Rattle.lectic_basis.specs.Watches.{Watched}
use Rattle.lectic_basis.proofs.WaitLemmas.{missing_inside}
use Rattle.lectic_basis.proofs.watched_list.WatchedList.first_missing_at.Goals as goal

pub returns-clause-inside : goal.returns-clause-inside
returns-clause-inside g c =
    let n : ℕ = c.self.inside.list.width in
    let i : Rule = c.index-as_slice-place.result in
    let there : c.args.place < length c.self.inside.list.members =
    subst (λ (F : Watched). c.args.place < length F.list.members) (sym c.self.view_is) c.requires in
    let wide : has_width n i ≡ true = ap (has_width n) c.index-as_slice-place.is
    ∙ AllPass-from_list_all (has_width n) c.as_slice.result.now c.as_slice.ensures.even c.args.place i
    (omega (arith, there, ap length c.as_slice.ensures.members)) in
    missing_inside i.premise c.args.x.now c.args.self.now.list.width
    (eqb-true (length i.premise) n (and_parts (eqb (length i.premise) n) (eqb (length i.conclusion) n) wide).0
    ∙ ap (λ (F : Watched). F.list.width) c.self.view_is) c.first_missing.result
    (c.first_missing.ensures ∙ ap (λ (j : Rule). first_missing 0 j.premise c.args.x.now) (sym c.index-as_slice-place.is))
