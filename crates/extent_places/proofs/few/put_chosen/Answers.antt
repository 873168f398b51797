use Rattle.std.proofs.Common.{◌∙◌, ◌++◌, ◌∷◌, [], ◌+◌, ℕ, List, drop, get_or, append_assoc, sym, ap, arith}
use Rattle.std.proofs.lemmas.List.{append-nil}
use Rattle.fca_model.specs.Sets.{Set}
use Rattle.extent_places.specs.Few.{chosen}
use Rattle.extent_places.proofs.FewLemmas.{chosen_next, chosen_none}
use Rattle.extent_places.proofs.few.put_chosen.Goals as goal

pub loop-object-preserved : goal.loop-object-preserved
loop-object-preserved c =
    let S : Set = c.args.objects.now in
    let ps : List ℕ = c.args.places.now in
    let m = c.in-Some.object in
    let met : List ℕ = c.loop-object.found.items in
    let rest : List ℕ = chosen (drop (m + 1) S) (drop (m + 1) ps) in
    record {
      inside = omega (arith, c.in-Some.ensures.in_range);
      chosen = ap (λ (xs : List ℕ). xs ++ rest) c.in_ok-push.ensures.items ∙ append_assoc met (get_or ps m 0 ∷ []) rest
          ∙ ap (λ (xs : List ℕ). met ++ xs) (sym (chosen_next S ps c.loop-object.from m c.requires c.in-Some.ensures))
          ∙ c.loop-object.invariant.chosen;
    }

pub returns : goal.returns
returns c =
    let S : Set = c.args.objects.now in
    let ps : List ℕ = c.args.places.now in
    let met : List ℕ = c.loop-object.found.items in
    sym (append-nil met) ∙ ap (λ (xs : List ℕ). met ++ xs)
    (sym (chosen_none S ps c.loop-object.from c.requires c.loop-object.invariant.inside c.in_default.ensures))
    ∙ c.loop-object.invariant.chosen
