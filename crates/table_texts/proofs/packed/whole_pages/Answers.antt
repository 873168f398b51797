use Rattle.std.proofs.Common.{◌≡◌, ◌++◌, ◌∷◌, ◌∙◌, [], ℕ, All, Bool, List, true, false, not, map, refl, sym, ap, subst, append_assoc}
use Rattle.std.proofs.lemmas.List.Elements.{All-cons}
use Rattle.std.specs.Vec.Iter.{into_iter_items}
use Rattle.fca_model.specs.Sets.{Set}
use Rattle.concept_walk.specs.declared.gathering.Gathering.{Gathering}
use Rattle.table_texts.proofs.packed.whole_pages.Goals as goal

holds : (b : Bool) → not b ≡ false → b ≡ true
holds true e = refl
holds false e = sym e

pub loop-gathering-preserved : goal.loop-gathering-preserved
loop-gathering-preserved g c =
    let gathering : Gathering g.row.W = c.in-Some.gathering in
    let rest : List (Gathering g.row.W) = into_iter_items c.next.new.self in
    let next : into_iter_items c.loop-gathering.gathering-iterator ≡ gathering ∷ rest = c.in-Some.ensures.steps.0 in
    let given : Gathering g.row.W → List (Set × List ℕ) = λ p. p.concepts in
    record {
      whole = λ w. c.loop-gathering.invariant.whole (subst (All (λ (p : Gathering g.row.W). p.whole ≡ true)) (sym next)
          (All-cons (λ (p : Gathering g.row.W). p.whole ≡ true) gathering rest (holds gathering.whole c.if-not-gathering.false) w));
      concepts = ap (λ (xs : List (List (Set × List ℕ))). xs ++ map given rest) c.in_ok-push.ensures.items
          ∙ append_assoc c.loop-gathering.made.items (gathering.concepts ∷ []) (map given rest)
          ∙ ap (λ (ps : List (Gathering g.row.W)). c.loop-gathering.made.items ++ map given ps) (sym next) ∙ c.loop-gathering.invariant.concepts;
    }
