use Rattle.std.proofs.Common.{◌≡◌, ◌∙◌, ◌+◌, ◌++◌, ◌∷◌, [], ℕ, List, length, drop, refl, sym, ap, ap₂, subst, arith, append_assoc}
use Rattle.std.proofs.Common.{length-append}
use Rattle.std.proofs.lemmas.List.{append-nil, length-drop}
use Rattle.std.proofs.lemmas.List.Concat.{flat_map-append}
use Rattle.fca_model.specs.Sets.{Set}
use Rattle.packed_concepts.specs.Packing.{total, unpacked}
use Rattle.packed_concepts.specs.Stretches.{StretchConcepts, concepts_of, Follow}
use Rattle.packed_concepts.specs.declared.page.IntentAndCount.{IntentAndCount}
use Rattle.packed_concepts.proofs.PackingLemmas.{length-unpacked, total-take, unpacked-split, total-drop}
use Rattle.packed_concepts.proofs.StretchLemmas.{Follow-one, Follow-append}
use Rattle.packed_concepts.proofs.stretch.stretches_on.Goals as goal

pub split_at-requires-in-loop-packed : goal.split_at-requires-in-loop-packed
split_at-requires-in-loop-packed g c =
    let most = total-take c.loop-packed.packed.now c.first_cut-cut.result.concepts in
    omega (arith, most, c.first_cut-cut.ensures.objects, c.loop-packed.invariant.fits)

-- how many are left
left : {W : ℕ} (done : List (Set × List ℕ)) (ps : List (IntentAndCount W)) (T : List ℕ) (page : List (Set × List ℕ))
    → done ++ unpacked ps T ≡ page → length done + length ps ≡ length page
left done ps T page is =
    let long = length-unpacked ps T in
    let both : length page ≡ length done + length (unpacked ps T) = ap length (sym is) ∙ length-append done (unpacked ps T) in
    omega (arith, long, both)

pub overflow_add-next : goal.overflow_add-next
overflow_add-next g c =
    let all = left (concepts_of c.loop-packed.made.items) c.loop-packed.packed.now c.loop-packed.places.now c.args.page.now
    c.loop-packed.invariant.concepts in
    omega (arith, all, c.first_cut-cut.ensures.inside, c.loop-packed.invariant.next, c.requires)

pub loop-packed-preserved : goal.loop-packed-preserved
loop-packed-preserved g c =
    let ps : List (IntentAndCount g.row.W) = c.loop-packed.packed.now in
    let T : List ℕ = c.loop-packed.places.now in
    let n = c.first_cut-cut.result.concepts in
    let m = c.first_cut-cut.result.objects in
    let made : List StretchConcepts = c.loop-packed.made.items in
    let own : List (Set × List ℕ) = unpacked c.split_at.result.0.now c.split_at-in-loop-packed.result.0.now in
    let rest : List (Set × List ℕ) = unpacked c.split_at.result.1.now c.split_at-in-loop-packed.result.1.now in
    let one : StretchConcepts = record { first = c.loop-packed.next; concepts = own } in
    let items : c.push.new.self.items ≡ made ++ one ∷ [] = c.in_ok-push.ensures.items in
    let parts : unpacked ps T ≡ own ++ rest = unpacked-split ps T n m c.loop-packed.invariant.fits c.first_cut-cut.ensures.objects
    ∙ ap₂ (λ (x y : List (Set × List ℕ)). x ++ y)
    (ap₂ (λ (qs : List (IntentAndCount g.row.W)) (E : List ℕ). unpacked qs E) (sym c.split_at.ensures.front) (sym c.split_at-in-loop-packed.ensures.front))
    (ap₂ (λ (qs : List (IntentAndCount g.row.W)) (E : List ℕ). unpacked qs E) (sym c.split_at.ensures.back) (sym c.split_at-in-loop-packed.ensures.back)) in
    let both : concepts_of c.push.new.self.items ≡ concepts_of made ++ own = ap concepts_of items
    ∙ flat_map-append (λ (s : StretchConcepts). s.concepts) made (one ∷ [])
    ∙ ap (λ (z : List (Set × List ℕ)). concepts_of made ++ z) (append-nil own) in
    let count : length (concepts_of c.push.new.self.items) ≡ length (concepts_of made) + length own =
    ap length both ∙ length-append (concepts_of made) own in
    let many : length own ≡ length c.split_at.result.0.now = length-unpacked c.split_at.result.0.now c.split_at-in-loop-packed.result.0.now in
    let fits : total c.split_at.result.1.now ≡ length c.split_at-in-loop-packed.result.1.now =
    let all = total-drop ps n in
    let left : total c.split_at.result.1.now ≡ total (drop n ps) = ap total c.split_at.ensures.back in
    let long : length c.split_at-in-loop-packed.result.1.now ≡ length (drop m T) = ap length c.split_at-in-loop-packed.ensures.back in
    let less = length-drop m T in
    omega (arith, all, left, long, less, c.loop-packed.invariant.fits, c.first_cut-cut.ensures.objects) in
    record {
      fits = fits;
      small =
          let all = total-drop ps n in
          let left : total c.split_at.result.1.now ≡ total (drop n ps) = ap total c.split_at.ensures.back in
          omega (arith, all, left, c.loop-packed.invariant.small);
      concepts = ap (λ (z : List (Set × List ℕ)). z ++ rest) both ∙ append_assoc (concepts_of made) own rest
          ∙ ap (λ (z : List (Set × List ℕ)). concepts_of made ++ z) (sym parts) ∙ c.loop-packed.invariant.concepts;
      next = omega (arith, count, many, c.split_at.ensures.front_len, c.loop-packed.invariant.next);
      follow = subst (Follow c.args.first) (sym items) (Follow-append c.args.first c.loop-packed.next made (one ∷ [])
          c.loop-packed.invariant.next c.loop-packed.invariant.follow (Follow-one c.loop-packed.next one refl));
    }
