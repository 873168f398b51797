-- What is seen of the closures of a set holds of those of a larger set.
use Rattle.std.proofs.Common.{◌≡◌, ◌≢◌, ℕ, zero, suc, ◌<◌, ◌≤◌, true, false, Some, List, [], ◌∷◌, length, refl, get_or, set, sym, ap, ◌∙◌}
use Rattle.std.proofs.Common.{subst, arith, inl, inr, get_or-set_same, get_or-set_other, length-set}
use Rattle.std.proofs.lemmas.List.{get_or_default}
use Rattle.std.proofs.lemmas.Bool.{cases_eq, cases_lt, false≢true}
use Rattle.fca_model.specs.Sets.{Set, within}
use Rattle.fca_model.specs.Context.{Context, closure}
use Rattle.fca_model.specs.Exploration.{first_missing}
use Rattle.fca_model.proofs.SetLemmas.{within_at_place, within_from_places, within-set}
use Rattle.fca_model.proofs.ClosureLemmas.{closure_extensive, closure_monotone}
use Rattle.attr_bits.proofs.DifferenceLemmas.{first_missing-parts}
use Rattle.lectic_concepts.specs.Branches.{AreWitnesses}
use Rattle.lectic_concepts.proofs.BranchLemmas.{among, closure_among}

-- what the closure with i has, that of a larger set has too
pub member_larger : (K : Context) (L A : Set) (i w : ℕ) → i < length A → within L A ≡ true
    → get_or (closure K (set L i true)) w false ≡ true → get_or (closure K (set A i true)) w false ≡ true
member_larger K L A i w inside h m = within_at_place (closure K (set L i true)) (closure K (set A i true))
    (closure_monotone K (set L i true) (set A i true) (within-set L A i inside h)) w m

-- each attribute is a member of the closure with it
pub member_own : (K : Context) (A : Set) (i : ℕ) → length A ≡ K.width → i < K.width → get_or (closure K (set A i true)) i false ≡ true
member_own K A i wide inside = within_at_place (set A i true) (closure K (set A i true))
    (closure_extensive K (set A i true) (length-set A i true ∙ wide)) i
    (get_or-set_same A i true false (omega (arith, wide)))

pub seen_first : (K : Context) (A : Set) (ws : List ℕ) → length A ≡ K.width → length ws ≡ K.width
    → ((i : ℕ) → i < K.width → get_or ws i 0 ≡ i) → AreWitnesses K A ws
seen_first K A ws wide long own = record {
  few = omega (arith, long);
  member = λ i l. subst (λ k. get_or (closure K (set A i true)) k false ≡ true) (sym (own i (omega (arith, long))))
      (member_own K A i wide (omega (arith, long)));
}

pub seen_set : (K : Context) (A : Set) (ws : List ℕ) (i w : ℕ) → AreWitnesses K A ws → get_or (closure K (set A i true)) w false ≡ true
    → AreWitnesses K A (set ws i w)
seen_set K A ws i w m h = record {
  few = omega (arith, length-set ws i w, m.few);
  member = λ j l. elim (cases_eq j i) [
    | inl here ↦ subst (λ k. get_or (closure K (set A k true)) (get_or (set ws i w) k 0) false ≡ true) (sym here)
        (subst (λ v. get_or (closure K (set A i true)) v false ≡ true)
        (sym (get_or-set_same ws i w 0 (omega (arith, l, here, length-set ws i w)))) h)
    | inr other ↦ subst (λ v. get_or (closure K (set A j true)) v false ≡ true) (sym (get_or-set_other ws i j w 0 other))
        (m.member j (omega (arith, l, length-set ws i w)))
  ];
}

-- nothing was seen
pub seen_none : (K : Context) (A : Set) (ws : List ℕ) → ws ≡ [] → AreWitnesses K A ws
seen_none K A ws is = subst (AreWitnesses K A) (sym is) (record { few = omega arith; member = λ i l. absurd (omega (arith, l)) })

-- what was seen of the closures of A holds of those of a larger set
pub seen_larger : (K : Context) (A D : Set) (ws : List ℕ) → length D ≡ K.width → within A D ≡ true → AreWitnesses K A ws → AreWitnesses K D ws
seen_larger K A D ws wide h m = record {
  few = m.few;
  member = λ i l. member_larger K A D i (get_or ws i 0) (omega (arith, l, wide, m.few)) h (m.member i l);
}

-- the same of a larger set, among the rows that contain it
pub seen_among : (K : Context) (A D : Set) (ws : List ℕ) → length D ≡ K.width → within A D ≡ true → AreWitnesses K A ws
    → AreWitnesses (among K D) D ws
seen_among K A D ws wide h m = record {
  few = m.few;
  member = λ i l.
      let inside : i < length D = omega (arith, l, wide, m.few) in
      ap (λ C. get_or C (get_or ws i 0) false) (closure_among K D (set D i true)
      (within_from_places D (set D i true) (λ j k t. elim (cases_eq j i) [
        | inl here ↦ ap (λ x. get_or (set D i true) x false) here ∙ get_or-set_same D i true false inside
        | inr other ↦ get_or-set_other D i j true false other ∙ t
      ]))) ∙ member_larger K A D i (get_or ws i 0) inside h (m.member i l);
}

-- a member of the closure before i that A lacks
pub not_first : (A D : Set) (i w : ℕ) → w < i → get_or D w false ≡ true → get_or A w false ≡ false → first_missing 0 D A ≢ Some i
not_first A D i w before has lacks h = false≢true (sym lacks ∙ (first_missing-parts D A i h).2 w before has)

-- where something before i that A lacks was seen
pub seen_fails : (K : Context) (A : Set) (ws : List ℕ) (i w : ℕ) → AreWitnesses K A ws → get_or ws i i ≡ w → w < i → get_or A w false ≡ false
    → (D : Set) → D ≡ closure K (set A i true) → first_missing 0 D A ≢ Some i
seen_fails K A ws i w m is before lacks D e = elim (cases_lt i (length ws)) [
  | inl inside ↦ not_first A D i w before (ap (λ C. get_or C w false) e
      ∙ subst (λ v. get_or (closure K (set A i true)) v false ≡ true) (get_or_default ws i 0 i inside ∙ is) (m.member i inside)) lacks
  | inr outside ↦ absurd (omega (arith, before, sym (beyond ws i outside) ∙ is))
]
  where
    beyond : (xs : List ℕ) (k : ℕ) → length xs ≤ k → get_or xs k i ≡ i
    beyond [] k l = refl
    beyond (x ∷ xs) zero l = absurd (omega arith)
    beyond (x ∷ xs) (suc k) l = beyond xs k (omega (arith, l))
