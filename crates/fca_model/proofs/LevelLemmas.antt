-- The basis level by level. Whether a set is a pseudo-intent is decided by the members of smaller size, so a list that has these decides
-- the next level;
-- past the width no level has a member. And where all that wait have a size of at least k and some have k, the open questions are those of
-- size k.
use Rattle.std.proofs.Common.{◌≡◌, ◌≢◌, ℕ, zero, suc, ◌<◌, ◌≤◌, Bool, true, false, not, ◌&&◌, ◌||◌, cond, List, [], ◌∷◌, ◌++◌, map, length}
use Rattle.std.proofs.Common.{filter, refl, sym, ap, ap₂, ◌∙◌, arith, inl, inr, eqb, eqb-true, eq-eqb, ne_eqb, leb, le-leb, leb-true, ltb}
use Rattle.std.proofs.lemmas.Bool.{false≢true, and_parts, and_from, cases_Bool, cases_lt, cases_eq, or_cases, or_left, or_right, not-true}
use Rattle.std.proofs.lemmas.Bool.{lt-leb, lt-ltb, ltb-true, eqb-false}
use Rattle.std.proofs.lemmas.List.Folds.{list_all-append}
use Rattle.std.specs.List.{list_all}
use Rattle.fca_model.specs.Sets.{Set, size, within, same, strictly_within, all_sets}
use Rattle.fca_model.specs.Context.{Context, closure}
use Rattle.fca_model.specs.Implications.{Rule, rule, respects, respects_all}
use Rattle.fca_model.specs.Pseudo.{basis_known, pseudo_known}
use Rattle.fca_model.specs.Questions.{has_premise, waiting, least_size, smallest}
use Rattle.fca_model.specs.Levels.{level_of, levels_below, absorbs_all, HasBelow}
use Rattle.fca_model.proofs.ListLemmas.{implies_from, implies_at, bool_iff, list_all_from, list_all-mono, list_all-mono₂, list_all-filter}
use Rattle.fca_model.proofs.ListLemmas.{list_all-filter_kept, filter-filter, filter-map, filter_passes, cond_nil}
use Rattle.fca_model.proofs.SetLemmas.{same-true, same_from, strictly_from, size_strict, size_le}
use Rattle.fca_model.proofs.ClosureLemmas.{respects_from}
use Rattle.fca_model.proofs.PseudoLemmas.{pseudo_parts, pseudo_from, basis_all, basis_at}

module _ (S : List Rule) (K : Context) where
  -- a set of the size that was reached is a pseudo-intent by what was found
  pub pseudo_by_found : (P : Set) (found : List Rule) → length P ≡ K.width → HasBelow S K (size P) found
      → pseudo_known S K P ≡ (respects_all S P && (absorbs_all found P && not (same (closure K P) P)))
  pseudo_by_found P found e h =
      let p : Rule → Bool = λ i. not (strictly_within i.premise P) || within i.conclusion P in
      let C = closure K P in
      bool_iff (pseudo_known S K P) (respects_all S P && (absorbs_all found P && not (same C P)))
      (λ t.
      let parts = pseudo_parts S K P e t in
      let open_ : same C P ≡ false = elim (cases_Bool (same C P))
      [ inl t ↦ absurd (false≢true (sym parts.not_closed ∙ same_from P C (sym (same-true C P t)))) | inr f ↦ f ] in
      and_from (respects_all S P) (absorbs_all found P && not (same C P)) parts.respecting
      (and_from (absorbs_all found P) (not (same C P))
      (h.sound p (basis_all S K p (λ Q w q. implies_from (strictly_within Q P) (within (closure K Q) P) (λ s. parts.absorbing Q w q s))))
      (ap not open_)))
      (λ t.
      let outer = and_parts (respects_all S P) (absorbs_all found P && not (same C P)) t in
      let both = and_parts (absorbs_all found P) (not (same C P)) outer.1 in
      pseudo_from S K P e (record {
        respecting = outer.0;
        not_closed = elim (cases_Bool (same P C)) [
          | inl t ↦
              absurd (false≢true (sym (not-true (same C P) both.1) ∙ same_from C P (sym (same-true P C t))))
          | inr f ↦ f
        ];
        absorbing = λ Q w q s.
            let smaller : size Q < size P = size_strict Q P (w ∙ sym e) s in
            let at = basis_at S K (λ i. leb (size P) (size i.premise) || p i) Q w q (h.complete p both.0) in
            elim (or_cases (leb (size P) (size Q)) (p (rule Q (closure K Q))) at) [
              | inl le ↦ absurd (false≢true (sym (lt-leb (size P) (size Q) smaller) ∙ le))
              | inr there ↦ implies_at (strictly_within Q P) (within (closure K Q) P) there s
            ];
      }))

  -- a pseudo-intent respects all that was found below its size
  pub respects_found : (k : ℕ) (P : Set) (found : List Rule) → length P ≡ K.width → HasBelow S K k found → pseudo_known S K P ≡ true
      → k ≤ size P → respects_all found P ≡ true
  respects_found k P found e h t le =
      let parts = pseudo_parts S K P e t in
      let small : Rule → Bool = λ i. ltb (size i.premise) k in
      list_all-mono₂ small (λ i. not (small i) || respects P i) (respects P)
      (λ i a b. implies_at (small i) (respects P i) b a) found h.small
      (h.sound (λ i. not (small i) || respects P i)
      (basis_all S K (λ i. not (small i) || respects P i) (λ Q w q. implies_from (ltb (size Q) k) (respects P (rule Q (closure K Q)))
      (λ lt. respects_from P (rule Q (closure K Q)) (λ inside. parts.absorbing Q w q (strictly_from Q P inside
      (λ same_sets. let s : size Q ≡ size P = ap size same_sets in absurd (omega (arith, ltb-true (size Q) k lt)))))))))

  -- ---- levels

  -- a level as a filter of all sets
  pub level_is : (k : ℕ) → map (λ P. rule P (closure K P)) (filter (λ P. pseudo_known S K P && eqb (size P) k) (all_sets K.width))
      ≡ level_of S K k
  unfolding basis_known level_of
  level_is k =
      sym (filter-map (λ i. eqb (size i.premise) k) (λ P. rule P (closure K P)) (filter (pseudo_known S K) (all_sets K.width))
      ∙ ap (map (λ P. rule P (closure K P))) (filter-filter (λ P. eqb (size P) k) (pseudo_known S K) (all_sets K.width)))

  pub has_none : HasBelow S K 0 []
  has_none = record {
    sound = λ p h. refl;
    small = refl;
    complete = λ p h. list_all_from (λ i. leb 0 (size i.premise) || p i)
        (λ i. or_left (leb 0 (size i.premise)) (p i) (le-leb 0 (size i.premise) (omega arith))) (basis_known S K);
  }

  -- one level more
  pub has_more : (k : ℕ) (found : List Rule) → HasBelow S K k found → HasBelow S K (suc k) (found ++ level_of S K k)
  unfolding level_of
  has_more k found h =
      let B = basis_known S K in
      let here : Rule → Bool = λ i. eqb (size i.premise) k in
      let small : Rule → Bool = λ i. ltb (size i.premise) (suc k) in
      let L = filter here B in
      record {
        sound = λ p b. list_all-append p found L ∙ and_from (list_all p found) (list_all p L) (h.sound p b)
            (list_all-filter_kept p here B b);
        small = list_all-append small found L ∙ and_from (list_all small found) (list_all small L)
            (list_all-mono (λ i. ltb (size i.premise) k) small
            (λ i t. lt-ltb (size i.premise) (suc k) (omega (arith, ltb-true (size i.premise) k t))) found h.small)
            (list_all-mono here small (λ i t. lt-ltb (size i.premise) (suc k) (omega (arith, eqb-true (size i.premise) k t))) L
            (filter_passes here B));
        complete = λ p t.
            let both = and_parts (list_all p found) (list_all p L) (sym (list_all-append p found L) ∙ t) in
            list_all-mono₂ (λ i. leb k (size i.premise) || p i) (λ i. not (here i) || p i) (λ i. leb (suc k) (size i.premise) || p i)
            (λ i a b. elim (cases_lt k (size i.premise)) [
              | inl lt ↦ or_left (leb (suc k) (size i.premise)) (p i) (le-leb (suc k) (size i.premise) (omega arith))
              | inr le ↦ or_right (leb (suc k) (size i.premise)) (p i) (elim (or_cases (leb k (size i.premise)) (p i) a) [
                | inl at ↦ implies_at (here i) (p i) b (eq-eqb (size i.premise) k (omega (arith, leb-true k (size i.premise) at)))
                | inr there ↦ there
              ])
            ])
            B (h.complete p both.0) (sym (list_all-filter p here B) ∙ both.1);
      }

  pub has_below : (k : ℕ) → HasBelow S K k (levels_below k S K)
  unfolding levels_below
  has_below zero = has_none
  has_below (suc k) = has_more k (levels_below k S K) (has_below k)

  -- ---- what waits, level by level

  -- what of a level waits
  pub level_waiting : (acc : List Rule) (k : ℕ) → filter (λ i. not (has_premise acc i.premise)) (level_of S K k) ≡ filter
      (λ i. eqb (size i.premise) k) (waiting S K acc)
  unfolding waiting level_of
  level_waiting acc k =
      let at : Rule → Bool = λ i. eqb (size i.premise) k in
      let waits : Rule → Bool = λ i. not (has_premise acc i.premise) in
      filter-filter waits at (basis_known S K) ∙ filter_swap at waits (basis_known S K) ∙ sym (filter-filter at waits (basis_known S K))
    where
      and_swap : (a b : Bool) → (a && b) ≡ (b && a)
      and_swap true true = refl
      and_swap true false = refl
      and_swap false true = refl
      and_swap false false = refl

      filter_swap : (p q : Rule → Bool) (is : List Rule) → filter (λ i. p i && q i) is ≡ filter (λ i. q i && p i) is
      filter_swap p q [] = refl
      filter_swap p q (i ∷ is) = ap₂ (λ b ys. cond b (i ∷ ys) ys) (and_swap (p i) (q i)) (filter_swap p q is)

  -- no premise that waits is larger than the width
  waiting_small : (acc : List Rule) → list_all (λ i. leb (size i.premise) K.width) (waiting S K acc) ≡ true
  unfolding waiting
  waiting_small acc = list_all-filter_kept (λ i. leb (size i.premise) K.width) (λ i. not (has_premise acc i.premise)) (basis_known S K)
      (basis_all S K (λ i. leb (size i.premise) K.width) (λ P e q. le-leb (size P) K.width (omega (arith, size_le P))))

  -- where all that wait are larger than the width, none waits
  pub none_waits : (acc : List Rule) → list_all (λ i. leb (suc K.width) (size i.premise)) (waiting S K acc) ≡ true → waiting S K acc ≡ []
  none_waits acc h = empty (waiting S K acc) (waiting_small acc) h
    where
      empty : (W : List Rule) → list_all (λ i. leb (size i.premise) K.width) W ≡ true
          → list_all (λ i. leb (suc K.width) (size i.premise)) W ≡ true → W ≡ []
      empty [] a b = refl
      empty (i ∷ W) a b = absurd (omega (
        arith,
        leb-true (size i.premise) K.width (and_parts (leb (size i.premise) K.width) (list_all (λ i. leb (size i.premise) K.width) W) a).0,
        leb-true (suc K.width) (size i.premise) (and_parts (leb (suc K.width) (size i.premise))
            (list_all (λ i. leb (suc K.width) (size i.premise)) W) b).0,
      ))

-- ---- the smallest of a list

-- all of size k at least, and none of size k: all of size k + 1 at least
pub larger : (k : ℕ) (W : List Rule) → list_all (λ i. leb k (size i.premise)) W ≡ true → filter (λ i. eqb (size i.premise) k) W ≡ []
    → list_all (λ i. leb (suc k) (size i.premise)) W ≡ true
larger k [] h e = refl
larger k (i ∷ W) h e =
    let parts = and_parts (leb k (size i.premise)) (list_all (λ i. leb k (size i.premise)) W) h in
    let rest = cond_nil (eqb (size i.premise) k) i (filter (λ i. eqb (size i.premise) k) W) e in
    and_from (leb (suc k) (size i.premise)) (list_all (λ i. leb (suc k) (size i.premise)) W)
    (le-leb (suc k) (size i.premise) (omega (arith, leb-true k (size i.premise) parts.0, eqb-false (size i.premise) k rest.0)))
    (larger k W parts.1 rest.1)

least_ge : (k : ℕ) (i : Rule) (W : List Rule) → list_all (λ i. leb k (size i.premise)) (i ∷ W) ≡ true → k ≤ least_size (i ∷ W)
least_ge k i [] h = leb-true k (size i.premise) (and_parts (leb k (size i.premise)) true h).0
least_ge k i (j ∷ W) h =
    let parts = and_parts (leb k (size i.premise)) (list_all (λ i. leb k (size i.premise)) (j ∷ W)) h in
    omega (arith, leb-true k (size i.premise) parts.0, least_ge k j W parts.1)

least_le : (k : ℕ) (i : Rule) (W : List Rule) → filter (λ i. eqb (size i.premise) k) (i ∷ W) ≢ [] → least_size (i ∷ W) ≤ k
least_le k i [] ne = elim (cases_eq (size i.premise) k) [
  | inl e ↦ omega arith
  | inr other ↦ absurd (ne (ap (λ b. cond b (i ∷ []) []) (ne_eqb (size i.premise) k other)))
]
least_le k i (j ∷ W) ne = elim (cases_eq (size i.premise) k) [
  | inl e ↦ omega arith
  | inr other ↦ omega (
    arith,
    least_le k j W (λ e. ne
        (ap (λ b. cond b (i ∷ filter (λ i. eqb (size i.premise) k) (j ∷ W)) (filter (λ i. eqb (size i.premise) k) (j ∷ W)))
        (ne_eqb (size i.premise) k other) ∙ e)),
  )
]

-- all of size k at least, and some of size k: these are the smallest
pub smallest_is : (k : ℕ) (W : List Rule) → list_all (λ i. leb k (size i.premise)) W ≡ true → filter (λ i. eqb (size i.premise) k) W ≢ []
    → smallest W ≡ filter (λ i. eqb (size i.premise) k) W
smallest_is k [] h ne = refl
smallest_is k (i ∷ W) h ne =
    let e : least_size (i ∷ W) ≡ k = omega (arith, least_ge k i W h, least_le k i W ne) in
    ap (λ m. filter (λ j. eqb (size j.premise) m) (i ∷ W)) e

-- what the implication of each pseudo-intent of the size passes, all members of the level pass
pub level_all : (S : List Rule) (K : Context) (k : ℕ) (p : Rule → Bool)
    → ((P : Set) → length P ≡ K.width → pseudo_known S K P ≡ true → size P ≡ k → p (rule P (closure K P)) ≡ true)
    → list_all p (level_of S K k) ≡ true
unfolding level_of
level_all S K k p h = list_all-filter p (λ i. eqb (size i.premise) k) (basis_known S K)
    ∙ basis_all S K (λ i. not (eqb (size i.premise) k) || p i)
    (λ P e q. implies_from (eqb (size P) k) (p (rule P (closure K P))) (λ t. h P e q (eqb-true (size P) k t)))
