-- What is joined to a set because a member is broken lies within each superset that respects all members. So where none is
-- broken any more the set is the least such superset; and each step makes it larger.
use Rattle.std.proofs.Common.{◌≡◌, ℕ, suc, ◌+◌, ◌-◌, ◌<◌, ◌≤◌, Bool, true, false, not, ◌&&◌, ◌||◌, cond, Some, None, List, [], ◌∷◌, ◌++◌}
use Rattle.std.proofs.Common.{length, get_or, take, position, refl, sym, ap, ◌∙◌, subst, arith, inl, inr, eqb, eqb-true, lt-ltb, ◌≢◌, zero}
use Rattle.std.proofs.Common.{set, replicate, get_or-set_same, get_or-set_other, length-set}
use Rattle.std.proofs.lemmas.Bool.{false≢true, and_parts, and_from, cases_lt, cases_eq}
use Rattle.std.proofs.lemmas.List.Quantifiers.{position-Some}
use Rattle.std.proofs.lemmas.List.Sums.{AllPass-from_list_all}
use Rattle.std.proofs.lemmas.List.Folds.{list_all-append}
use Rattle.std.proofs.lemmas.List.{take_more}
use Rattle.std.proofs.lemmas.Simd.{get_or-replicate}
use Rattle.std.specs.List.{list_all, prefix_len}
use Rattle.fca_model.specs.Sets.{Set, size, within, same, join}
use Rattle.fca_model.specs.Implications.{Rule, rule, respects, respects_all, follows}
use Rattle.fca_model.proofs.SetLemmas.{within_refl, within_trans, strictly_from, size_strict, length-join, within-join, within-join_right}
use Rattle.fca_model.proofs.SetLemmas.{join_within, size_le, same-true, same_from, all_sets_at, all_sets_from}
use Rattle.fca_model.proofs.ClosureLemmas.{respects_at, respects_from}
use Rattle.fca_model.proofs.ListLemmas.{list_all-mono, bool_iff, implies_at, implies_from, not_implies-parts, not_not}
use Rattle.implication_closure.specs.Closing.{has_width, HaveWidth, IsClosure, IsPass, Fired}
use Rattle.attr_bits.specs.Difference.{minus}

-- the set does not respect the member
abbrev pub broken : Set → Rule → Bool
broken C i = not (respects C i)

prefix_all : {X : Type 0} (q : X → Bool) (xs : List X) → length xs ≤ prefix_len q xs → list_all q xs ≡ true
prefix_all q [] h = refl
prefix_all q (x ∷ xs) h = go (q x) (prefix_all q xs) h
  where
    go : (b : Bool) → (length xs ≤ prefix_len q xs → list_all q xs ≡ true) → suc (length xs) ≤ cond b (1 + prefix_len q xs) 0
        → (b && list_all q xs) ≡ true
    go true rest h = rest (omega arith)
    go false rest h = absurd (omega arith)

-- no place is found only where no element passes
pub position_none : {X : Type 0} (p : X → Bool) (xs : List X) → position p xs ≡ None → list_all (λ x. not (p x)) xs ≡ true
position_none p xs h = elim (cases_lt (prefix_len (λ x. not (p x)) xs) (length xs)) [
  | inl lt ↦ absurd (some_none (ap (λ b. cond b (Some (prefix_len (λ x. not (p x)) xs)) None)
      (sym (lt-ltb (prefix_len (λ x. not (p x)) xs) (length xs) lt)) ∙ h))
  | inr le ↦ prefix_all (λ x. not (p x)) xs le
]
  where
    some_none : {n : ℕ} → Some n ≡ None → ⊥
    some_none e = cc

module _ (J : List Rule) (A : Set) (wide : HaveWidth (length A) J) where
  broken_at : (C : Set) (i : ℕ) (j : Rule) → position (broken C) J ≡ Some i → j ≡ get_or J i j
      → (i < length J) × (within j.premise C ≡ true) × (within j.conclusion C ≡ false) × (length j.conclusion ≡ length A)
  broken_at C i j at is =
      let there = position-Some (broken C) J i j at in
      let parts = not_implies-parts (within j.premise C) (within j.conclusion C) (ap (broken C) is ∙ there.1) in
      let widths = and_parts (eqb (length j.premise) (length A)) (eqb (length j.conclusion) (length A))
      (ap (has_width (length A)) is ∙ AllPass-from_list_all (has_width (length A)) J wide i j there.0) in
      (there.0, parts.0, parts.1, eqb-true (length j.conclusion) (length A) widths.1)

  -- a member that is broken adds an attribute
  closes_smaller : (C : Set) (i : ℕ) (j : Rule) → length C ≡ length A → position (broken C) J ≡ Some i → j ≡ get_or J i j
      → size C < size (join C j.conclusion)
  closes_smaller C i j e at is =
      let b = broken_at C i j at is in
      size_strict C (join C j.conclusion) (sym (length-join C j.conclusion))
      (strictly_from C (join C j.conclusion) (within-join C j.conclusion)
      (λ z. false≢true (sym b.2 ∙ subst (λ X. within j.conclusion X ≡ true) (sym z) (within-join_right C j.conclusion (e ∙ sym b.3)))))

  pub closes_within : (C T : Set) (i : ℕ) (j : Rule) → position (broken C) J ≡ Some i → j ≡ get_or J i j → within C T ≡ true
      → respects_all J T ≡ true → within (join C j.conclusion) T ≡ true
  closes_within C T i j at is inside r =
      let b = broken_at C i j at is in
      let mine : respects T j ≡ true = ap (respects T) is ∙ AllPass-from_list_all (respects T) J r i j b.0 in
      join_within C j.conclusion T inside (respects_at T j mine (within_trans j.premise C T b.1 inside))

  pub closes_measure : (C N : Set) (i : ℕ) (j : Rule) → length C ≡ length A → position (broken C) J ≡ Some i → j ≡ get_or J i j
      → N ≡ join C j.conclusion → length A - size N < length A - size C
  closes_measure C N i j e at is n =
      let s : size N ≡ size (join C j.conclusion) = ap size n in
      omega (arith, closes_smaller C i j e at is, size_le N, ap length n, length-join C j.conclusion)

  pub closed_end : (C : Set) → length C ≡ length A → within A C ≡ true
      → ((T : Set) → within A T ≡ true → respects_all J T ≡ true → within C T ≡ true) → position (broken C) J ≡ None → IsClosure J A C
  closed_end C e up least none = record {
    wide = e;
    above = up;
    respecting = list_all-mono (λ i. not (broken C i)) (respects C) (λ i h. not_not (respects C i) h) J (position_none (broken C) J none);
    least = least;
  }

-- ---- a pass over the members

pub pass_none : (A : Set) → IsPass [] A A
pass_none A = record { wide = refl; above = within_refl A; absorbed = refl; bounded = λ T h r. h }

pass_step : (J : List Rule) (A C D : Set) (j : Rule) → IsPass J A C → length D ≡ length C → within C D ≡ true
    → (within j.premise C ≡ true → within j.conclusion D ≡ true)
    → ((T : Set) → within C T ≡ true → respects T j ≡ true → within D T ≡ true) → IsPass (J ++ j ∷ []) A D
pass_step J A C D j p e up new least = record {
  wide = e ∙ p.wide;
  above = within_trans A C D p.above up;
  absorbed = list_all-append (λ i. not (within i.premise A) || within i.conclusion D) J (j ∷ [])
      ∙ and_from (list_all (λ i. not (within i.premise A) || within i.conclusion D) J)
      ((not (within j.premise A) || within j.conclusion D) && true)
      (list_all-mono (λ i. not (within i.premise A) || within i.conclusion C) (λ i. not (within i.premise A) || within i.conclusion D)
      (λ i h. implies_from (within i.premise A) (within i.conclusion D)
      (λ a. within_trans i.conclusion C D (implies_at (within i.premise A) (within i.conclusion C) h a) up)) J p.absorbed)
      (and_from (not (within j.premise A) || within j.conclusion D) true
      (implies_from (within j.premise A) (within j.conclusion D) (λ a. new (within_trans j.premise A C a p.above))) refl);
  bounded = λ T h r.
      let parts = and_parts (list_all (respects T) J) (respects T j && true) (sym (list_all-append (respects T) J (j ∷ [])) ∙ r) in
      least T (p.bounded T h parts.0) (and_parts (respects T j) true parts.1).0;
}

module _ (J : List Rule) (A C : Set) (i : ℕ) (j : Rule) (lt : i < length J) (is : j ≡ get_or J i j) (p : IsPass (take i J) A C) where
  next : take (i + 1) J ≡ take i J ++ j ∷ []
  next = take_more J i j lt ∙ ap (λ y. take i J ++ y ∷ []) (sym is)

  pub pass_joins : (D : Set) → HaveWidth (length A) J → within j.premise C ≡ true → D ≡ join C j.conclusion → IsPass (take (i + 1) J) A D
  pass_joins D wide t d =
      let widths = and_parts (eqb (length j.premise) (length A)) (eqb (length j.conclusion) (length A))
      (ap (has_width (length A)) is ∙ AllPass-from_list_all (has_width (length A)) J wide i j lt) in
      subst (λ Zs. IsPass Zs A D) (sym next) (subst (λ X. IsPass (take i J ++ j ∷ []) A X) (sym d)
      (pass_step (take i J) A C (join C j.conclusion) j p (length-join C j.conclusion) (within-join C j.conclusion)
      (λ _. within-join_right C j.conclusion (p.wide ∙ sym (eqb-true (length j.conclusion) (length A) widths.1)))
      (λ T h r. join_within C j.conclusion T h (respects_at T j r (within_trans j.premise C T t h)))))

  pub absorbs : HaveWidth (length A) J → within j.conclusion (join C j.conclusion) ≡ true
  absorbs wide =
      let widths = and_parts (eqb (length j.premise) (length A)) (eqb (length j.conclusion) (length A))
      (ap (has_width (length A)) is ∙ AllPass-from_list_all (has_width (length A)) J wide i j lt) in
      within-join_right C j.conclusion (p.wide ∙ sym (eqb-true (length j.conclusion) (length A) widths.1))

  pub pass_skips : within j.premise C ≡ false → IsPass (take (i + 1) J) A C
  pass_skips f = subst (λ Zs. IsPass Zs A C) (sym next)
      (pass_step (take i J) A C C j p refl (within_refl C) (λ t. absurd (false≢true (sym f ∙ t))) (λ T h _. h))

-- ---- the counters of a pass

not_true : (b : Bool) → (b ≡ true → ⊥) → b ≡ false
not_true true h = absurd (h refl)
not_true false h = refl

get_or_any : {X : Type 0} (xs : List X) (k : ℕ) (d e : X) → k < length xs → get_or xs k d ≡ get_or xs k e
get_or_any [] k d e h = absurd (omega arith)
get_or_any (x ∷ xs) zero d e h = refl
get_or_any (x ∷ xs) (suc k) d e h = get_or_any xs k d e (omega arith)

-- nothing is left of a set without the members of another exactly where it lies within it
pub size-minus_none : (A B : Set) → size (minus A B) ≡ 0 → within A B ≡ true
size-minus_none [] B h = refl
size-minus_none (true ∷ A) [] h = absurd (omega arith)
size-minus_none (false ∷ A) [] h = size-minus_none A [] (omega (arith, h))
size-minus_none (true ∷ A) (true ∷ B) h = size-minus_none A B (omega (arith, h))
size-minus_none (true ∷ A) (false ∷ B) h = absurd (omega arith)
size-minus_none (false ∷ A) (b ∷ B) h = size-minus_none A B (omega (arith, h))

pub size-minus_some : (A B : Set) → within A B ≡ true → size (minus A B) ≡ 0
size-minus_some [] B h = refl
size-minus_some (true ∷ A) [] h = absurd (false≢true h)
size-minus_some (false ∷ A) [] h = omega (arith, size-minus_some A [] h)
size-minus_some (true ∷ A) (true ∷ B) h = omega (arith, size-minus_some A B h)
size-minus_some (true ∷ A) (false ∷ B) h = absurd (false≢true h)
size-minus_some (false ∷ A) (b ∷ B) h = omega (arith, size-minus_some A B h)

-- at the start none is reached
pub none_fired : (J : List Rule) (n : ℕ) (C : Set) → length J ≤ n → Fired (replicate n 1) J C
none_fired J n C room k i l is z = absurd (omega (arith, get_or-replicate {A = ℕ} n k 1 0 (omega (arith, room)), z))

-- the first k members have been passed
pub record IsSwept (left : List ℕ) (J : List Rule) (A : Set) (k : ℕ) (C : Set) : Type 0 where
  pub pass : IsPass (take k J) A C
  pub fired : Fired left J C
  pub room : length J ≤ length left

fired_grows : (left : List ℕ) (J : List Rule) (C D : Set) → within C D ≡ true → Fired left J C → Fired left J D
fired_grows left J C D up f k i l is z = within_trans i.conclusion C D (f k i l is z) up

fired_set : (left : List ℕ) (J : List Rule) (C : Set) (k v : ℕ) (j : Rule) → k < length left → j ≡ get_or J k j
    → (v ≡ 0 → within j.conclusion C ≡ true) → Fired left J C → Fired (set left k v) J C
fired_set left J C k v j inside is here f m i l is_i z = elim (cases_eq m k) [
  | inl e ↦
      let mine : i ≡ j = is_i ∙ ap (λ n. get_or J n i) e ∙ get_or_any J k i j (subst (λ n. n < length J) e l) ∙ sym is in
      ap (λ r. within r.conclusion C) mine ∙ here (sym (get_or-set_same left k v 0 inside) ∙ ap (λ n. get_or (set left k v) n 0) (sym e)
      ∙ z)
  | inr other ↦ f m i l is_i (sym (get_or-set_other left k m v 0 other) ∙ z)
]

module _ (left : List ℕ) (J : List Rule) (A C : Set) (k : ℕ) (j : Rule) (lt : k < length J) (is : j ≡ get_or J k j)
    (w : IsSwept left J A k C) where
  -- it was reached before
  pub sweep_skips : get_or left k 0 ≡ 0 → IsSwept left J A (k + 1) C
  sweep_skips z = record {
    pass = subst (λ Zs. IsPass Zs A C) (sym (next J A C k j lt is w.pass))
        (pass_step (take k J) A C C j w.pass refl (within_refl C) (λ _. w.fired k j lt is z) (λ T h _. h));
    fired = w.fired;
    room = w.room;
  }

  -- some of its premise is left
  pub sweep_counts : (v : ℕ) → v ≡ size (minus j.premise C) → v ≢ 0 → IsSwept (set left k v) J A (k + 1) C
  sweep_counts v e some = record {
    pass = pass_skips J A C k j lt is w.pass (not_true (within j.premise C) (λ t. some (e ∙ size-minus_some j.premise C t)));
    fired = fired_set left J C k v j (omega (arith, w.room)) is (λ z. absurd (some z)) w.fired;
    room = omega (arith, w.room, length-set left k v);
  }

  -- none is left
  pub sweep_joins : (v : ℕ) (D : Set) → HaveWidth (length A) J → v ≡ size (minus j.premise C) → v ≡ 0 → D ≡ join C j.conclusion
      → IsSwept (set left k v) J A (k + 1) D
  sweep_joins v D wide e none d =
      let inside : within j.premise C ≡ true = size-minus_none j.premise C (sym e ∙ none) in
      let joined = pass_joins J A C k j lt is w.pass D wide inside d in
      let up : within C D ≡ true = ap (within C) d ∙ within-join C j.conclusion in
      let has = absorbs J A C k j lt is w.pass wide in
      record {
        pass = joined;
        fired = fired_set left J D k v j (omega (arith, w.room)) is (λ _. ap (within j.conclusion) d ∙ has)
            (fired_grows left J C D up w.fired);
        room = omega (arith, w.room, length-set left k v);
      }

-- ---- passes, until one adds nothing

pub passes_measure : (J : List Rule) (A C D : Set) → length C ≡ length A → IsPass J C D → same D C ≡ false
    → length A - size D < length A - size C
passes_measure J A C D e p other =
    let s = size_strict C D (sym p.wide) (strictly_from C D p.above (λ z. false≢true (sym other ∙ same_from D C (sym z)))) in
    let w = p.wide in
    omega (arith, s, size_le D, w, e)

pub passes_end : (J : List Rule) (A C D : Set) → length C ≡ length A → within A C ≡ true
    → ((T : Set) → within A T ≡ true → respects_all J T ≡ true → within C T ≡ true) → IsPass J C D → same D C ≡ true → IsClosure J A C
passes_end J A C D e up least p is = record {
  wide = e;
  above = up;
  respecting = subst (λ X. list_all (λ i. not (within i.premise C) || within i.conclusion X) J ≡ true) (same-true D C is) p.absorbed;
  least = least;
}

-- ---- what follows from the list

pub follows_by_closure : (n : ℕ) (J : List Rule) (P C D : Set) → length P ≡ n → IsClosure J P D → within C D ≡ follows n J (rule P C)
unfolding follows
follows_by_closure n J P C D e c = bool_iff (within C D) (follows n J (rule P C))
    (λ h. all_sets_from (λ T. not (respects_all J T) || respects T (rule P C)) n
    (λ T w. implies_from (respects_all J T) (respects T (rule P C))
    (λ r. respects_from T (rule P C) (λ p. within_trans C D T h (c.least T p r)))))
    (λ h. respects_at D (rule P C) (implies_at (respects_all J D) (respects D (rule P C))
    (all_sets_at (λ T. not (respects_all J T) || respects T (rule P C)) n D (c.wide ∙ e) h) c.respecting) c.above)
