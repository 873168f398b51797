-- The next level by one walk: an equation at each place of the tree for the sets that respect the list, are not closed and are no larger
-- than a bound; at the end those of the least size are the members of the next level.
use Rattle.std.proofs.Common.{◌≡◌, ℕ, suc, cond, ap₂, ◌<◌, ◌≤◌, ◌+◌, Bool, true, false, not, ◌&&◌, ◌||◌, List, [], ◌∷◌, ◌++◌, length}
use Rattle.std.proofs.Common.{get_or, set}
use Rattle.std.proofs.Common.{map, filter, refl, sym, ap, ◌∙◌, subst, arith, inl, inr, ◌⊎◌, eqb, eqb-true, eq-eqb, leb, le-leb, leb-true}
use Rattle.std.proofs.Common.{ltb}
use Rattle.std.proofs.Common.{get_or-set_same, length-set}
use Rattle.std.proofs.lemmas.Bool.{false≢true, and_parts, and_from, cases_Bool, cases_lt, or_cases, or_left, or_right, not-true, lt-leb}
use Rattle.std.proofs.lemmas.Bool.{ltb-true, lt-ltb}
use Rattle.std.proofs.lemmas.List.{map-append}
use Rattle.std.proofs.lemmas.List.Folds.{list_all-append, list_all-map}
use Rattle.std.specs.List.{list_all, list_any}
use Rattle.std.specs.Ordering.{is_lt}
use Rattle.fca_model.specs.Sets.{Set, within, same, size, all_sets, lectic_cmp, agree_before}
use Rattle.fca_model.specs.Context.{Context, closure, is_closed}
use Rattle.fca_model.specs.Implications.{Rule, rule, respects, respects_all}
use Rattle.fca_model.specs.Pseudo.{pseudo_known}
use Rattle.fca_model.specs.Levels.{level_of, HasBelow}
use Rattle.fca_model.proofs.SetLemmas.{within_refl, set_within, within_at_place, same-true, same_from, size_mono, same_by_size, size_le}
use Rattle.fca_model.proofs.SetLemmas.{size_strict}
use Rattle.fca_model.proofs.SetLemmas.{strictly-parts, within_antisymm, all_sets_widths, all_sets_increasing, agree_at}
use Rattle.fca_model.proofs.ListLemmas.{bool_iff, list_all-mono, list_all-and, list_any_at, list_any-map, filter-map, filter-filter}
use Rattle.fca_model.proofs.ListLemmas.{filter_passes}
use Rattle.fca_model.proofs.ListLemmas.{filter_none, filter_agree_on, list_all-filter_kept}
use Rattle.fca_model.proofs.ClosureLemmas.{respects_at, length-closure, closure_extensive}
use Rattle.fca_model.proofs.PseudoLemmas.{pseudo_parts, pseudo_from, basis_all, basis_at}
use Rattle.fca_model.proofs.LevelLemmas.{respects_found, level_is, level_all}
use Rattle.fca_model.proofs.SortedLemmas.{in_filter, in_all_sets, increasing-filter, split_filter}
use Rattle.implication_closure.specs.Closing.{IsClosure, HaveWidth, has_width}
use Rattle.lectic_basis.specs.Trees.{before, up_to}
use Rattle.next_level.specs.NextLevel.{is_open_within, is_open_of_size, open_where, everything, IsOpen, IsLeastUnder, IsLeastLevel, IsNextLevel}
use Rattle.next_level.specs.Among.{AllAmong, IsAhead, IsRest, may_be_open}
use Rattle.next_level.specs.LevelWalks.{IsLeastSize}
use Rattle.lectic_basis.proofs.PlaceLemmas as places
use Rattle.lectic_basis.proofs.ListingLemmas.{same_listed, listed_push, filter_nothing}

-- ---- the closure of a set with one attribute more

module _ (J : List Rule) (n : ℕ) (A : Set) (wide : length A ≡ n) where
  pub closure_wide : (i : ℕ) → i < n → (C : Set) → IsClosure J (set A i true) C → length C ≡ n
  closure_wide i inside C c = c.wide ∙ length-set A i true ∙ wide

  pub closure_has : (i : ℕ) → i < n → (C : Set) → IsClosure J (set A i true) C → get_or C i false ≡ true
  closure_has i inside C c = within_at_place (set A i true) C c.above i (get_or-set_same A i true false (omega (arith, wide, inside)))

  pub closure_least : (from i : ℕ) → from ≤ i → i < n → IsLeastUnder J n A from → (C : Set) → IsClosure J (set A i true) C
      → agree_before i A C ≡ true → IsLeastUnder J n C (suc i)
  closure_least from i on inside least C c agree X e r h =
      let at_i : agree_before i A X ≡ true = sym (places.agree_same i A C X agree) ∙ places.agree_less i (suc i) C X (omega arith) h in
      c.least X (set_within A X i (least X e r (places.agree_less from i A X on at_i))
      (sym (agree_at (suc i) C X h i (omega arith)) ∙ closure_has i inside C c)) r

-- those of a listing whose premises pass another test
filter_listed : (K : Context) (p q r t : Set → Bool) → ((X : Set) → length X ≡ K.width → (q X && t X) ≡ r X)
    → filter (λ i. t i.premise) (map (λ P. rule P (closure K P)) (filter p (filter q (all_sets K.width)))) ≡ map (λ P. rule P (closure K P))
    (filter p (filter r (all_sets K.width)))
filter_listed K p q r t h =
    filter-map (λ (i : Rule). t i.premise) (λ P. rule P (closure K P)) (filter p (filter q (all_sets K.width)))
    ∙ ap (map (λ P. rule P (closure K P)))
    (filter-filter t p (filter q (all_sets K.width))
    ∙ filter-filter (λ X. p X && t X) q (all_sets K.width)
    ∙ filter_agree_on (λ X. eqb (length X) K.width) (λ X. q X && (p X && t X)) (λ X. r X && p X)
    (λ X e. turn (q X) (p X) (t X) ∙ ap (λ b. b && p X) (h X (eqb-true (length X) K.width e)))
    (all_sets K.width) (all_sets_widths K.width)
    ∙ sym (filter-filter p r (all_sets K.width)))
  where
    turn : (a b c : Bool) → (a && (b && c)) ≡ ((a && c) && b)
    turn true true true = refl
    turn true true false = refl
    turn true false true = refl
    turn true false false = refl
    turn false b c = refl

module _ (J : List Rule) (K : Context) where
  -- where the bound falls, the larger ones are left out
  pub open_lower : (b c : ℕ) (p : Set → Bool) (L : List Rule) → c ≤ b → L ≡ open_where J K b p
      → filter (λ i. leb (size i.premise) c) L ≡ open_where J K c p
  unfolding open_where
  open_lower b c p L le l = ap (filter (λ i. leb (size i.premise) c)) l
      ∙ filter_listed K p (is_open_within J K b) (is_open_within J K c) (λ X. leb (size X) c) (λ X e.
      let core : Bool = respects_all J X && not (is_closed K X) in
      bool_iff ((core && leb (size X) b) && leb (size X) c) (core && leb (size X) c)
      (λ t. let parts = and_parts (core && leb (size X) b) (leb (size X) c) t in
      and_from core (leb (size X) c) (and_parts core (leb (size X) b) parts.0).0 parts.1)
      (λ t. let parts = and_parts core (leb (size X) c) t in
      and_from (core && leb (size X) b) (leb (size X) c)
      (and_from core (leb (size X) b) parts.0 (le-leb (size X) b
      (let at_most = leb-true (size X) c parts.1 in omega (arith, at_most, le)))) parts.1))

  -- tests that agree on the open sets
  pub same_where : (b : ℕ) (p q : Set → Bool) (L : List Rule)
      → ((X : Set) → length X ≡ K.width → respects_all J X ≡ true → is_closed K X ≡ false → size X ≤ b → p X ≡ q X)
      → L ≡ open_where J K b p → L ≡ open_where J K b q
  unfolding open_where
  same_where b p q L h l = l ∙ same_listed K (is_open_within J K b) p q (λ X e t.
      let parts = and_parts (respects_all J X && not (is_closed K X)) (leb (size X) b) t in
      let both = and_parts (respects_all J X) (not (is_closed K X)) parts.0 in
      h X e both.0 (not-true (is_closed K X) both.1) (leb-true (size X) b parts.1))

  -- ---- one attribute

  pub member_open : (i b : ℕ) (A : Set) (L : List Rule) → get_or A i false ≡ true → L ≡ open_where J K b (up_to (suc i) A)
      → L ≡ open_where J K b (up_to i A)
  member_open i b A L has = same_where b (up_to (suc i) A) (up_to i A) L (λ X e r n s. places.up_to_member i A X has)

  module _ (A : Set) (from i : ℕ) (on : from ≤ i) (least : IsLeastUnder J K.width A from) (lacks : get_or A i false ≡ false) where
    pub none_open : (b : ℕ) (L : List Rule) → ((T : Set) → IsOpen J K everything T → within (set A i true) T ≡ true
        → agree_before i A T ≡ false)
        → L ≡ open_where J K b (up_to (suc i) A) → L ≡ open_where J K b (up_to i A)
    none_open b L differs = same_where b (up_to (suc i) A) (up_to i A) L (λ P e r n s. bool_iff (up_to (suc i) A P) (up_to i A P)
        (λ h. places.up_to_less i (suc i) A P (omega arith) h)
        (λ h. elim (or_cases (before i A P) (agree_before i A P) h) [
          | inl first ↦ places.before_up_to i (suc i) A P (omega arith) first
          | inr agree ↦ elim (cases_Bool (get_or P i false)) [
            | inl has ↦ absurd (false≢true (sym (differs P (record { wide = e; respecting = r; not_closed = n; passes = refl })
                (set_within A P i (least P e r (places.agree_less from i A P on agree)) has)) ∙ agree))
            | inr not ↦ places.agree_up_to (suc i) A P (places.agree_more i A P agree (lacks ∙ sym not))
          ]
        ]))

    module _ (C : Set) (has : get_or C i false ≡ true) (agree : agree_before i A C ≡ true) where
      pub child_open : (b : ℕ) (L : List Rule) → L ≡ open_where J K b (up_to (suc i) A) → L ≡ open_where J K b (before (suc i) C)
      child_open b L = same_where b (up_to (suc i) A) (before (suc i) C) L (λ P e r n s. sym (places.child_before i A C P lacks has agree))

      pub child_done : (b : ℕ) (L : List Rule) → L ≡ open_where J K b (up_to (suc i) C) → L ≡ open_where J K b (up_to i A)
      child_done b L = same_where b (up_to (suc i) C) (up_to i A) L (λ P e r n s. places.child_up_to i A C P lacks has agree)

  -- ---- a visit

  module _ (A : Set) (wide : length A ≡ K.width) (from : ℕ) (inside : from ≤ K.width) (least : IsLeastUnder J K.width A from) (b : ℕ)
      (L : List Rule) where
    -- what comes behind A in its branch is larger
    behind : (X : Set) → length X ≡ K.width → respects_all J X ≡ true → up_to from A X ≡ true
        → (up_to K.width A X ≡ true) ⊎ (size A < size X)
    behind X e r h = elim (or_cases (before from A X) (agree_before from A X) h) [
      | inl first ↦ inl (places.before_up_to from K.width A X inside first)
      | inr agree ↦
          let up : within A X ≡ true = least X e r agree in
          elim (cases_lt (size A) (size X)) [
            | inl lt ↦ inr lt
            | inr ge ↦ inl (places.within_up_to K.width A X
                (subst (λ Y. within Y A ≡ true) (same_by_size A X (wide ∙ sym e) up ge) (within_refl A)))
          ]
    ]

    -- what was seen with A, and is not before it, is A
    itself_or : (X : Set) → length X ≡ K.width → respects_all J X ≡ true → up_to K.width A X ≡ true → (before from A X ≡ true) ⊎ (A ≡ X)
    itself_or X e r h = elim (or_cases (before from A X) (agree_before from A X) (places.up_to_less from K.width A X inside h)) [
      | inl first ↦ inl first
      | inr agree ↦ inr (places.agree_all K.width A X wide e
          (places.up_to_agree K.width A X h (places.within_not_before K.width A X (least X e r agree))))
    ]

    -- a branch of larger sets than the bound
    pub open_larger : b < size A → L ≡ open_where J K b (before from A) → L ≡ open_where J K b (up_to from A)
    open_larger lt = same_where b (before from A) (up_to from A) L (λ X e r n s. bool_iff (before from A X) (up_to from A X)
        (λ h. places.before_up_to from from A X (omega arith) h)
        (λ h. elim (or_cases (before from A X) (agree_before from A X) h) [
          | inl first ↦ first
          | inr agree ↦ absurd (let le = size_mono A X (least X e r agree) in omega (arith, lt, le, s))
        ]))

    -- what comes behind A is larger than the bound
    pub open_branch : b ≤ size A → L ≡ open_where J K b (up_to K.width A) → L ≡ open_where J K b (up_to from A)
    open_branch le = same_where b (up_to K.width A) (up_to from A) L (λ X e r n s. bool_iff (up_to K.width A X) (up_to from A X)
        (λ h. places.up_to_less from K.width A X inside h)
        (λ h. elim (behind X e r h) [ inl here ↦ here | inr lt ↦ absurd (omega (arith, le, lt, s)) ]))

    -- a closed set
    pub open_closed : is_closed K A ≡ true → L ≡ open_where J K b (before from A) → L ≡ open_where J K b (up_to K.width A)
    open_closed closed = same_where b (before from A) (up_to K.width A) L (λ X e r n s. bool_iff (before from A X) (up_to K.width A X)
        (λ h. places.before_up_to from K.width A X inside h)
        (λ h. elim (itself_or X e r h) [
          | inl first ↦ first
          | inr one ↦
              absurd (false≢true (sym n ∙ subst (λ Y. is_closed K Y ≡ true) one closed))
        ]))

    -- one that is not closed
    pub open_push : respects_all J A ≡ true → is_closed K A ≡ false → size A ≤ b → L ≡ open_where J K b (before from A)
        → L ++ rule A (closure K A) ∷ [] ≡ open_where J K b (up_to K.width A)
    unfolding open_where
    open_push respecting open_set le l =
        ap (λ Zs. Zs ++ rule A (closure K A) ∷ []) l
        ∙ listed_push K (is_open_within J K b) from A wide
        (and_from (respects_all J A && not (is_closed K A)) (leb (size A) b)
        (and_from (respects_all J A) (not (is_closed K A)) respecting (ap not open_set)) (le-leb (size A) b le))
        ∙ same_listed K (is_open_within J K b) (λ X. before from A X || same A X) (up_to K.width A) (λ X e t.
        let both = and_parts (respects_all J X) (not (is_closed K X))
        (and_parts (respects_all J X && not (is_closed K X)) (leb (size X) b) t).0 in
        bool_iff (before from A X || same A X) (up_to K.width A X)
        (λ h. elim (or_cases (before from A X) (same A X) h) [
          | inl first ↦ places.before_up_to from K.width A X inside first
          | inr one ↦ places.within_up_to K.width A X (subst (λ Y. within Y A ≡ true) (same-true A X one) (within_refl A))
        ])
        (λ h. elim (itself_or X e both.0 h) [
          | inl first ↦ or_left (before from A X) (same A X) first
          | inr one ↦ or_right (before from A X) (same A X) (same_from A X one)
        ]))

-- ---- the level

map_none : {X Y : Type 0} (f : X → Y) (xs : List X) → map f xs ≡ [] → xs ≡ []
map_none f [] e = refl
map_none f (x ∷ xs) e = absurd (cc)

all_pass : (Xs : List Set) → filter (λ X. true) Xs ≡ Xs
all_pass [] = refl
all_pass (X ∷ Xs) = ap (λ Zs. X ∷ Zs) (all_pass Xs)

filter_empty : {X : Type 0} (p : X → Bool) (xs : List X) → list_any p xs ≡ false → filter p xs ≡ []
filter_empty p [] h = refl
filter_empty p (x ∷ xs) h = go (p x) h (filter_empty p xs)
  where
    go : (b : Bool) → (b || list_any p xs) ≡ false → (list_any p xs ≡ false → filter p xs ≡ [])
        → cond b (x ∷ filter p xs) (filter p xs) ≡ []
    go true h rest = absurd (false≢true (sym h))
    go false h rest = rest h

-- what passes one test stays under another that it passes
any_kept : {X : Type 0} (p q : X → Bool) → ((x : X) → p x ≡ true → q x ≡ true) → (xs : List X) → list_any p xs ≡ true
    → list_any p (filter q xs) ≡ true
any_kept p q h [] a = absurd (false≢true a)
any_kept p q h (x ∷ xs) a = go (q x) refl (or_cases (p x) (list_any p xs) a) (any_kept p q h xs)
  where
    go : (b : Bool) → q x ≡ b → ((p x ≡ true) ⊎ (list_any p xs ≡ true)) → (list_any p xs ≡ true → list_any p (filter q xs) ≡ true)
        → list_any p (cond b (x ∷ filter q xs) (filter q xs)) ≡ true
    go true e (inl here) rest = or_left (p x) (list_any p (filter q xs)) here
    go true e (inr there) rest = or_right (p x) (list_any p (filter q xs)) (rest there)
    go false e (inl here) rest = absurd (false≢true (sym e ∙ h x here))
    go false e (inr there) rest = rest there

-- ---- of all open sets up to a bound, those of the least size

module _ (J : List Rule) (K : Context) (c : ℕ) (L : List Rule) (l : L ≡ open_where J K c everything) where
  sets_are : list_all (λ P. eqb (length P) K.width && is_open_within J K c P) (filter (is_open_within J K c) (all_sets K.width)) ≡ true
  sets_are = list_all-and (λ P. eqb (length P) K.width) (is_open_within J K c) (filter (is_open_within J K c) (all_sets K.width))
      (list_all-filter_kept (λ P. eqb (length P) K.width) (is_open_within J K c) (all_sets K.width) (all_sets_widths K.width))
      (filter_passes (is_open_within J K c) (all_sets K.width))

  sizes_are : list_all (λ i. leb (size i.premise) c) L ≡ true
  unfolding open_where
  sizes_are = ap (list_all (λ i. leb (size i.premise) c)) l
      ∙ list_all-map (λ (i : Rule). leb (size i.premise) c) (λ P. rule P (closure K P))
      (filter everything (filter (is_open_within J K c) (all_sets K.width)))
      ∙ list_all-filter_kept (λ P. leb (size P) c) everything (filter (is_open_within J K c) (all_sets K.width))
      (list_all-mono (λ P. eqb (length P) K.width && is_open_within J K c P) (λ P. leb (size P) c)
      (λ P t. (and_parts (respects_all J P && not (is_closed K P)) (leb (size P) c)
      (and_parts (eqb (length P) K.width) (is_open_within J K c P) t).1).1) (filter (is_open_within J K c) (all_sets K.width)) sets_are)

  -- an open set is listed
  pub listed_open : (X : Set) → IsOpen J K everything X → size X ≤ c → list_any (λ i. same X i.premise) L ≡ true
  unfolding open_where
  listed_open X x le =
      ap (list_any (λ i. same X i.premise)) l
      ∙ list_any-map (λ (i : Rule). same X i.premise) (λ P. rule P (closure K P))
      (filter everything (filter (is_open_within J K c) (all_sets K.width)))
      ∙ in_filter everything X (filter (is_open_within J K c) (all_sets K.width))
      (in_filter (is_open_within J K c) X (all_sets K.width) (in_all_sets K.width X x.wide)
      (and_from (respects_all J X && not (is_closed K X)) (leb (size X) c)
      (and_from (respects_all J X) (not (is_closed K X)) x.respecting (ap not x.not_closed)) (le-leb (size X) c le))) refl

  module _ (all : L ≡ [] → K.width ≤ c) (b : ℕ) (s : IsLeastSize (K.width + 1) L b) where
    at_most : (b ≤ c) ⊎ (b ≡ K.width + 1)
    at_most = elim s.reached [
      | inl past ↦ inr past
      | inr there ↦
          let w = list_any_at (λ i. eqb (size i.premise) b) (λ i. leb (size i.premise) c) L there sizes_are in
          let here : size (w.0).premise ≡ b = eqb-true (size (w.0).premise) b w.1 in
          let le : size (w.0).premise ≤ c = leb-true (size (w.0).premise) c w.2 in
          inl (omega (arith, here, le))
    ]

    -- an open set that is not listed is larger
    unlisted : (xs : List Rule) → xs ≡ L → (X : Set) → IsOpen J K everything X → c < size X → b ≤ size X
    unlisted [] e X x lt = absurd (let le = all (sym e) in let most = size_le X in let w = x.wide in omega (arith, le, most, w, lt))
    unlisted (i ∷ xs) e X x lt =
        let least = leb-true b (size i.premise) (and_parts (leb b (size i.premise)) (list_all (λ j. leb b (size j.premise)) xs)
        (ap (list_all (λ j. leb b (size j.premise))) e ∙ s.least)).0 in
        let most = leb-true (size i.premise) c (and_parts (leb (size i.premise) c) (list_all (λ j. leb (size j.premise) c) xs)
        (ap (list_all (λ j. leb (size j.premise) c)) e ∙ sizes_are)).0 in
        omega (arith, least, most, lt)

    least_open : (X : Set) → IsOpen J K everything X → b ≤ size X
    least_open X x = elim (cases_lt c (size X)) [
      | inl lt ↦ unlisted L refl X x lt
      | inr le ↦
          let w = list_any_at (λ i. same X i.premise) (λ i. leb b (size i.premise)) L (listed_open X x le) s.least in
          let one : X ≡ (w.0).premise = same-true X (w.0).premise w.1 in
          subst (λ (Y : Set). b ≤ size Y) (sym one) (leb-true b (size (w.0).premise) w.2)
    ]

    of_least : filter (λ i. eqb (size i.premise) b) L ≡ map (λ P. rule P (closure K P)) (filter (is_open_of_size J K b) (all_sets K.width))
    unfolding open_where
    of_least =
        ap (filter (λ i. eqb (size i.premise) b)) l ∙ filter_listed K everything (is_open_within J K c) (is_open_of_size J K b) (λ X. eqb (size X) b)
        (λ X e.
        let core : Bool = respects_all J X && not (is_closed K X) in
        bool_iff ((core && leb (size X) c) && eqb (size X) b) (core && eqb (size X) b)
        (λ t. let parts = and_parts (core && leb (size X) c) (eqb (size X) b) t in
        and_from core (eqb (size X) b) (and_parts core (leb (size X) c) parts.0).0 parts.1)
        (λ t.
        let parts = and_parts core (eqb (size X) b) t in
        let here : size X ≡ b = eqb-true (size X) b parts.1 in
        let most = size_le X in
        let le : size X ≤ c = elim at_most [ inl le ↦ omega (arith, le, here) | inr past ↦ absurd (omega (arith, past, here, most, e)) ] in
        and_from (core && leb (size X) c) (eqb (size X) b) (and_from core (leb (size X) c) parts.0 (le-leb (size X) c le)) parts.1))
        ∙ ap (map (λ P. rule P (closure K P))) (all_pass (filter (is_open_of_size J K b) (all_sets K.width)))

    one_open : list_any (λ i. eqb (size i.premise) b) L ≡ true → (X : Set) × IsOpen J K everything X × (size X ≡ b)
    unfolding open_where
    one_open there =
        let among = sym (ap (list_any (λ i. eqb (size i.premise) b)) l
        ∙ list_any-map (λ (i : Rule). eqb (size i.premise) b) (λ P. rule P (closure K P))
        (filter everything (filter (is_open_within J K c) (all_sets K.width)))
        ∙ ap (list_any (λ P. eqb (size P) b)) (all_pass (filter (is_open_within J K c) (all_sets K.width)))) ∙ there in
        let w = list_any_at (λ P. eqb (size P) b) (λ P. eqb (length P) K.width && is_open_within J K c P)
        (filter (is_open_within J K c) (all_sets K.width)) among sets_are in
        let X : Set = w.0 in
        let parts = and_parts (eqb (length X) K.width) (is_open_within J K c X) w.2 in
        let both = and_parts (respects_all J X) (not (is_closed K X))
        (and_parts (respects_all J X && not (is_closed K X)) (leb (size X) c) parts.1).0 in (
          X,
          record {
            wide = eqb-true (length X) K.width parts.0;
            respecting = both.0;
            not_closed = not-true (is_closed K X) both.1;
            passes = refl;
          },
          eqb-true (size X) b w.1,
        )

    module _ (M : List Rule) (m : M ≡ filter (λ i. eqb (size i.premise) b) L) where
      pub least_level : IsLeastLevel J K b M
      least_level = record {
        least = least_open;
        listed = m ∙ of_least;
        witness = elim (cases_Bool (list_any (λ i. eqb (size i.premise) b) L)) [
          | inl there ↦ inr (one_open there)
          | inr none ↦ inl (m ∙ filter_empty (λ i. eqb (size i.premise) b) L none)
        ];
      }

      -- where there is none, the size is past the width
      pub level_ends : M ≡ [] → b ≡ suc K.width
      level_ends e = elim s.reached [
        | inl past ↦ omega (arith, past)
        | inr there ↦ absurd (false≢true (sym (filter_none (λ i. eqb (size i.premise) b) L (sym m ∙ e)) ∙ there))
      ]

  -- the others are those ahead
  pub rest_ahead : (b : ℕ) (whole : Bool) (sets : List Set) → (whole ≡ true → IsRest K.width c L b sets) → IsAhead J K b whole sets
  rest_ahead b false sets r X x lt = refl
  rest_ahead b true sets r X x lt =
      let rest = r refl in
      let most = size_le X in
      let w = x.wide in
      let le = rest.all in
      ap (list_any (same X)) rest.larger ∙ list_any-map (same X) (λ (i : Rule). i.premise) (filter (λ i. ltb b (size i.premise)) L)
      ∙ any_kept (λ i. same X i.premise) (λ i. ltb b (size i.premise))
      (λ i t. subst (λ (Y : Set). ltb b (size Y) ≡ true) (same-true X i.premise t) (lt-ltb b (size X) lt)) L
      (listed_open X x (omega (arith, most, w, le)))

-- ---- below the size that was reached

module _ (S : List Rule) (K : Context) (k : ℕ) (found J : List Rule) (is : J ≡ S ++ found) (below : HasBelow S K k found) where
  respects_both : (X : Set) → respects_all J X ≡ true → (respects_all S X ≡ true) × (respects_all found X ≡ true)
  respects_both X r = and_parts (respects_all S X) (respects_all found X)
      (sym (list_all-append (respects X) S found) ∙ sym (ap (λ Zs. respects_all Zs X) is) ∙ r)

  -- what a list that X respects says of a pseudo-intent below the size that was reached
  by_found : (p : Rule → Bool) → list_all p found ≡ true → (Q : Set) → length Q ≡ K.width → pseudo_known S K Q ≡ true → size Q < k
      → p (rule Q (closure K Q)) ≡ true
  by_found p all Q w q lt = elim (or_cases (leb k (size Q)) (p (rule Q (closure K Q)))
      (basis_at S K (λ i. leb k (size i.premise) || p i) Q w q (below.complete p all))) [
        | inl le ↦ absurd (false≢true (sym (lt-leb k (size Q) lt) ∙ le))
        | inr there ↦ there
      ]

  -- no open set is below it
  pub open_reached : (X : Set) → IsOpen J K everything X → k ≤ size X
  open_reached X x = elim (cases_lt (size X) k) [
    | inl lt ↦
        let both = respects_both X x.respecting in
        let t : pseudo_known S K X ≡ true = pseudo_from S K X x.wide (record {
          respecting = both.0;
          not_closed = x.not_closed;
          absorbing = λ Q w q s.
              let smaller : size Q < size X = size_strict Q X (w ∙ sym x.wide) s in
              respects_at X (rule Q (closure K Q)) (by_found (respects X) both.1 Q w q (omega (arith, smaller, lt)))
              (strictly-parts Q X s).0;
        }) in
        let r : respects X (rule X (closure K X)) ≡ true = by_found (respects X) both.1 X x.wide t lt in
        let down : within (closure K X) X ≡ true = respects_at X (rule X (closure K X)) r (within_refl X) in
        absurd (false≢true (sym x.not_closed ∙ same_from X (closure K X)
        (within_antisymm X (closure K X) (x.wide ∙ sym (length-closure K X)) (closure_extensive K X x.wide) down)))
    | inr ge ↦ ge
  ]

-- ---- the members of the level

module _ (S : List Rule) (K : Context) (k : ℕ) (found J : List Rule) (is : J ≡ S ++ found) (below : HasBelow S K k found)
    (bounded : k ≤ K.width + 1) (b : ℕ) (L : List Rule) (l : IsLeastLevel J K b L) (ends : L ≡ [] → b ≡ suc K.width) where
  open_of_pseudo : (P : Set) → length P ≡ K.width → pseudo_known S K P ≡ true → k ≤ size P → IsOpen J K everything P
  open_of_pseudo P e t le =
      let parts = pseudo_parts S K P e t in
      record {
        wide = e;
        respecting = ap (λ Zs. respects_all Zs P) is ∙ list_all-append (respects P) S found
            ∙ and_from (respects_all S P) (respects_all found P) parts.respecting (respects_found S K k P found e below t le);
        not_closed = parts.not_closed;
        passes = refl;
      }

  pseudo_of_open : (X : Set) → IsOpen J K everything X → size X ≡ b → pseudo_known S K X ≡ true
  pseudo_of_open X x same_size = pseudo_from S K X x.wide (record {
    respecting = (respects_both S K k found J is below X x.respecting).0;
    not_closed = x.not_closed;
    absorbing = λ Q w q s.
        let smaller : size Q < size X = size_strict Q X (w ∙ sym x.wide) s in
        elim (cases_lt (size Q) k) [
          | inl lt ↦ respects_at X (rule Q (closure K Q))
              (by_found S K k found J is below (respects X) (respects_both S K k found J is below X x.respecting).1 Q w q lt)
              (strictly-parts Q X s).0
          | inr ge ↦ let le : b ≤ size Q = l.least Q (open_of_pseudo Q w q ge) in absurd (omega (arith, le, smaller, same_size))
        ];
  })

  reached_before : k ≤ b
  reached_before = elim l.witness [
    | inl none ↦ let past : b ≡ suc K.width = ends none in omega (arith, bounded, past)
    | inr w ↦ let le : k ≤ size w.0 = open_reached S K k found J is below w.0 w.1 in let s : size w.0 ≡ b = w.2 in omega (arith, le, s)
  ]

  next_bounded : b ≤ K.width + 1
  next_bounded = elim l.witness [
    | inl none ↦ let past : b ≡ suc K.width = ends none in omega (arith, past)
    | inr w ↦ let le : size w.0 ≤ length w.0 = size_le w.0 in let e : length w.0 ≡ K.width = w.1.wide in let s : size w.0 ≡ b = w.2 in
        omega (arith, le, e, s)
  ]

  next_below : HasBelow S K b found
  next_below = record {
    sound = below.sound;
    small = list_all-mono (λ i. ltb (size i.premise) k) (λ i. ltb (size i.premise) b)
        (λ i h. let lt : size i.premise < k = ltb-true (size i.premise) k h in let le : k ≤ b = reached_before in
        lt-ltb (size i.premise) b (omega (arith, lt, le))) found below.small;
    complete = λ p all. basis_all S K (λ i. leb b (size i.premise) || p i) (λ P e t. elim (cases_lt (size P) k) [
      | inl lt ↦ or_right (leb b (size P)) (p (rule P (closure K P))) (by_found S K k found J is below p all P e t lt)
      | inr ge ↦ or_left (leb b (size P)) (p (rule P (closure K P))) (le-leb b (size P) (l.least P (open_of_pseudo P e t ge)))
    ]);
  }

  next_members : L ≡ level_of S K b
  next_members =
      l.listed ∙ ap (map (λ P. rule P (closure K P)))
      (filter_agree_on (λ X. eqb (length X) K.width) (is_open_of_size J K b) (λ P. pseudo_known S K P && eqb (size P) b) (λ X e.
      let wide : length X ≡ K.width = eqb-true (length X) K.width e in
      bool_iff (is_open_of_size J K b X) (pseudo_known S K X && eqb (size X) b)
      (λ h.
      let parts = and_parts (respects_all J X && not (is_closed K X)) (eqb (size X) b) h in
      let both = and_parts (respects_all J X) (not (is_closed K X)) parts.0 in
      and_from (pseudo_known S K X) (eqb (size X) b)
      (pseudo_of_open X (record { wide = wide; respecting = both.0; not_closed = not-true (is_closed K X) both.1; passes = refl })
      (eqb-true (size X) b parts.1)) parts.1)
      (λ h.
      let parts = and_parts (pseudo_known S K X) (eqb (size X) b) h in
      let le : k ≤ b = reached_before in
      let s : size X ≡ b = eqb-true (size X) b parts.1 in
      let x = open_of_pseudo X wide parts.0 (omega (arith, le, s)) in
      and_from (respects_all J X && not (is_closed K X)) (eqb (size X) b)
      (and_from (respects_all J X) (not (is_closed K X)) x.respecting (ap not x.not_closed)) parts.1))
      (all_sets K.width) (all_sets_widths K.width))
      ∙ level_is S K b

  next_none : L ≡ [] → b ≡ K.width + 1
  next_none e = elim l.witness [
    | inl none ↦ let past : b ≡ suc K.width = ends none in omega (arith, past)
    | inr w ↦
        let X : Set = w.0 in
        let one : is_open_of_size J K b X ≡ true = and_from (respects_all J X && not (is_closed K X)) (eqb (size X) b)
        (and_from (respects_all J X) (not (is_closed K X)) w.1.respecting (ap not w.1.not_closed)) (eq-eqb (size X) b w.2) in
        let there : list_any (same X) (filter (is_open_of_size J K b) (all_sets K.width)) ≡ true =
        in_filter (is_open_of_size J K b) X (all_sets K.width) (in_all_sets K.width X w.1.wide) one in
        let empty : filter (is_open_of_size J K b) (all_sets K.width) ≡ [] =
        map_none (λ P. rule P (closure K P)) (filter (is_open_of_size J K b) (all_sets K.width)) (sym l.listed ∙ e) in
        absurd (false≢true (sym (ap (list_any (same X)) empty) ∙ there))
  ]

  next_wide : HaveWidth K.width L
  next_wide = subst (λ Zs. HaveWidth K.width Zs) (sym next_members) (level_all S K b (has_width K.width)
      (λ P e t s. and_from (eqb (length P) K.width) (eqb (length (closure K P)) K.width) (eq-eqb (length P) K.width e)
      (eq-eqb (length (closure K P)) K.width (length-closure K P))))

  pub next_is : IsNextLevel S K found b L
  next_is = record { bounded = next_bounded; below = next_below; members = next_members; wide = next_wide; none = next_none }

-- before anything was seen
pub nothing_seen : (J : List Rule) (K : Context) (A : Set) (L : List Rule) (b : ℕ) → L ≡ [] → L ≡ open_where J K b (before 0 A)
unfolding open_where
nothing_seen J K A L b e = e ∙ sym (ap (map (λ P. rule P (closure K P))) (filter_nothing (filter (is_open_within J K b) (all_sets K.width))))

-- where no open set passes the test
pub nothing_open : (J : List Rule) (K : Context) (b : ℕ) (p : Set → Bool) (L : List Rule)
    → ((X : Set) → IsOpen J K everything X → size X ≤ b → p X ≡ false) → L ≡ [] → L ≡ open_where J K b p
nothing_open J K b p L none e = same_where J K b (before 0 []) p L
    (λ X w r n s. sym (none X (record { wide = w; respecting = r; not_closed = n; passes = refl }) s)) (nothing_seen J K [] L b e)

-- and the other way round, where no set passes it
pub none_listed : (J : List Rule) (K : Context) (b : ℕ) (L : List Rule) → L ≡ open_where J K b (λ X. false) → L ≡ []
unfolding open_where
none_listed J K b L l = l ∙ ap (map (λ P. rule P (closure K P))) (filter_nothing (filter (is_open_within J K b) (all_sets K.width)))

-- lists and tests that pass the same sets
pub other_where : (I J : List Rule) (K : Context) (b : ℕ) (p q : Set → Bool) (L : List Rule)
    → ((X : Set) → length X ≡ K.width → (respects_all I X && p X) ≡ (respects_all J X && q X))
    → L ≡ open_where I K b p → L ≡ open_where J K b q
unfolding open_where
other_where I J K b p q L h l =
    l ∙ ap (map (λ P. rule P (closure K P)))
    (filter-filter p (is_open_within I K b) (all_sets K.width)
    ∙ filter_agree_on (λ X. eqb (length X) K.width) (λ X. is_open_within I K b X && p X) (λ X. is_open_within J K b X && q X)
    (λ X e. turn (respects_all I X) (not (is_closed K X)) (leb (size X) b) (p X)
    ∙ ap (λ t. t && (not (is_closed K X) && leb (size X) b)) (h X (eqb-true (length X) K.width e))
    ∙ sym (turn (respects_all J X) (not (is_closed K X)) (leb (size X) b) (q X)))
    (all_sets K.width) (all_sets_widths K.width)
    ∙ sym (filter-filter q (is_open_within J K b) (all_sets K.width)))
  where
    turn : (a b c d : Bool) → (((a && b) && c) && d) ≡ ((a && d) && (b && c))
    turn false b c d = refl
    turn true true true true = refl
    turn true true true false = refl
    turn true true false true = refl
    turn true true false false = refl
    turn true false c true = refl
    turn true false c false = refl

-- where those that pass q come after those that do not
pub open_append : (J : List Rule) (K : Context) (b : ℕ) (p q : Set → Bool) (L M : List Rule)
    → ((X Z : Set) → is_lt (lectic_cmp X Z) ≡ true → p X ≡ true → q X ≡ true → p Z ≡ true → q Z ≡ true)
    → L ≡ open_where J K b (λ X. p X && not (q X)) → M ≡ open_where J K b (λ X. p X && q X) → L ++ M ≡ open_where J K b p
unfolding open_where
open_append J K b p q L M later l m =
    let f : Set → Rule = λ P. rule P (closure K P) in
    let Xs : List Set = filter (is_open_within J K b) (all_sets K.width) in
    ap₂ (λ Ys Zs. Ys ++ Zs) l m ∙ sym (map-append f (filter (λ X. p X && not (q X)) Xs) (filter (λ X. p X && q X) Xs))
    ∙ sym (ap (map f) (split_filter p q Xs (increasing-filter (is_open_within J K b) (all_sets K.width) (all_sets_increasing K.width)) later))

-- all that are listed have the width of the context
pub listed_wide : (J : List Rule) (K : Context) (b : ℕ) (p : Set → Bool) (L : List Rule) → L ≡ open_where J K b p → HaveWidth K.width L
unfolding open_where
listed_wide J K b p L l =
    let n : ℕ = K.width in
    let Xs : List Set = filter (is_open_within J K b) (all_sets n) in
    let wide : Set → Bool = λ X. eqb (length X) n in
    subst (λ Zs. HaveWidth n Zs) (sym l)
    (list_all-map (has_width n) (λ P. rule P (closure K P)) (filter p Xs)
    ∙ list_all-mono wide (λ P. has_width n (rule P (closure K P)))
    (λ P t. and_from (eqb (length P) n) (eqb (length (closure K P)) n) t (eq-eqb (length (closure K P)) n (length-closure K P)))
    (filter p Xs)
    (list_all-filter_kept wide p Xs (list_all-filter_kept wide (is_open_within J K b) (all_sets n) (all_sets_widths n))))

-- ---- as the code has it

-- where nothing is known
pub unknown_among : (J : List Rule) (K : Context) (whole : Bool) (sets : List Set) → whole ≡ false → AllAmong J K whole sets
unknown_among J K whole sets e X x = ap (λ w. may_be_open w sets X) e

module _ (J : List Rule) (K L : Context) (c : ℕ) (members : List Rule) (same_rows : L ≡ K)
    (listed : members ≡ open_where J L c everything) where
  listed_in : members ≡ open_where J K c everything
  listed_in = subst (λ (X : Context). members ≡ open_where J X c everything) same_rows listed

  pub members_wide : (n : ℕ) → n ≡ K.width → HaveWidth n members
  members_wide n e = subst (λ m. HaveWidth m members) (sym e) (listed_wide J K c everything members listed_in)

  module _ (n : ℕ) (width : n ≡ K.width) (b : ℕ) where
    pub told_next : (members ≡ [] → L.width ≤ c) → IsLeastSize (n + 1) members b → (M : List Rule)
        → M ≡ filter (λ i. eqb (size i.premise) b) members
        → (S found : List Rule) (k : ℕ) → J ≡ S ++ found → HasBelow S K k found → k ≤ K.width + 1 → IsNextLevel S K found b M
    told_next all s M m S found k is below bounded =
        let whole : members ≡ [] → K.width ≤ c = λ e. let le = all e in let same_width = ap (λ (X : Context). X.width) same_rows in
        omega (arith, le, same_width) in
        let least : IsLeastSize (K.width + 1) members b = subst (λ m. IsLeastSize (m + 1) members b) width s in
        next_is S K k found J is below bounded b M (least_level J K c members listed_in whole b least M m)
        (level_ends J K c members listed_in whole b least M m)

    pub told_ahead : (whole : Bool) (sets : List Set) → (whole ≡ true → IsRest n c members b sets) → IsAhead J K b whole sets
    told_ahead whole sets r = rest_ahead J K c members listed_in b whole sets (λ e. subst (λ m. IsRest m c members b sets) width (r e))
