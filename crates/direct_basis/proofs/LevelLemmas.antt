-- The sets visited have every proper premise. A free set of k + 1 members is, without its first member, a free set of k members, which
-- was visited; and its first member comes before all of those. So each free set is visited, by induction on its size, and each proper
-- premise is free. Put in their places, the proper ones are a list in lectic order with the same members as the definition's, so the same
-- list.
use Rattle.std.proofs.Common.{◌≡◌, ℕ, zero, suc, ◌+◌, ◌<◌, Bool, true, false, ◌&&◌, ◌||◌, List, [], ◌∷◌, ◌++◌, map, filter, length}
use Rattle.std.proofs.Common.{replicate, get_or, set, All, refl, sym, ap, ◌∙◌, arith, eqb, eqb-true, eq-eqb, add-one, Ordering, Less, Equal}
use Rattle.std.proofs.Common.{Greater}
use Rattle.std.proofs.Math.Bool.{or-false, or_assoc, or_comm}
use Rattle.std.proofs.lemmas.Bool.{false≢true, and_parts, and_from, or_left}
use Rattle.std.proofs.lemmas.Grind.{flat_map-append}
use Rattle.std.proofs.lemmas.List.{length-set, length-replicate, append_assoc, append-nil}
use Rattle.std.proofs.lemmas.List.Elements.{All-cons, All-nil, filter-append}
use Rattle.std.proofs.lemmas.List.Folds.{list_all-map, list_all-append, list_any-append}
use Rattle.std.proofs.lemmas.List.Sums.{fold-append}
use Rattle.std.specs.BTreeSet.{insert_key}
use Rattle.std.specs.List.{list_all, list_any, range_with_len, flat_map}
use Rattle.std.specs.Ordering.{match_ordering}
use Rattle.fca_model.specs.Sets.{Set, size, same, all_sets, increasing, lectic_cmp}
use Rattle.fca_model.specs.Context.{Context, closure}
use Rattle.fca_model.specs.Implications.{rule}
use Rattle.fca_model.proofs.ListLemmas.{list_all-filter_kept, list_all_from, list_all-mono, list_any-map, list_any-mono}
use Rattle.fca_model.proofs.SetLemmas.{same-true, same_from, size_le, lectic_equal, all_sets_increasing, all_sets_widths}
use Rattle.fca_model.proofs.SortedLemmas.{at_member, same_members, increasing-filter, in_filter, of_filter, in_all_sets}
use Rattle.fca_model.proofs.RangeLemmas.{range_more}
use Rattle.direct_basis.specs.Direct.{proper, direct}
use Rattle.direct_basis.specs.Levels.{free, first_place, larger, visited, placed}
use Rattle.direct_basis.proofs.MemberLemmas.{range_any_from}
use Rattle.direct_basis.proofs.DirectLemmas.{size-without, within-without}
use Rattle.direct_basis.proofs.FreeLemmas.{proper_free, free_within}

-- ---- the first member

pub first_place_at : (A : Set) (m : ℕ) → m < length A → get_or A m false ≡ true → ((i : ℕ) → i < m → get_or A i false ≡ false)
    → m ≡ first_place A
first_place_at [] m l t f = absurd (omega arith)
first_place_at (true ∷ A) zero l t f = refl
first_place_at (true ∷ A) (suc m) l t f = absurd (false≢true (sym (f 0 (omega arith))))
first_place_at (false ∷ A) zero l t f = absurd (false≢true t)
first_place_at (false ∷ A) (suc m) l t f = ap suc (first_place_at A m (omega arith) t (λ i h. f (suc i) (omega arith)))

pub first_place_none : (A : Set) → ((i : ℕ) → i < length A → get_or A i false ≡ false) → length A ≡ first_place A
first_place_none [] f = refl
first_place_none (true ∷ A) f = absurd (false≢true (sym (f 0 (omega arith))))
first_place_none (false ∷ A) f = ap suc (first_place_none A (λ i h. f (suc i) (omega arith)))

-- a set with members has its first, and without it begins later
first_is_member : (A : Set) (k : ℕ) → size A ≡ suc k
    → (get_or A (first_place A) false ≡ true) × (first_place A < first_place (set A (first_place A) false))
first_is_member [] k e = absurd (omega arith)
first_is_member (true ∷ A) k e = (refl, omega arith)
first_is_member (false ∷ A) k e = let r = first_is_member A k (omega arith) in (r.0, omega (arith, r.1))

restored : (A : Set) (i : ℕ) → get_or A i false ≡ true → set (set A i false) i true ≡ A
restored [] i t = absurd (false≢true t)
restored (true ∷ A) zero t = refl
restored (false ∷ A) zero t = absurd (false≢true t)
restored (x ∷ A) (suc i) t = ap (λ X. x ∷ X) (restored A i t)

no_members : (A : Set) → size A ≡ 0 → A ≡ replicate (length A) false
no_members [] z = refl
no_members (true ∷ A) z = absurd (omega arith)
no_members (false ∷ A) z = ap (λ X. false ∷ X) (no_members A (omega arith))

-- ---- tests over lists of lists

list_all-flat_map : {X Y : Type 0} (p : Y → Bool) (f : X → List Y) (xs : List X)
    → list_all p (flat_map f xs) ≡ list_all (λ x. list_all p (f x)) xs
list_all-flat_map p f [] = refl
list_all-flat_map p f (x ∷ xs) = list_all-append p (f x) (flat_map f xs) ∙ ap (λ b. list_all p (f x) && b) (list_all-flat_map p f xs)

list_any-flat_map : {X Y : Type 0} (p : Y → Bool) (f : X → List Y) (xs : List X)
    → list_any p (flat_map f xs) ≡ list_any (λ x. list_any p (f x)) xs
list_any-flat_map p f [] = refl
list_any-flat_map p f (x ∷ xs) = list_any-append p (f x) (flat_map f xs) ∙ ap (λ b. list_any p (f x) || b) (list_any-flat_map p f xs)

-- what is among them passes for one of them
any_has : (p : Set → Bool) (A : Set) (Xs : List Set) → list_any (same A) Xs ≡ true → p A ≡ true → list_any p Xs ≡ true
any_has p A Xs h t = list_any-mono (same A) p (λ X e. ap p (sym (same-true A X e)) ∙ t) Xs h

pub all_wide : (n : ℕ) (Xs : List Set) → list_all (λ X. eqb (length X) n) Xs ≡ true → All (λ X. length X ≡ n) Xs
all_wide n [] h = All-nil (λ X. length X ≡ n)
all_wide n (X ∷ Xs) h =
    let parts = and_parts (eqb (length X) n) (list_all (λ X. eqb (length X) n) Xs) h in
    All-cons (λ X. length X ≡ n) X Xs (eqb-true (length X) n parts.0) (all_wide n Xs parts.1)

-- ---- sets put in their places

same-insert_key : (A B : Set) (Xs : List Set) → list_any (same A) (insert_key lectic_cmp Xs B) ≡ (list_any (same A) Xs || same A B)
same-insert_key A B [] = or-false (same A B)
same-insert_key A B (X ∷ Xs) = by (lectic_cmp B X) refl (same-insert_key A B Xs)
  where
    by : (o : Ordering) → lectic_cmp B X ≡ o → list_any (same A) (insert_key lectic_cmp Xs B) ≡ (list_any (same A) Xs || same A B)
        → list_any (same A) (match_ordering o (B ∷ X ∷ Xs) (X ∷ Xs) (X ∷ insert_key lectic_cmp Xs B))
        ≡ ((same A X || list_any (same A) Xs) || same A B)
    by Less e rest = or_comm (same A B) (same A X || list_any (same A) Xs)
    by Equal e rest = there_already (same A X) (list_any (same A) Xs) (same A B) (ap (same A) (lectic_equal B X e))
      where
        there_already : (x xs b : Bool) → b ≡ x → (x || xs) ≡ ((x || xs) || b)
        there_already true xs b h = refl
        there_already false xs b h = sym (ap (λ c. xs || c) h ∙ or-false xs)
    by Greater e rest = ap (λ b. same A X || b) rest ∙ sym (or_assoc (same A X) (list_any (same A) Xs) (same A B))

same-placed : (A : Set) (Xs Ys : List Set) → list_any (same A) (placed Xs Ys) ≡ (list_any (same A) Xs || list_any (same A) Ys)
same-placed A Xs [] = sym (or-false (list_any (same A) Xs))
same-placed A Xs (Y ∷ Ys) =
    same-placed A (insert_key lectic_cmp Xs Y) Ys ∙ ap (λ b. b || list_any (same A) Ys) (same-insert_key A Y Xs)
    ∙ or_assoc (list_any (same A) Xs) (same A Y) (list_any (same A) Ys)

-- ---- the sets visited

module _ (K : Context) where
  larger_wide : (A : Set) → length A ≡ K.width → list_all (λ X. eqb (length X) K.width) (larger A) ≡ true
  larger_wide A e =
      list_all-map (λ X. eqb (length X) K.width) (λ i. set A i true) (range_with_len 0 (first_place A))
      ∙ list_all_from (λ i. eqb (length (set A i true)) K.width) (λ i. eq-eqb (length (set A i true)) K.width (length-set A i true ∙ e))
      (range_with_len 0 (first_place A))

  visited_wide : (k : ℕ) → list_all (λ X. eqb (length X) K.width) (visited K k) ≡ true
  unfolding visited
  visited_wide zero = and_from (eqb (length (replicate K.width false)) K.width) true
      (eq-eqb (length (replicate K.width false)) K.width (length-replicate K.width false)) refl
  visited_wide (suc k) =
      let wide : Set → Bool = λ X. eqb (length X) K.width in
      list_all-flat_map wide larger (filter (free K) (visited K k))
      ∙ list_all-mono wide (λ X. list_all wide (larger X)) (λ X h. larger_wide X (eqb-true (length X) K.width h))
      (filter (free K) (visited K k))
      (list_all-filter_kept wide (free K) (visited K k) (visited_wide k))

  pub level_wide : (k : ℕ) → All (λ A. length A ≡ K.width) (filter (free K) (visited K k))
  level_wide k = all_wide K.width (filter (free K) (visited K k))
      (list_all-filter_kept (λ X. eqb (length X) K.width) (free K) (visited K k) (visited_wide k))

  -- A is visited where A without its first member is free and was visited
  is_larger : (A : Set) (k : ℕ) → size A ≡ suc k → list_any (same A) (larger (set A (first_place A) false)) ≡ true
  is_larger A k z =
      let r = first_is_member A k z in
      let B = set A (first_place A) false in
      let f : ℕ → Set = λ i. set B i true in
      list_any-map (same A) f (range_with_len 0 (first_place B))
      ∙ range_any_from (λ i. same A (f i)) 0 (first_place B) (first_place A) (omega arith) (omega (arith, r.1))
      (same_from A (f (first_place A)) (sym (restored A (first_place A) r.0)))

  pub visited_has : (k : ℕ) (A : Set) → length A ≡ K.width → free K A ≡ true → size A ≡ k → list_any (same A) (visited K k) ≡ true
  unfolding visited
  visited_has zero A e f z = or_left (same A (replicate K.width false)) false
      (same_from A (replicate K.width false) (no_members A z ∙ ap (λ n. replicate n false) e))
  visited_has (suc k) A e f z =
      let r = first_is_member A k z in
      let B = set A (first_place A) false in
      let smaller = size-without A (first_place A) r.0 in
      let free_B = free_within K A B (within-without A (first_place A)) f in
      let below = visited_has k B (length-set A (first_place A) false ∙ e) free_B (omega arith) in
      list_any-flat_map (same A) larger (filter (free K) (visited K k))
      ∙ any_has (λ X. list_any (same A) (larger X)) B (filter (free K) (visited K k)) (in_filter (free K) B (visited K k) below free_B)
      (is_larger A k z)

  -- ---- the proper premises in order

  -- all that is visited up to the full set
  abbrev all_visited : List Set
  all_visited = flat_map (visited K) (range_with_len 0 (K.width + 1))

  all_visited_wide : list_all (λ X. eqb (length X) K.width) all_visited ≡ true
  all_visited_wide =
      list_all-flat_map (λ X. eqb (length X) K.width) (visited K) (range_with_len 0 (K.width + 1))
      ∙ list_all_from (λ k. list_all (λ X. eqb (length X) K.width) (visited K k)) visited_wide (range_with_len 0 (K.width + 1))

  all_visited_has : (A : Set) → length A ≡ K.width → free K A ≡ true → list_any (same A) all_visited ≡ true
  all_visited_has A e f =
      let small = size_le A in
      list_any-flat_map (same A) (visited K) (range_with_len 0 (K.width + 1))
      ∙ range_any_from (λ k. list_any (same A) (visited K k)) 0 (K.width + 1) (size A) (omega arith) (omega (arith, small, e))
      (visited_has (size A) A e f refl)

  pub found_is : (Xs : List Set) → increasing Xs ≡ true
      → Xs ≡ placed [] (filter (proper K) (flat_map (visited K) (range_with_len 0 (K.width + 1))))
      → Xs ≡ filter (proper K) (all_sets K.width)
  found_is Xs up is =
      let here : (A : Set) → list_any (same A) Xs ≡ list_any (same A) (filter (proper K) all_visited) = λ A. ap (list_any (same A)) is
      ∙ same-placed A [] (filter (proper K) all_visited) in
      let wide : Set → Bool = λ X. eqb (length X) K.width in
      same_members Xs (filter (proper K) (all_sets K.width)) up
      (increasing-filter (proper K) (all_sets K.width) (all_sets_increasing K.width))
      (λ A h.
      let parts = of_filter (proper K) A all_visited (sym (here A) ∙ h) in
      in_filter (proper K) A (all_sets K.width) (in_all_sets K.width A
      (eqb-true (length A) K.width (at_member wide A all_visited parts.0 all_visited_wide))) parts.1)
      (λ A h.
      let parts = of_filter (proper K) A (all_sets K.width) h in
      let e = eqb-true (length A) K.width (at_member wide A (all_sets K.width) parts.0 (all_sets_widths K.width)) in
      here A ∙ in_filter (proper K) A all_visited (all_visited_has A e (proper_free K A e parts.1)) parts.1)

  pub proper_wide : All (λ P. length P ≡ K.width) (filter (proper K) (all_sets K.width))
  proper_wide = all_wide K.width (filter (proper K) (all_sets K.width))
      (list_all-filter_kept (λ X. eqb (length X) K.width) (proper K) (all_sets K.width) (all_sets_widths K.width))

  pub direct_is : (Xs : List Set) → Xs ≡ filter (proper K) (all_sets K.width) → map (λ P. rule P (closure K P)) Xs ≡ direct K
  unfolding direct
  direct_is Xs e = ap (map (λ P. rule P (closure K P))) e

-- ---- as the loops go

-- more was visited: what was kept of it, and what was put in its place
pub more_kept : (p : Set → Bool) (first old new Xs Ys Zs : List Set) → Zs ≡ Xs ++ Ys → old ≡ first ++ filter p Xs → new ≡ old ++ filter p Ys
    → new ≡ first ++ filter p Zs
more_kept p first old new Xs Ys Zs z o n =
    n ∙ ap (λ Ws. Ws ++ filter p Ys) o ∙ append_assoc first (filter p Xs) (filter p Ys)
    ∙ ap (λ Ws. first ++ Ws) (sym (ap (filter p) z ∙ filter-append p Xs Ys))

pub more_placed : (p : Set → Bool) (first old new Xs Ys Zs : List Set) → Zs ≡ Xs ++ Ys → old ≡ placed first (filter p Xs)
    → new ≡ placed old (filter p Ys) → new ≡ placed first (filter p Zs)
more_placed p first old new Xs Ys Zs z o n =
    n ∙ ap (λ Ws. placed Ws (filter p Ys)) o ∙ sym
    (ap (λ Ws. placed first (filter p Ws)) z ∙ ap (placed first) (filter-append p Xs Ys)
    ∙ fold-append (insert_key lectic_cmp) first (filter p Xs) (filter p Ys))

pub flat_map-range : {Y : Type 0} (f : ℕ → List Y) (n : ℕ) → flat_map f (range_with_len 0 (n + 1)) ≡ flat_map f (range_with_len 0 n) ++ f n
flat_map-range f n = ap (flat_map f) (range_more 0 n n (omega arith)) ∙ flat_map-append f (range_with_len 0 n) (n ∷ [])
    ∙ ap (λ ys. flat_map f (range_with_len 0 n) ++ ys) (append-nil (f n))

pub level_next : (K : Context) (k : ℕ) (level next : List Set) → level ≡ filter (free K) (visited K k)
    → next ≡ filter (free K) (flat_map larger level) → next ≡ filter (free K) (visited K (k + 1))
unfolding visited
level_next K k level next is e = e ∙ ap (λ Xs. filter (free K) (flat_map larger Xs)) is
    ∙ ap (λ j. filter (free K) (visited K j)) (sym (add-one k))

pub visited_next : (K : Context) (k : ℕ) (level : List Set) → level ≡ filter (free K) (visited K k)
    → flat_map larger level ≡ visited K (k + 1)
unfolding visited
visited_next K k level is = ap (flat_map larger) is ∙ ap (visited K) (sym (add-one k))
