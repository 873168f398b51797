-- Parts of tables, as the loops make them, and that the places which are kept ascend.
use Rattle.std.proofs.Common.{◌≡◌, ◌∙◌, ◌<◌, ◌≤◌, ◌+◌, ◌++◌, ◌∷◌, ◌&&◌, [], List, ℕ, Bool, true, false, not, cond, Some, length, map}
use Rattle.std.proofs.Common.{filter, take, get_or, refl, sym, ap, ap₂, subst, arith, All, leb, ltb, ltb-true, lt-ltb, zero, suc}
use Rattle.std.proofs.lemmas.Bool.{and_parts, and_from, leb-true, le-leb}
use Rattle.std.proofs.lemmas.List.{take_more}
use Rattle.std.proofs.lemmas.List.Elements.{All-get_or, All-from_get_or}
use Rattle.std.specs.Prelude.{slice_get}
use Rattle.std.proofs.lemmas.Option.{get_or_from_slice_get}
use Rattle.std.specs.List.{range_with_len}
use Rattle.fca_model.specs.Sets.{Set}
use Rattle.fca_model.specs.Context.{Context}
use Rattle.fca_model.specs.Tables.{Text, NamedContext}
use Rattle.context_reduce.specs.Reduce.{row_at, rows_at, restrict_to, names_at, ascend, transpose, is_first, reducible, distinct_objects}
use Rattle.context_reduce.specs.Reduce.{distinct_attributes, irreducible_objects, irreducible_attributes, AreItsPlaces}
use Rattle.context_reduce.proofs.DenseLemmas.{irreducible_is}
use Rattle.context_reduce.proofs.RangeLemmas.{append_nil, filter_push}
use Rattle.context_reduce.proofs.ReduceLemmas.{columns_count}

pub place_below : (n : ℕ) (items places : List ℕ) (i : ℕ) → items ≡ places → i < length items → All (λ m. m < n) places
    → get_or items i 0 < n
place_below n items places i e l h = All-get_or (λ (m : ℕ). m < n) items i 0 l (subst (λ (xs : List ℕ). All (λ m. m < n) xs) (sym e) h)

map_push : {X Y : Type 0} (f : X → Y) (xs : List X) (x : X) → map f (xs ++ x ∷ []) ≡ map f xs ++ f x ∷ []
map_push f [] x = refl
map_push f (y ∷ xs) x = ap (λ ys. f y ∷ ys) (map_push f xs x)

taken : (items places : List ℕ) (k : ℕ) → items ≡ places → k < length items → take (k + 1) places ≡ take k places ++ get_or items k 0 ∷ []
taken items places k e l = subst (λ (xs : List ℕ). take (k + 1) xs ≡ take k xs ++ get_or items k 0 ∷ []) e (take_more items k 0 l)

-- one name more
pub names_more : (names : List Text) (items places : List ℕ) (k : ℕ) (name : Text) (old new : List Text) → items ≡ places → k < length items
    → old ≡ names_at names (take k places) → Some name ≡ slice_get names (get_or items k 0) → new ≡ old ++ name ∷ []
    → new ≡ names_at names (take (k + 1) places)
names_more names items places k name old new e l o at n =
    n ∙ ap₂ (λ Zs Z. Zs ++ Z ∷ []) o (sym (get_or_from_slice_get names (get_or items k 0) name [] (sym at)))
    ∙ sym (ap (names_at names) (taken items places k e l) ∙ map_push (λ i. get_or names i []) (take k places) (get_or items k 0))

-- one row more
pub rows_more : (K : Context) (N items places : List ℕ) (k : ℕ) (made : Set) (old new : List Set) → items ≡ places → k < length items
    → old ≡ map (restrict_to N) (rows_at K (take k places)) → made ≡ restrict_to N (row_at K (get_or items k 0)) → new ≡ old ++ made ∷ []
    → new ≡ map (restrict_to N) (rows_at K (take (k + 1) places))
rows_more K N items places k made old new e l o at n =
    n ∙ ap₂ (λ Zs Z. Zs ++ Z ∷ []) o at
    ∙ sym (ap (λ ps. map (restrict_to N) (rows_at K ps)) (taken items places k e l)
    ∙ ap (map (restrict_to N)) (map_push (row_at K) (take k places) (get_or items k 0))
    ∙ map_push (restrict_to N) (rows_at K (take k places)) (row_at K (get_or items k 0)))

-- ---- places that are kept

-- the next place is kept, or not
pub next_kept : (p : ℕ → Bool) (items places : List ℕ) (k : ℕ) (old new : List ℕ) → items ≡ places → k < length items
    → old ≡ filter p (take k places)
    → p (get_or items k 0) ≡ true → new ≡ old ++ get_or items k 0 ∷ [] → new ≡ filter p (take (k + 1) places)
next_kept p items places k old new e l o t n =
    let x = get_or items k 0 in
    n ∙ ap (λ ys. ys ++ x ∷ []) o ∙ sym (ap (filter p) (taken items places k e l) ∙ filter_push p (take k places) x
    ∙ ap (λ b. filter p (take k places) ++ cond b (x ∷ []) []) t)

pub next_skipped : (p : ℕ → Bool) (items places : List ℕ) (k : ℕ) (old : List ℕ) → items ≡ places → k < length items
    → old ≡ filter p (take k places)
    → p (get_or items k 0) ≡ false → old ≡ filter p (take (k + 1) places)
next_skipped p items places k old e l o t =
    let x = get_or items k 0 in
    o ∙ sym (ap (filter p) (taken items places k e l) ∙ filter_push p (take k places) x
    ∙ ap (λ b. filter p (take k places) ++ cond b (x ∷ []) []) t ∙ append_nil (filter p (take k places)))

-- ---- places that ascend

ascend_at : (a : ℕ) (places : List ℕ) (n : ℕ) → ascend a places n ≡ true → (i : ℕ) → i < length places → get_or places i 0 < n
ascend_at a [] n h i l = absurd (omega arith)
ascend_at a (p ∷ places) n h zero l = ltb-true p n
    (and_parts (ltb p n) (ascend (p + 1) places n) (and_parts (leb a p) (ltb p n && ascend (p + 1) places n) h).1).0
ascend_at a (p ∷ places) n h (suc i) l = ascend_at (p + 1) places n
    (and_parts (ltb p n) (ascend (p + 1) places n) (and_parts (leb a p) (ltb p n && ascend (p + 1) places n) h).1).1 i (omega arith)

pub ascend_below : (places : List ℕ) (n : ℕ) → ascend 0 places n ≡ true → All (λ i. i < n) places
ascend_below places n h = All-from_get_or (λ (i : ℕ). i < n) places 0 (ascend_at 0 places n h)

ascend_short : (a : ℕ) (places : List ℕ) (n : ℕ) → ascend a places n ≡ true → a ≤ n → length places + a ≤ n
ascend_short a [] n h l = omega arith
ascend_short a (p ∷ places) n h l =
    let parts = and_parts (leb a p) (ltb p n && ascend (p + 1) places n) h in
    let more = and_parts (ltb p n) (ascend (p + 1) places n) parts.1 in
    let low = leb-true a p parts.0 in
    let high = ltb-true p n more.0 in
    let rest = ascend_short (p + 1) places n more.1 (omega arith) in
    omega arith

pub ascend_few : (places : List ℕ) (n : ℕ) → ascend 0 places n ≡ true → length places ≤ n
ascend_few places n h = let r = ascend_short 0 places n h (omega arith) in omega arith

-- ---- what is kept ascends

ascend_lower : (a : ℕ) (places : List ℕ) (n : ℕ) → ascend (a + 1) places n ≡ true → ascend a places n ≡ true
ascend_lower a [] n h = refl
ascend_lower a (p ∷ places) n h =
    let parts = and_parts (leb (a + 1) p) (ltb p n && ascend (p + 1) places n) h in
    let low = leb-true (a + 1) p parts.0 in
    and_from (leb a p) (ltb p n && ascend (p + 1) places n) (le-leb a p (omega arith)) parts.1

ascend_filter : (q : ℕ → Bool) (a k n : ℕ) → a + k ≤ n → ascend a (filter q (range_with_len a k)) n ≡ true
ascend_filter q a zero n h = refl
ascend_filter q a (suc k) n h = elim (q a) as (λ b. ascend a
    (cond b (a ∷ filter q (range_with_len (a + 1) k)) (filter q (range_with_len (a + 1) k))) n ≡ true) [
      | true ↦
          let rest = filter q (range_with_len (a + 1) k) in
          and_from (leb a a) (ltb a n && ascend (a + 1) rest n) (le-leb a a (omega arith))
          (and_from (ltb a n) (ascend (a + 1) rest n) (lt-ltb a n (omega arith)) (ascend_filter q (a + 1) k n (omega arith)))
      | false ↦ ascend_lower a (filter q (range_with_len (a + 1) k)) n (ascend_filter q (a + 1) k n (omega arith))
    ]

distinct_ascend : (K : Context) → ascend 0 (distinct_objects K) (length K.rows) ≡ true
unfolding distinct_objects
distinct_ascend K = ascend_filter (is_first K) 0 (length K.rows) (length K.rows) (omega arith)

irreducible_ascend : (K : Context) → ascend 0 (irreducible_objects K) (length K.rows) ≡ true
irreducible_ascend K = subst (λ (H : List ℕ). ascend 0 H (length K.rows) ≡ true) (sym (irreducible_is K))
    (ascend_filter (λ g. is_first K g && not (reducible K (row_at K g))) 0 (length K.rows) (length K.rows) (omega arith))

pub distinct_places : (t : NamedContext) (H N : List ℕ) → H ≡ distinct_objects t.context → N ≡ distinct_attributes t.context
    → AreItsPlaces t H N
distinct_places t H N h n = record {
  objects = subst (λ (H : List ℕ). ascend 0 H (length t.context.rows) ≡ true) (sym h) (distinct_ascend t.context);
  attributes = subst (λ (N : List ℕ). ascend 0 N t.context.width ≡ true) (sym n)
      (subst (λ (m : ℕ). ascend 0 (distinct_attributes t.context) m ≡ true) (columns_count t.context)
      (distinct_ascend (transpose t.context)));
}

pub irreducible_places : (t : NamedContext) (H N : List ℕ) → H ≡ irreducible_objects t.context → N ≡ irreducible_attributes t.context
    → AreItsPlaces t H N
irreducible_places t H N h n = record {
  objects = subst (λ (H : List ℕ). ascend 0 H (length t.context.rows) ≡ true) (sym h) (irreducible_ascend t.context);
  attributes = subst (λ (N : List ℕ). ascend 0 N t.context.width ≡ true) (sym n)
      (subst (λ (m : ℕ). ascend 0 (irreducible_attributes t.context) m ≡ true) (columns_count t.context)
      (irreducible_ascend (transpose t.context)));
}
