-- Blocks of rows. The rows of a block that contain X are among those that have what a few members of X have in common, so where these are
-- none, no row of the block contains X, and the meet of the larger rows goes on behind the block.
use Rattle.std.proofs.Common.{◌≡◌, ℕ, zero, suc, ◌+◌, ◌<◌, ◌≤◌, ◌*◌, Bool, true, false, not, ◌&&◌, ◌||◌, List, [], ◌∷◌, ◌++◌, cond, map}
use Rattle.std.proofs.Math.Bool.{or-false}
use Rattle.std.proofs.Common.{filter, fold, take, drop, length, replicate, get_or, refl, sym, ap, ◌∙◌, arith, inl, inr, subst, Some}
use Rattle.std.proofs.Math.Seq.{take-add}
use Rattle.std.proofs.lemmas.Bool.{false≢true, and_from, cases_Bool, or_left}
use Rattle.std.proofs.lemmas.List.{length-map, take-append-drop, take_all, take_more}
use Rattle.std.proofs.lemmas.List.Elements.{filter-append}
use Rattle.std.proofs.lemmas.List.FromFn.{get_or-map-range_with_len, length-map-range_with_len}
use Rattle.std.proofs.lemmas.List.Sums.{fold-append}
use Rattle.std.proofs.lemmas.Grind.{div_ceil_times}
use Rattle.std.proofs.lemmas.Option.{get_or_from_slice_get}
use Rattle.std.specs.Int.{div_ceil}
use Rattle.std.specs.Prelude.{slice_get}
use Rattle.std.specs.List.{list_any, range_with_len}
use Rattle.attr_bits.proofs.LargerLemmas.{meet-larger}
use Rattle.fca_model.specs.Sets.{Set, within, meet, full, same, strictly_within}
use Rattle.fca_model.specs.Context.{Context}
use Rattle.fca_model.proofs.ListLemmas.{list_all_from, implies_from}
use Rattle.fca_model.proofs.SetLemmas.{within_trans, within_full, within_at_place, within-meet, strictly-parts}
use Rattle.context_reduce.specs.Blocks.{row_block, AreBlocks}
use Rattle.context_reduce.specs.Reduce.{column, transpose, meet_of_strictly_larger}
use Rattle.context_reduce.proofs.PartLemmas.{within-map, transposed_at}
use Rattle.context_reduce.proofs.ReduceLemmas.{columns_count}

nobody : (b rest others : Bool) → (not b && rest) ≡ true → (rest ≡ true → others ≡ false) → (b || others) ≡ false
nobody true rest others h f = absurd (false≢true h)
nobody false rest others h f = f h

-- what is read of the columns
pub column_read : (B C : Context) (m : ℕ) (Z : Set) → C ≡ transpose B → m < length C.rows → slice_get C.rows m ≡ Some Z → Z ≡ column B m
column_read B C m Z e l is =
    let lt : m < B.width = subst (λ n. m < n) (ap (λ (D : Context). length D.rows) e ∙ columns_count B) l in
    sym (get_or_from_slice_get C.rows m Z [] is) ∙ ap (λ (D : Context). get_or D.rows m []) e ∙ transposed_at B m lt

module _ (X : Set) where
  -- ---- what the columns tell

  -- each row that contains X is among all rows
  pub found_in_all : (rows : List Set) → within (map (within X) rows) (full (length rows)) ≡ true
  found_in_all rows = within_full (length rows) (map (within X) rows) (length-map rows (within X))

  -- and among those that have a member of X
  pub found_in_column : (B : Context) (m : ℕ) (old new : Set) → get_or X m false ≡ true → within (map (within X) B.rows) old ≡ true
      → new ≡ meet old (column B m)
      → within (map (within X) B.rows) new ≡ true
  found_in_column B m old new has o n =
      let F = map (within X) B.rows in
      ap (within F) n ∙ within-meet F old (column B m)
      ∙ and_from (within F old) (within F (column B m)) o
      (within-map (within X) (λ row. get_or row m false) B.rows
      ∙ list_all_from (λ row. not (within X row) || get_or row m false)
      (λ row. implies_from (within X row) (get_or row m false) (λ w. within_at_place X row w m has)) B.rows)

  pub found_in_none : (rows : List Set) (n : ℕ) → within (map (within X) rows) (replicate n false) ≡ true → list_any (within X) rows ≡ false
  found_in_none [] n h = refl
  found_in_none (row ∷ rows) zero h = nobody (within X row) (within (map (within X) rows) []) (list_any (within X) rows) h
      (found_in_none rows zero)
  found_in_none (row ∷ rows) (suc n) h =
      nobody (within X row) (within (map (within X) rows) (replicate n false)) (list_any (within X) rows)
      (ap (λ b. b && within (map (within X) rows) (replicate n false)) (sym (or-false (not (within X row)))) ∙ h) (found_in_none rows n)

  -- ---- the meet of the larger rows

  none_larger : (rows : List Set) → list_any (within X) rows ≡ false → filter (strictly_within X) rows ≡ []
  none_larger [] h = refl
  none_larger (row ∷ rows) h = elim (cases_Bool (within X row)) [
    | inl t ↦ absurd (false≢true (sym h ∙ or_left (within X row) (list_any (within X) rows) t))
    | inr f ↦
        ap (λ b. cond (b && not (same X row)) (row ∷ filter (strictly_within X) rows) (filter (strictly_within X) rows)) f
        ∙ none_larger rows (sym (ap (λ b. b || list_any (within X) rows) f) ∙ h)
  ]

  -- what is within X is not changed
  larger_keep : (M : Set) → within M X ≡ true → (rows : List Set) → fold meet M (filter (strictly_within X) rows) ≡ M
  larger_keep M inside [] = refl
  larger_keep M inside (row ∷ rows) =
      let F = filter (strictly_within X) rows in
      elim (cases_Bool (strictly_within X row)) [
        | inl t ↦
            ap (λ b. fold meet M (cond b (row ∷ F) F)) t
            ∙ ap (λ N. fold meet N F) (meet-larger M row (within_trans M X row inside (strictly-parts X row t).0))
            ∙ larger_keep M inside rows
        | inr f ↦ ap (λ b. fold meet M (cond b (row ∷ F) F)) f ∙ larger_keep M inside rows
      ]

  -- a row more
  pub larger_more : (start M N : Set) (rows : List Set) (i : ℕ) (row : Set) → i < length rows → row ≡ get_or rows i row
      → M ≡ fold meet start (filter (strictly_within X) (take i rows)) → N ≡ cond (strictly_within X row) (meet M row) M
      → N ≡ fold meet start (filter (strictly_within X) (take (i + 1) rows))
  larger_more start M N rows i row l is m n =
      let p = strictly_within X in
      n ∙ one M row (p row) ∙ ap (λ A. fold meet A (filter p (row ∷ []))) m
      ∙ sym (ap (λ Rs. fold meet start (filter p Rs)) (take_more rows i row l ∙ ap (λ r. take i rows ++ r ∷ []) (sym is))
      ∙ ap (fold meet start) (filter-append p (take i rows) (row ∷ []))
      ∙ fold-append meet start (filter p (take i rows)) (filter p (row ∷ [])))
    where
      one : (M row : Set) (b : Bool) → cond b (meet M row) M ≡ fold meet M (cond b (row ∷ []) [])
      one M row true = refl
      one M row false = refl

  module _ (K : Context) where
    -- the meet of the larger ones among the first n rows
    abbrev pub meet_before : ℕ → Set
    meet_before n = fold meet (full K.width) (filter (strictly_within X) (take n K.rows))

    -- a block more
    pub meet_more : (k : ℕ) (M N : Set) → M ≡ meet_before (k * 256) → N ≡ fold meet M (filter (strictly_within X) (row_block K k).rows)
        → N ≡ meet_before ((k + 1) * 256)
    meet_more k M N m n =
        n ∙ ap (λ A. fold meet A (filter (strictly_within X) (row_block K k).rows)) m
        ∙ sym (ap meet_before (next k) ∙ ap (λ Rs. fold meet (full K.width) (filter (strictly_within X) Rs)) (take-add (k * 256) 256 K.rows)
        ∙ ap (fold meet (full K.width)) (filter-append (strictly_within X) (take (k * 256) K.rows) (row_block K k).rows)
        ∙ fold-append meet (full K.width) (filter (strictly_within X) (take (k * 256) K.rows))
        (filter (strictly_within X) (row_block K k).rows))
      where
        next : (k : ℕ) → (k + 1) * 256 ≡ k * 256 + 256
        next k = omega arith

    -- a block with no row that contains X
    pub meet_skips : (k : ℕ) (M : Set) → M ≡ meet_before (k * 256) → list_any (within X) (row_block K k).rows ≡ false
        → M ≡ meet_before ((k + 1) * 256)
    meet_skips k M m none = meet_more k M M m (sym (ap (fold meet M) (none_larger (row_block K k).rows none)))

    -- all blocks
    pub meet_whole : (n : ℕ) (M : Set) → M ≡ meet_before n → length K.rows ≤ n → M ≡ meet_of_strictly_larger K X
    meet_whole n M m le = m ∙ ap (λ Rs. fold meet (full K.width) (filter (strictly_within X) Rs)) (take_all n K.rows le)

    -- after it has come to lie within X
    pub meet_settled : (n : ℕ) (M : Set) → M ≡ meet_before n → within M X ≡ true → M ≡ meet_of_strictly_larger K X
    meet_settled n M m inside =
        sym (ap (λ Rs. fold meet (full K.width) (filter (strictly_within X) Rs)) (sym (take-append-drop n K.rows))
        ∙ ap (fold meet (full K.width)) (filter-append (strictly_within X) (take n K.rows) (drop n K.rows))
        ∙ fold-append meet (full K.width) (filter (strictly_within X) (take n K.rows)) (filter (strictly_within X) (drop n K.rows))
        ∙ ap (λ A. fold meet A (filter (strictly_within X) (drop n K.rows))) (sym m)
        ∙ larger_keep M inside (drop n K.rows))

-- ---- the blocks

pub blocks_are : (K : Context) (blocks : List Context) (n : ℕ) → blocks ≡ map (λ k. transpose (row_block K k)) (range_with_len 0 n)
    → n ≡ div_ceil (length K.rows) 256 → AreBlocks K blocks
blocks_are K blocks n e is =
    let f = λ (k : ℕ). transpose (row_block K k) in
    let count : length blocks ≡ n = ap length e ∙ length-map-range_with_len f 0 n in
    let bounds = div_ceil_times (length K.rows) 256 (omega arith) in
    let all = ap (λ m. m * 256) (count ∙ is) in
    record {
      columns = e ∙ ap (λ m. map f (range_with_len 0 m)) (sym count);
      whole = subst (λ m. length K.rows ≤ m) (sym all) bounds.0;
      inside = subst (λ m. m < length K.rows + 256) (sym all) bounds.1;
    }

module _ (K : Context) (blocks : List Context) (are : AreBlocks K blocks) where
  pub block_at : (k : ℕ) (C : Context) → k < length blocks → C ≡ get_or blocks k C → C ≡ transpose (row_block K k)
  block_at k C l is = is ∙ ap (λ Bs. get_or Bs k C) are.columns
      ∙ get_or-map-range_with_len (λ k. transpose (row_block K k)) 0 (length blocks) k k C l (omega arith)

  pub block_wide : (k : ℕ) (C : Context) → k < length blocks → C ≡ get_or blocks k C → length C.rows ≡ K.width
  block_wide k C l is = ap (λ (D : Context). length D.rows) (block_at k C l is) ∙ columns_count (row_block K k)
