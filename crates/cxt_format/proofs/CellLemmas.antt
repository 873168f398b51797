-- Cells that are read many at a time: the lanes of a vector, the first and the last cells of a block, and block after block.
use Rattle.std.proofs.Common.{◌≡◌, ◌∙◌, ◌<◌, ◌≤◌, ◌+◌, ◌-◌, ◌*◌, ◌^◌, ◌%◌, ℕ, zero, suc, Bool, true, false, not, ◌||◌, ◌&&◌}
use Rattle.std.proofs.Common.{cond, eqb, List, [], ◌∷◌, ◌++◌, map, length, take, drop, get_or, replicate, Some, None, refl, sym, ap, ap₂, subst}
use Rattle.std.proofs.Common.{min, max, nat_le, inl, inr, arith, w8, bit_or}
use Rattle.std.specs.Int.{bit_not, bit_at}
use Rattle.std.specs.List.{list_all}
use Rattle.std.specs.Simd.Lanes.{mask_l, zip2, top, chunk}
use Rattle.std.proofs.Math.Bool.{and-false}
use Rattle.std.proofs.Math.Seq.{take-add, take-length}
use Rattle.std.proofs.lemmas.Bool.{ne_eqb, cases_lt, and_parts}
use Rattle.std.proofs.lemmas.List.{length-map, length-take, length-drop, get_or-take, get_or-drop, get_or-map, get_or_past, take_all, take-map}
use Rattle.std.proofs.lemmas.List.{drop-map, drop-drop, take-append-drop}
use Rattle.std.proofs.lemmas.List.Folds.{list_all-append}
use Rattle.std.proofs.lemmas.Nat.{pow_pos, shl_whole}
use Rattle.std.proofs.lemmas.Nat.Bits.{bit_at_or, bit_at_cat_low, bit_at_cat_high, bit_at-zero, same_from_bits}
use Rattle.std.proofs.lemmas.Option.{cond_some, none-some}
use Rattle.std.proofs.lemmas.Simd.{zip2_splat, zip2_of_maps, map-map, mask_l-mod, mask_l-lt, bit_mask_l}
use Rattle.fca_model.specs.Sets.{Set}
use Rattle.text_pieces.specs.Marks.{is_cross, is_mark}
use Rattle.text_pieces.proofs.MarkLemmas.{CrossedTo, CrossedTo-block, CrossedTo-all, is_set-mask_l}
use Rattle.cxt_format.specs.Cells.{crosses_if_marks}

-- ---- the lanes of a vector

-- a lane that was compared with a byte
abbrev pub hit : ℕ → ℕ → ℕ
hit x byte = cond (eqb x byte) 255 0

-- a lane that was compared with each cross, and with each mark
abbrev cross_hit : ℕ → ℕ
cross_hit x = bit_or (hit x 88) (hit x 120)

abbrev mark_hit : ℕ → ℕ
mark_hit x = bit_or (cross_hit x) (hit x 46)

top-cross_hit : (x : ℕ) → top 7 (cross_hit x) ≡ is_cross x
top-cross_hit x = by (eqb x 88) (eqb x 120)
  where
    by : (a b : Bool) → top 7 (bit_or (cond a 255 0) (cond b 255 0)) ≡ (a || b)
    by true true = refl
    by true false = refl
    by false true = refl
    by false false = refl

top-mark_hit : (x : ℕ) → top 7 (bit_not w8 (mark_hit x)) ≡ not (is_mark x)
top-mark_hit x = by (eqb x 88) (eqb x 120) (eqb x 46)
  where
    by : (a b c : Bool) → top 7 (bit_not w8 (bit_or (bit_or (cond a 255 0) (cond b 255 0)) (cond c 255 0))) ≡ not ((a || b) || c)
    by true true true = refl
    by true true false = refl
    by true false true = refl
    by true false false = refl
    by false true true = refl
    by false true false = refl
    by false false true = refl
    by false false false = refl

-- where no bit is set, no element fails
eqb-mask_l : {X : Type 0} (p : X → Bool) (xs : List X) → eqb (mask_l (map (λ x. not (p x)) xs)) 0 ≡ list_all p xs
eqb-mask_l p [] = refl
eqb-mask_l p (x ∷ xs) = by (p x) (mask_l (map (λ y. not (p y)) xs)) (list_all p xs) (eqb-mask_l p xs)
  where
    by : (passes : Bool) (n : ℕ) (all : Bool) → eqb n 0 ≡ all → eqb (cond (not passes) 1 0 + 2 * n) 0 ≡ (passes && all)
    by true zero all is = is
    by true (suc n) all is = ne_eqb (0 + 2 * suc n) 0 (omega arith) ∙ sym (ne_eqb (suc n) 0 (omega arith)) ∙ is
    by false n all is = ne_eqb (1 + 2 * n) 0 (omega arith)

module _ (cells : List ℕ) (n : ℕ) (long : length cells ≡ n) (few : n ≤ 64) where
  cross_hits : zip2 bit_or (zip2 hit cells (replicate n 88)) (zip2 hit cells (replicate n 120)) ≡ map cross_hit cells
  cross_hits = zip2_of_maps bit_or (λ x. hit x 88) (λ x. hit x 120) cells (zip2_splat hit cells n 88 long) (zip2_splat hit cells n 120 long)

  mask_of : (f : ℕ → ℕ) (p : ℕ → Bool) → ((x : ℕ) → top 7 (f x) ≡ p x)
      → mask_l (map (top 7) (map f cells)) % 2 ^ 64 ≡ mask_l (map p cells)
  mask_of f p same = ap (λ bits. mask_l bits % 2 ^ 64) (map-map (top 7) f cells ∙ (λ i. map (λ x. same x i) cells))
      ∙ mask_l-mod (map p cells) 64 (omega (arith, length-map cells p))

  -- the mask of the lanes that have a cross
  pub mask-crosses : mask_l (map (top 7) (zip2 bit_or (zip2 hit cells (replicate n 88)) (zip2 hit cells (replicate n 120)))) % 2 ^ 64
      ≡ mask_l (map is_cross cells)
  mask-crosses = ap (λ lanes. mask_l (map (top 7) lanes) % 2 ^ 64) cross_hits ∙ mask_of cross_hit is_cross top-cross_hit

  -- the mask of the lanes that have no mark is 0 exactly if all cells are marks
  pub mask-others : eqb (mask_l (map (top 7) (map (bit_not w8)
      (zip2 bit_or (zip2 bit_or (zip2 hit cells (replicate n 88)) (zip2 hit cells (replicate n 120))) (zip2 hit cells (replicate n 46)))))
      % 2 ^ 64) 0 ≡ list_all is_mark cells
  mask-others =
      let marks = zip2_of_maps bit_or cross_hit (λ x. hit x 46) cells cross_hits (zip2_splat hit cells n 46 long) in
      let others = ap (map (bit_not w8)) marks ∙ map-map (bit_not w8) mark_hit cells in
      ap (λ lanes. eqb (mask_l (map (top 7) lanes) % 2 ^ 64) 0) others
      ∙ ap (λ mask. eqb mask 0) (mask_of (λ x. bit_not w8 (mark_hit x)) (λ x. not (is_mark x)) top-mark_hit) ∙ eqb-mask_l is_mark cells

-- ---- the first cells and the last

module _ (bits : List Bool) (n b : ℕ) (reached : b ≤ n) where
  abbrev last : ℕ
  last = mask_l (drop b bits) * 2 ^ b

  bit-first : (i : ℕ) → i < n → bit_at (mask_l (take n bits)) i ≡ bit_at (mask_l bits) i
  bit-first i lt = bit_mask_l (take n bits) i ∙ ap (λ x. cond x 1 0) (get_or-take n bits i false lt) ∙ sym (bit_mask_l bits i)

  bit-past : (i : ℕ) → n ≤ i → bit_at (mask_l (take n bits)) i ≡ 0
  bit-past i le = bit_mask_l (take n bits) i ∙ ap (λ x. cond x 1 0) (get_or_past (take n bits) i false (omega (arith, length-take n bits)))

  last-plus : last ≡ last + 0
  last-plus = omega arith

  bit-before : (i : ℕ) → i < b → bit_at last i ≡ 0
  bit-before i lt = ap (λ m. bit_at m i) last-plus ∙ bit_at_cat_low (mask_l (drop b bits)) b 0 i lt ∙ bit_at-zero i

  bit-last : (i : ℕ) → b ≤ i → bit_at last i ≡ bit_at (mask_l bits) i
  bit-last i le =
      let back : b + (i - b) ≡ i = omega arith in
      ap (λ m. bit_at m i) last-plus ∙ bit_at_cat_high (mask_l (drop b bits)) b 0 i (pow_pos b) le ∙ bit_mask_l (drop b bits) (i - b)
      ∙ ap (λ x. cond x 1 0) (get_or-drop b bits (i - b) false ∙ ap (λ k. get_or bits k false) back) ∙ sym (bit_mask_l bits i)

  bit-ends : (i : ℕ) → max (bit_at (mask_l (take n bits)) i) (bit_at last i) ≡ bit_at (mask_l bits) i
  bit-ends i = elim (cases_lt i b) [
    | inl before ↦ omega (arith, bit-first i (omega arith), bit-before i before)
    | inr behind ↦ elim (cases_lt i n) [
      | inl first ↦ omega (arith, bit-first i first, bit-last i behind)
      | inr past ↦ omega (arith, bit-past i past, bit-last i behind)
    ]
  ]

  -- the bits of a list are those of its first n and of its last from place b on
  mask_l-ends : bit_or (mask_l (take n bits)) last ≡ mask_l bits
  mask_l-ends = same_from_bits _ _ (λ i. bit_at_or (mask_l (take n bits)) last i ∙ bit-ends i)

list_all-split : {X : Type 0} (p : X → Bool) (xs : List X) (n : ℕ) → list_all p xs ≡ (list_all p (take n xs) && list_all p (drop n xs))
list_all-split p xs n = ap (list_all p) (sym (take-append-drop n xs)) ∙ list_all-append p (take n xs) (drop n xs)

-- all pass where the first n and the last from place b on do
list_all-ends : {X : Type 0} (p : X → Bool) (xs : List X) (n b : ℕ) → b ≤ n → list_all p (take n xs) ≡ true → list_all p (drop b xs) ≡ true
    → list_all p xs ≡ true
list_all-ends p xs n b reached first last =
    let whole : b + (n - b) ≡ n = omega arith in
    let same : drop (n - b) (drop b xs) ≡ drop n xs = drop-drop (n - b) b xs ∙ ap (λ k. drop k xs) whole in
    let rest = and_parts _ _ (sym (list_all-split p (drop b xs) (n - b)) ∙ last) in
    list_all-split p xs n ∙ ap₂ (λ x y. x && y) first (ap (list_all p) (sym same) ∙ rest.1)

-- the crosses of all cells, by those of the first n and of the last n
pub crosses_if_marks-ends : (cells : List ℕ) (n first last : ℕ) → n ≤ 32 → n ≤ length cells → length cells ≤ 2 * n
    → Some first ≡ crosses_if_marks (chunk 0 n cells) → Some last ≡ crosses_if_marks (chunk (length cells - n) n cells)
    → Some (bit_or first (last * 2 ^ (length cells - n) % 2 ^ 64)) ≡ crosses_if_marks cells
crosses_if_marks-ends cells n first last few within reached told more =
    let b : ℕ = length cells - n in
    let bits : List Bool = map is_cross cells in
    let rest : chunk b n cells ≡ drop b cells = take_all n (drop b cells) (omega (arith, length-drop b cells)) in
    let start = cond_some _ _ _ (sym told) in
    let end = cond_some _ _ _ (sym (more ∙ ap crosses_if_marks rest)) in
    let all : list_all is_mark cells ≡ true = list_all-ends is_mark cells n b (omega arith) start.0 end.0 in
    let low : first ≡ mask_l (take n bits) = sym start.1 ∙ ap mask_l (sym (take-map is_cross n cells)) in
    let high : last ≡ mask_l (drop b bits) = sym end.1 ∙ ap mask_l (sym (drop-map is_cross b cells)) in
    let count : length (drop b bits) ≡ n = length-drop b bits ∙ omega (arith, length-map cells is_cross) in
    let small : mask_l (drop b bits) < 2 ^ n = subst (λ k. mask_l (drop b bits) < 2 ^ k) count (mask_l-lt (drop b bits)) in
    let whole : mask_l (drop b bits) * 2 ^ b % 2 ^ 64 ≡ mask_l (drop b bits) * 2 ^ b = shl_whole (mask_l (drop b bits)) n b 64 small (omega arith) in
    rw (all, low, high, whole) (ap Some (mask_l-ends bits n b (omega arith)))

pub cond-None : {X : Type 0} (all : Bool) (x : X) → None ≡ cond all (Some x) None → all ≡ false
cond-None true x is = absurd (none-some x is)
cond-None false x is = refl

-- a cell among n of them is no mark
pub crosses_if_marks-None : (cells : List ℕ) (i n : ℕ) → None ≡ crosses_if_marks (chunk i n cells) → None ≡ crosses_if_marks cells
crosses_if_marks-None cells i n told =
    let rest : list_all is_mark (drop i cells) ≡ false = list_all-split is_mark (drop i cells) n
    ∙ ap (λ x. x && list_all is_mark (drop n (drop i cells))) (cond-None _ _ told) in
    let all : list_all is_mark cells ≡ false = list_all-split is_mark cells i
    ∙ ap (λ x. list_all is_mark (take i cells) && x) rest ∙ and-false (list_all is_mark (take i cells)) in
    rw all refl

-- ---- block after block

-- the cells below i are marks, and their crosses are in the set
pub record ReadTo (cells : List ℕ) (set : Set) (i : ℕ) : Type 0 where
  pub marks : list_all is_mark (take i cells) ≡ true
  pub crosses : CrossedTo cells set i

-- the cells from i to `end`, of which there are 64 or all that are left
pub ReadTo-block : (i end bits : ℕ) (cells : List ℕ) (set new : Set) → ReadTo cells set i → i ≤ end → end ≡ min (length cells) (i + 64)
    → Some bits ≡ crosses_if_marks (take (end - i) (drop i cells)) → bits < 2 ^ 64 → length new ≡ length set
    → ((j : ℕ) → j < length set → get_or new j false ≡ (get_or set j false || (nat_le i j && eqb (bit_at bits (j - i)) 1)))
    → ReadTo cells new end
ReadTo-block i end bits cells set new r up last told small wide put =
    let block : List ℕ = take (end - i) (drop i cells) in
    let read = cond_some _ _ _ (sym told) in
    let so_far : take end cells ≡ take i cells ++ block = ap (λ n. take n cells) (omega arith) ∙ take-add i (end - i) cells in
    record {
      marks = ap (list_all is_mark) so_far ∙ list_all-append is_mark (take i cells) block ∙ ap₂ (λ x y. x && y) r.marks read.0;
      crosses = CrossedTo-block i end bits cells set new r.crosses up last
          (λ k lt. ap (λ n. eqb (bit_at n k) 1) (sym read.1) ∙ is_set-mask_l (map is_cross block) k ∙ get_or-map is_cross block k 0 false lt)
          small wide put;
    }

-- all cells were read
pub ReadTo-all : (cells : List ℕ) (set : Set) → ReadTo cells set (length cells) → (list_all is_mark cells ≡ true) × (set ≡ map is_cross cells)
ReadTo-all cells set r = (ap (list_all is_mark) (sym (take-length cells)) ∙ r.marks, CrossedTo-all cells set r.crosses)
