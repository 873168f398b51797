-- Places in blocks: those of a block that are in a column, and what is seen of a column block by block.
use Rattle.std.proofs.Common.{◌≡◌, ℕ, ◌+◌, ◌*◌, ◌/◌, ◌%◌, ◌<◌, ◌≤◌, Bool, true, false, ◌&&◌, ◌||◌, inl, inr, ltb, refl, take, ap₂, ◌∷◌}
use Rattle.std.proofs.Common.{◌++◌, Option, Some, None, MatchOption, List, [], length, get_or, map, sym, ap, ◌∙◌, arith, eqb, eqb-true}
use Rattle.std.proofs.Math.Bool.{or-false}
use Rattle.std.proofs.lemmas.Bool.{false≢true, and_parts, and_from, eq-eqb, lt-ltb, cases_lt, false_from_ne_true}
use Rattle.std.proofs.lemmas.List.{get_or_past, get_or_default}
use Rattle.std.proofs.lemmas.List.Folds.{list_any-append, list_any_more}
use Rattle.std.specs.List.{list_any}
use Rattle.fca_model.specs.Sets.{Set, meet}
use Rattle.fca_model.specs.Exploration.{first_missing}
use Rattle.fca_model.proofs.ListLemmas.{bool_iff, list_any-map}
use Rattle.fca_model.proofs.SetLemmas.{get_or-meet, within_at_place}
use Rattle.fca_model.proofs.StepLemmas.{first_missing_none}
use Rattle.attr_bits.proofs.DifferenceLemmas.{first_missing-parts}
use Rattle.attr_bits.proofs.PlaceLemmas.{member_below}
use Rattle.extent_blocks.specs.Blocks.{in_block, in_column, in_blocks, NumberedBlock}

module _ (n : ℕ) (O : Set) (g : ℕ) where
  abbrev here : Bool
  here = eqb n (g / 256)

  abbrev at : Set → Bool
  at P = get_or P (g % 256) false

  -- the part of a column that is block n
  column_here : (C : Set) (Cs : List Set) → C ≡ get_or Cs n [] → here ≡ true → at C ≡ in_column Cs g
  column_here C Cs c h = ap at (c ∙ ap (λ k. get_or Cs k []) (eqb-true n (g / 256) h))

  pub met_place : (C : Set) (Cs : List Set) → C ≡ get_or Cs n [] → in_block n (meet O C) g ≡ (in_block n O g && in_column Cs g)
  met_place C Cs c = bool_iff (in_block n (meet O C) g) (in_block n O g && in_column Cs g)
      (λ t.
      let p = and_parts here (at (meet O C)) t in
      let q = and_parts (at O) (at C) (sym (get_or-meet O C (g % 256)) ∙ p.1) in
      and_from (in_block n O g) (in_column Cs g) (and_from here (at O) p.0 q.0) (sym (column_here C Cs c p.0) ∙ q.1))
      (λ t.
      let p = and_parts (in_block n O g) (in_column Cs g) t in
      let q = and_parts here (at O) p.0 in
      and_from here (at (meet O C)) q.0 (get_or-meet O C (g % 256) ∙ and_from (at O) (at C) q.1 (column_here C Cs c q.0 ∙ p.1)))

  -- a block past the end of the column
  pub past_place : (Cs : List Set) → length Cs ≤ n → in_block n O g ≡ true → in_column Cs g ≡ false
  past_place Cs le t =
      let p = and_parts here (at O) t in
      sym (column_here [] Cs (sym (get_or_past Cs n [] le)) p.0) ∙ get_or_past [] (g % 256) false (omega arith)

  -- no members
  pub no_place : ((i : ℕ) → 0 ≤ i → i < length O → get_or O i false ≡ false) → in_block n O g ≡ false
  no_place none = false_from_ne_true (in_block n O g) (λ t.
      let p = and_parts here (at O) t in
      false≢true (sym (none (g % 256) (omega arith) (member_below O (g % 256) p.1)) ∙ p.1))

-- where the column ends before the block
pub none_past : (n : ℕ) (O : Set) (Cs : List Set) → length Cs ≤ n → (g : ℕ) → (in_block n O g && in_column Cs g) ≡ false
none_past n O Cs le g = false_from_ne_true (in_block n O g && in_column Cs g) (λ t.
    let p = and_parts (in_block n O g) (in_column Cs g) t in
    false≢true (sym (past_place n O g Cs le p.0) ∙ p.1))

-- where nothing of the block is in the column
pub none_met : (n : ℕ) (O M C : Set) (Cs : List Set) → C ≡ get_or Cs n [] → M ≡ meet O C
    → ((i : ℕ) → 0 ≤ i → i < length M → get_or M i false ≡ false) → (g : ℕ) → (in_block n O g && in_column Cs g) ≡ false
none_met n O M C Cs c m none g = sym (met_place n O g C Cs c) ∙ ap (λ X. in_block n X g) (sym m) ∙ no_place n M g none

-- ---- the first place in one column and not in another

module _ (n : ℕ) (O C D : Set) (Cs Ds : List Set) (c : C ≡ get_or Cs n []) (d : D ≡ get_or Ds n []) where
  pub none_left : first_missing 0 (meet O C) D ≡ None → (g : ℕ) → in_block n O g ≡ true → in_column Cs g ≡ true → in_column Ds g ≡ true
  none_left e g t u =
      let p = and_parts (eqb n (g / 256)) (get_or O (g % 256) false) t in
      let q = and_parts (eqb n (g / 256)) (get_or (meet O C) (g % 256) false)
      (met_place n O g C Cs c ∙ and_from (in_block n O g) (in_column Cs g) t u) in
      sym (column_here n O g D Ds d p.0) ∙ within_at_place (meet O C) D (first_missing_none 0 (meet O C) D e) (g % 256) q.1

  pub first_left : (j : ℕ) → length O ≤ 256 → first_missing 0 (meet O C) D ≡ Some j
      → (j < 256) × (in_block n O (n * 256 + j) ≡ true) × (in_column Cs (n * 256 + j) ≡ true) × (in_column Ds (n * 256 + j) ≡ false)
  first_left j small e =
      let parts = first_missing-parts (meet O C) D j e in
      let both = and_parts (get_or O j false) (get_or C j false) (sym (get_or-meet O C j) ∙ parts.0) in
      let lt : j < 256 = omega (arith, member_below O j both.0, small) in
      let block : n ≡ (n * 256 + j) / 256 = omega (arith, lt) in
      let place : j ≡ (n * 256 + j) % 256 = omega (arith, lt) in
      let number : eqb n ((n * 256 + j) / 256) ≡ true = eq-eqb n ((n * 256 + j) / 256) block in (
        lt,
        and_from (eqb n ((n * 256 + j) / 256)) (get_or O ((n * 256 + j) % 256) false) number
            (ap (λ k. get_or O k false) (sym place) ∙ both.0),
        sym (column_here n O (n * 256 + j) C Cs c number) ∙ ap (λ k. get_or C k false) (sym place) ∙ both.1,
        sym (column_here n O (n * 256 + j) D Ds d number) ∙ ap (λ k. get_or D k false) (sym place) ∙ parts.1,
      )

  pub first_or_none : (o : Option ℕ) → o ≡ first_missing 0 (meet O C) D → length O ≤ 256
      → MatchOption o ((g : ℕ) → in_block n O g ≡ true → in_column Cs g ≡ true → in_column Ds g ≡ true)
      (λ j. (j < 256) × (in_block n O (n * 256 + j) ≡ true) × (in_column Cs (n * 256 + j) ≡ true) × (in_column Ds (n * 256 + j) ≡ false))
  first_or_none None e small = none_left (sym e)
  first_or_none (Some j) e small = first_left j small (sym e)

-- what is lent is what stands at the place
pub lent : (Cs : List Set) (n : ℕ) (C : Set) → n < length Cs → C ≡ get_or Cs n C → C ≡ get_or Cs n []
lent Cs n C l e = e ∙ get_or_default Cs n C [] l

-- parts that are seen of what is stored
pub blocks_of : {X : Type 0} (number : X → ℕ) (objects : X → Set) (xs : List X) (g : ℕ)
    → in_blocks (map (λ x. record { number = number x; objects = objects x }) xs) g ≡ list_any (λ x. in_block (number x) (objects x) g) xs
blocks_of number objects xs g = list_any-map (λ (y : NumberedBlock). in_block y.number y.objects g)
    (λ x. record { number = number x; objects = objects x }) xs

-- ---- parts kept one after another

-- a place that is in a column is before its end
column_ends : (Cs : List Set) (g : ℕ) → in_column Cs g ≡ true → g / 256 < length Cs
column_ends Cs g t = elim (cases_lt (g / 256) (length Cs)) [
  | inl lt ↦ lt
  | inr le ↦ absurd (false≢true (sym (ap (λ (C : Set). get_or C (g % 256) false) (get_or_past Cs (g / 256) [] le)
      ∙ get_or_past [] (g % 256) false (omega arith)) ∙ t))
]

pub all_numbered : (Cs : List Set) (n g : ℕ) → length Cs ≤ n → (ltb (g / 256) n && in_column Cs g) ≡ in_column Cs g
all_numbered Cs n g le = bool_iff (ltb (g / 256) n && in_column Cs g) (in_column Cs g)
    (λ t. (and_parts (ltb (g / 256) n) (in_column Cs g) t).1)
    (λ t. let lt : g / 256 < length Cs = column_ends Cs g t in
    and_from (ltb (g / 256) n) (in_column Cs g) (lt-ltb (g / 256) n (omega arith)) t)

-- what is kept of the first i of the list, and then of the next
module _ {X : Type 0} (p : X → Bool) (xs : List X) (i : ℕ) (x : X) (b : Bool) (inside : i < length xs) (is : x ≡ get_or xs i x)
    (kept now : List X)
    (before : list_any p kept ≡ (list_any p (take i xs) && b)) where
  kept_more : (met : Bool) → met ≡ (p x && b) → list_any p now ≡ (list_any p kept || met)
      → list_any p now ≡ (list_any p (take (i + 1) xs) && b)
  kept_more met m h = h ∙ ap₂ (λ s t. s || t) before m ∙ either (list_any p (take i xs)) (p x) b
      ∙ ap (λ t. t && b) (sym (list_any_more p xs i x inside ∙ ap (λ y. list_any p (take i xs) || p y) (sym is)))
    where
      either : (s t b : Bool) → ((s && b) || (t && b)) ≡ ((s || t) && b)
      either true true true = refl
      either true true false = refl
      either true false true = refl
      either true false false = refl
      either false true true = refl
      either false true false = refl
      either false false true = refl
      either false false false = refl

  pub kept_some : (part : X) → p part ≡ (p x && b) → now ≡ kept ++ part ∷ [] → list_any p now ≡ (list_any p (take (i + 1) xs) && b)
  kept_some part m pushed = kept_more (p part) m
      (ap (list_any p) pushed ∙ list_any-append p kept (part ∷ []) ∙ ap (λ t. list_any p kept || t) (or-false (p part)))

  pub kept_none : (p x && b) ≡ false → now ≡ kept → list_any p now ≡ (list_any p (take (i + 1) xs) && b)
  kept_none m same = kept_more false (sym m) (ap (list_any p) same ∙ sym (or-false (list_any p kept)))
