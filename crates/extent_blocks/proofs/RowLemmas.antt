-- A closure as the meet of rows one after another: at each step the closure lies within what is met, which lies within each row that was
-- met.
use Rattle.std.proofs.Common.{◌≡◌, ℕ, ◌+◌, ◌*◌, ◌/◌, ◌%◌, ◌<◌, ◌≤◌, Bool, true, false, ◌&&◌, ◌||◌, List, [], length, get_or}
use Rattle.std.proofs.Common.{take, sym, ap, ◌∙◌, subst, arith, eqb, eqb-true, ltb, inl, inr}
use Rattle.std.proofs.lemmas.Bool.{false≢true, and_parts, and_from, eq-eqb, cases_eq, cases_lt, ltb-true}
use Rattle.std.proofs.lemmas.List.Folds.{list_any_more, list_any_at}
use Rattle.std.specs.List.{list_any}
use Rattle.fca_model.specs.Sets.{Set, within, meet, full, IsNextMember}
use Rattle.fca_model.specs.Context.{Context, closure}
use Rattle.fca_model.proofs.SetLemmas.{within_refl, within_trans, within_antisymm, within-meet, length-meet, get_or-meet}
use Rattle.fca_model.proofs.ClosureLemmas.{length-closure}
use Rattle.attr_bits.proofs.PlaceLemmas.{member_below}
use Rattle.extent_blocks.specs.Blocks.{IsMeeting, IsMet, in_block, in_column, row_at, contains_at}
use Rattle.extent_blocks.proofs.BlockLemmas.{met_place, none_past}
use Rattle.extent_blocks.proofs.ClosureSteps.{row_above, below_rows, begins}

-- ---- one row

meet_parts : (M R : Set) → (within (meet M R) M ≡ true) × (within (meet M R) R ≡ true)
meet_parts M R = and_parts (within (meet M R) M) (within (meet M R) R) (sym (within-meet (meet M R) M R) ∙ within_refl (meet M R))

module _ (K : Context) (A : Set) where
  pub meeting_full : (M : Set) (n : ℕ) → M ≡ full n → n ≡ K.width → IsMeeting K A M
  meeting_full M n m e = let first = begins K A M n m e in record { wide = first.0; above = first.1 }

  pub meeting_more : (M R N : Set) (g : ℕ) → IsMeeting K A M → contains_at K A g ≡ true → R ≡ row_at K g → N ≡ meet M R → IsMeeting K A N
  meeting_more M R N g v t r n = record {
    wide = ap length n ∙ length-meet M R ∙ v.wide;
    above = ap (within (closure K A)) n ∙ within-meet (closure K A) M R
        ∙ and_from (within (closure K A) M) (within (closure K A) R) v.above
        (subst (λ X. within (closure K A) X ≡ true) (sym r) (row_above K A g t));
  }

  -- one of these rows alone
  pub meeting_one : (R : Set) (g : ℕ) → contains_at K A g ≡ true → R ≡ row_at K g → length R ≡ K.width → IsMeeting K A R
  meeting_one R g t r wide = record { wide = wide; above = subst (λ X. within (closure K A) X ≡ true) (sym r) (row_above K A g t) }

  -- a row that contains A contains what lies within A
  pub contains_within : (M : Set) (g : ℕ) → contains_at K A g ≡ true → within M A ≡ true → within M (row_at K g) ≡ true
  contains_within M g t w = within_trans M A (row_at K g) w (and_parts (ltb g (length K.rows)) (within A (row_at K g)) t).1

  pub contains_inside : (g : ℕ) → contains_at K A g ≡ true → g < length K.rows
  contains_inside g t = ltb-true g (length K.rows) (and_parts (ltb g (length K.rows)) (within A (row_at K g)) t).0

  -- all rows are met
  pub meeting_ends : (M : Set) (p : ℕ → Bool) → IsMeeting K A M → ((g : ℕ) → p g ≡ contains_at K A g) → IsMet K p M → M ≡ closure K A
  meeting_ends M p v all met =
      within_antisymm M (closure K A) (v.wide ∙ sym (length-closure K A)) (below_rows K A M v.wide (λ g t. met g (all g ∙ t))) v.above

-- ---- the rows of a block, place by place

-- a member is the next one from its own place on
pub member_next : (L : Set) (m : ℕ) → get_or L m false ≡ true → IsNextMember L m m
member_next L m t = record {
  at_least = omega arith;
  in_range = member_below L m t;
  member = t;
  least = λ i on before. absurd (omega (arith, on, before));
}

-- the rows before place j of the block are met
pub record HasMet (K : Context) (A S : Set) (p : ℕ → Bool) (j : ℕ) (M : Set) : Type 0 where
  pub meeting : IsMeeting K A M
  pub less : within M S ≡ true
  pub below : (g : ℕ) → p g ≡ true → g % 256 < j → within M (row_at K g) ≡ true

module _ (K : Context) (A S : Set) (n : ℕ) (O C L : Set) (Cs : List Set) (c : C ≡ get_or Cs n []) (l : L ≡ meet O C)
    (containing : (g : ℕ) → (in_block n O g && in_column Cs g) ≡ true → contains_at K A g ≡ true) where
  abbrev test : ℕ → Bool
  test g = in_block n O g && in_column Cs g

  -- a place that passes is in the block
  place_of : (g : ℕ) → test g ≡ true → (eqb n (g / 256) ≡ true) × (get_or L (g % 256) false ≡ true)
  place_of g t = and_parts (eqb n (g / 256)) (get_or L (g % 256) false) (ap (λ X. in_block n X g) l ∙ met_place n O g C Cs c ∙ t)

  pub met_start : IsMeeting K A S → HasMet K A S test 0 S
  met_start v = record { meeting = v; less = within_refl S; below = λ g t lt. absurd (omega (arith, lt)) }

  module _ (from m : ℕ) (small : length O ≤ 256) (next : IsNextMember L from m) where
    abbrev g : ℕ
    g = n * 256 + m

    below_256 : m < 256
    below_256 = omega (
      arith,
      member_below O m (and_parts (get_or O m false) (get_or C m false)
          (sym (get_or-meet O C m) ∙ ap (λ X. get_or X m false) (sym l) ∙ next.member)).0,
      small,
    )

    pub next_passes : (in_block n O (n * 256 + m) && in_column Cs (n * 256 + m)) ≡ true
    next_passes =
        let block : n ≡ (n * 256 + m) / 256 = omega (arith, below_256) in
        let place : m ≡ (n * 256 + m) % 256 = omega (arith, below_256) in
        sym (met_place n O g C Cs c)
        ∙ and_from (eqb n ((n * 256 + m) / 256)) (get_or (meet O C) ((n * 256 + m) % 256) false) (eq-eqb n ((n * 256 + m) / 256) block)
        (ap (λ X. get_or X ((n * 256 + m) % 256) false) (sym l) ∙ ap (λ k. get_or L k false) (sym place) ∙ next.member)

    pub next_inside : n * 256 + m < length K.rows
    next_inside = contains_inside K A g (containing g next_passes)

    pub met_more : (M R N : Set) → HasMet K A S test from M → R ≡ row_at K (n * 256 + m) → N ≡ meet M R → HasMet K A S test (m + 1) N
    met_more M R N v r e = record {
      meeting = meeting_more K A M R N g v.meeting (containing g next_passes) r e;
      less = within_trans N M S (subst (λ X. within X M ≡ true) (sym e) (meet_parts M R).0) v.less;
      below = λ h t lt. elim (cases_lt (h % 256) from) [
        | inl before ↦ within_trans N M (row_at K h) (subst (λ X. within X M ≡ true) (sym e) (meet_parts M R).0) (v.below h t before)
        | inr on ↦ elim (cases_eq (h % 256) m) [
          | inl here ↦
              let q = place_of h t in
              let same : h ≡ n * 256 + m = omega (arith, eqb-true n (h / 256) q.0, here) in
              subst (λ X. within N X ≡ true) (r ∙ ap (row_at K) (sym same)) (subst (λ X. within X R ≡ true) (sym e) (meet_parts M R).1)
          | inr ne ↦ absurd (false≢true (sym (next.least (h % 256) on (omega (arith, lt, ne))) ∙ (place_of h t).1))
        ]
      ];
    }

  -- enough is met
  pub met_enough : (M : Set) → within M A ≡ true → IsMet K test M
  met_enough M w g t = contains_within K A M g (containing g t) w

  pub met_all : (from : ℕ) (M : Set) → HasMet K A S test from M → ((i : ℕ) → from ≤ i → i < length L → get_or L i false ≡ false)
      → IsMet K test M
  met_all from M v none g t = elim (cases_lt (g % 256) from) [
    | inl before ↦ v.below g t before
    | inr on ↦ let q = place_of g t in absurd (false≢true (sym (none (g % 256) on (member_below L (g % 256) q.1)) ∙ q.1))
  ]

-- a block past the end of the column
pub met_past : (K : Context) (n : ℕ) (O M : Set) (Cs : List Set) → length Cs ≤ n → IsMet K (λ g. in_block n O g && in_column Cs g) M
met_past K n O M Cs le g t = absurd (false≢true (sym (none_past n O Cs le g) ∙ t))

-- ---- one block after another

or_parts : {P : Type 0} (a b c : Bool) → ((a || b) && c) ≡ true → ((a && c) ≡ true → P) → ((b && c) ≡ true → P) → P
or_parts true b c t f h = f t
or_parts false b c t f h = h t

module _ {X : Type 0} (q : X → ℕ → Bool) (col : ℕ → Bool) (xs : List X) (k : ℕ) (x : X) (inside : k < length xs)
    (is : x ≡ get_or xs k x) where
  pub block_contained : (p : ℕ → Bool) → ((g : ℕ) → (list_any (λ y. q y g) xs && col g) ≡ p g) → (g : ℕ) → (q x g && col g) ≡ true
      → p g ≡ true
  block_contained p all g t =
      let h = and_parts (q x g) (col g) t in
      sym (all g) ∙ and_from (list_any (λ y. q y g) xs) (col g)
      (list_any_at (λ y. q y g) xs k x inside (subst (λ y. q y g ≡ true) is h.0)) h.1

  pub blocks_met : (K : Context) (M N : Set) → within N M ≡ true → IsMet K (λ g. list_any (λ y. q y g) (take k xs) && col g) M
      → IsMet K (λ g. q x g && col g) N
      → IsMet K (λ g. list_any (λ y. q y g) (take (k + 1) xs) && col g) N
  blocks_met K M N less old new g t =
      or_parts (list_any (λ y. q y g) (take k xs)) (q x g) (col g)
      (ap (λ b. b && col g) (ap (λ y. list_any (λ z. q z g) (take k xs) || q y g) is ∙ sym (list_any_more (λ y. q y g) xs k x inside)) ∙ t)
      (λ u. within_trans N M (row_at K g) less (old g u)) (λ u. new g u)
