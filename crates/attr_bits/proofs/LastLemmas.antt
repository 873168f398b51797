-- The last member before a place that another set lacks, by words from the last on.
use Rattle.std.proofs.Common.{◌≡◌, ◌≢◌, ℕ, suc, ◌+◌, ◌-◌, ◌*◌, ◌/◌, ◌%◌, ◌^◌, ◌<◌, ◌≤◌, true, false, ◌&&◌, eqb, eq-eqb, List, get_or, sym}
use Rattle.std.proofs.Common.{ap, ◌∙◌, subst, arith, inl, inr, bit_and, w64, min, pow_mono, pow-suc}
use Rattle.std.proofs.Math.Bool.{and-true, and-false}
use Rattle.std.proofs.Math.Nat.{sub_self}
use Rattle.std.proofs.lemmas.Bool.{cases_lt, false≢true}
use Rattle.std.proofs.lemmas.Nat.{leading_top}
use Rattle.std.proofs.lemmas.Nat.Bits.{bit_at-zero, bit_at_above, bit_at_ones, bit_at_ones_above, bit_at_cat_high}
use Rattle.std.specs.Int.{bit_at, leading_zeros}
use Rattle.fca_model.specs.Sets.{Set}
use Rattle.attr_bits.specs.WordLaws.{get_or_past}
use Rattle.attr_bits.specs.Difference.{minus, IsLastMissing}
use Rattle.attr_bits.proofs.DifferenceLemmas.{length-minus, lacked, kept}
use Rattle.attr_bits.proofs.PlaceLemmas.{IsWords, width_is}
use Rattle.attr_bits.proofs.WordwiseLemmas.{and_bitwise, lacking, lacking_bitwise, minus_bit}

-- no place of D from one on and before another
abbrev pub NoneBetween : Set → ℕ → ℕ → Type 0
NoneBetween D from end = (i : ℕ) → from ≤ i → i < end → get_or D i false ≡ false

module _ {m n v : ℕ} {a b : List ℕ} {A B : Set} (wa : IsWords m a n A) (wb : IsWords m b v B) (end : ℕ) where
  -- from the words on that are looked at
  pub none_past : (reached words : ℕ) → n ≤ 64 * words → reached ≡ min words ((end + 63) / 64) → NoneBetween (minus A B) (64 * reached) end
  none_past reached words far is i low high = elim (cases_lt i n) [
    | inl inside ↦ absurd (omega arith)
    | inr past_end ↦ get_or_past (minus A B) i (omega (arith, length-minus A B, width_is wa))
  ]

  pub none_missing : (k : ℕ) → k ≡ 0 → NoneBetween (minus A B) (64 * k) end → (i : ℕ) → i < end → get_or A i false ≡ true
      → get_or B i false ≡ true
  none_missing k z none i l = kept A B i (none i (omega arith) l)

  module _ (k ones : ℕ) (is : ones ≡ 2 ^ min (end - 64 * k) 64 - 1) where
    abbrev word : ℕ
    word = lacking (get_or a k 0) (get_or b k 0)

    -- what is lacked in word k, before the end
    abbrev bits : ℕ
    bits = bit_and word ones

    small_word : word < 2 ^ 64
    small_word = lacking_bitwise.small (get_or a k 0) (get_or b k 0) (wa.fits.small k) (wb.fits.small k)

    small_ones : ones < 2 ^ 64
    small_ones = let few : min (end - 64 * k) 64 ≤ 64 = omega arith in let p : 2 ^ min (end - 64 * k) 64 ≤ 2 ^ 64 = pow_mono few in
        omega (arith, is)

    small_bits : bits < 2 ^ 64
    small_bits = and_bitwise.small word ones small_word small_ones

    bit_before : (j : ℕ) → j < 64 → 64 * k + j < end → get_or (minus A B) (64 * k + j) false ≡ eqb (bit_at bits j) 1
    bit_before j lj l =
        let q : (64 * k + j) / 64 ≡ k = omega arith in
        let r : (64 * k + j) % 64 ≡ j = omega arith in
        let one : eqb (bit_at ones j) 1 ≡ true = ap (λ x. eqb (bit_at x j) 1) is
        ∙ ap (λ x. eqb x 1) (bit_at_ones (min (end - 64 * k) 64) j (omega arith)) in
        minus_bit wa wb (64 * k + j)
        ∙ rw (q, r) (sym (and_bitwise.bits word ones j small_word small_ones lj ∙ ap (λ x. eqb (bit_at word j) 1 && x) one
        ∙ and-true (eqb (bit_at word j) 1)))

    bit_past : (j : ℕ) → j < 64 → end ≤ 64 * k + j → eqb (bit_at bits j) 1 ≡ false
    bit_past j lj le =
        let none : eqb (bit_at ones j) 1 ≡ false = ap (λ x. eqb (bit_at x j) 1) is
        ∙ ap (λ x. eqb x 1) (bit_at_ones_above (min (end - 64 * k) 64) j (omega arith)) in
        and_bitwise.bits word ones j small_word small_ones lj ∙ ap (λ x. eqb (bit_at word j) 1 && x) none
        ∙ and-false (eqb (bit_at word j) 1)

    -- in word k from bit t on, and then behind it
    none_from : (t : ℕ) → ((j : ℕ) → t ≤ j → j < 64 → bit_at bits j ≡ 0) → NoneBetween (minus A B) (64 * (k + 1)) end
        → NoneBetween (minus A B) (64 * k + t) end
    none_from t none behind i low high = elim (cases_lt i (64 * (k + 1))) [
      | inl here ↦
          let e : 64 * k + (i - 64 * k) ≡ i = omega arith in
          subst (λ x. get_or (minus A B) x false ≡ false) e
          (bit_before (i - 64 * k) (omega arith) (omega arith) ∙ ap (λ x. eqb x 1) (none (i - 64 * k) (omega arith) (omega arith)))
      | inr later ↦ behind i later high
    ]

    pub none_in_word : bits ≡ 0 → NoneBetween (minus A B) (64 * (k + 1)) end → NoneBetween (minus A B) (64 * k) end
    none_in_word z behind i low high = none_from 0 (λ j le l. ap (λ x. bit_at x j) z ∙ bit_at-zero j) behind i (omega arith) high

    module _ (some : bits ≢ 0) where
      abbrev top : (j : ℕ) × (leading_zeros w64 bits + suc j ≡ 64) × (2 ^ j ≤ bits) × (bits < 2 ^ suc j)
      top = leading_top 64 bits (omega arith) small_bits

      abbrev highest : ℕ
      highest = 63 - leading_zeros w64 bits

      highest_is : highest ≡ top.0
      highest_is = omega (arith, top.1)

      pub highest_below : (leading_zeros w64 bits ≤ 63) × (highest < 64)
      highest_below = (omega (arith, top.1), omega (arith, top.1))

      bit_highest : bit_at bits top.0 ≡ 1
      bit_highest =
          let rest : ℕ = bits - 2 ^ top.0 in
          let split : 1 * 2 ^ top.0 + rest ≡ bits = omega (arith, top.2) in
          ap (λ x. bit_at x top.0) (sym split) ∙ bit_at_cat_high 1 top.0 rest top.0 (omega (arith, top.3, pow-suc 2 top.0)) (omega arith)
          ∙ ap (λ x. bit_at 1 x) (sub_self top.0)

      below_end : 64 * k + top.0 < end
      below_end = elim (cases_lt (64 * k + top.0) end) [
        | inl lt ↦ lt
        | inr le ↦ absurd (false≢true (sym (bit_past top.0 (omega (arith, top.1)) le) ∙ eq-eqb _ 1 bit_highest))
      ]

      -- the last word with a bit that is lacked has the last member, at its highest one
      pub last_in_word : NoneBetween (minus A B) (64 * (k + 1)) end → IsLastMissing A B end (64 * k + highest)
      last_in_word behind =
          let here = lacked A B (64 * k + top.0) (bit_before top.0 (omega (arith, top.1)) below_end ∙ eq-eqb _ 1 bit_highest) in
          subst (λ j. IsLastMissing A B end (64 * k + j)) (sym highest_is) (record {
            before = below_end;
            member = here.0;
            lacks = here.1;
            last = λ i low high. kept A B i (none_from (suc top.0) (λ j le l. bit_at_above bits (suc top.0) j top.3 le) behind i
                (omega arith) high);
          })
