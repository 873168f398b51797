-- Up to 64 attributes added together, from a multiple of 64 on: one word is changed, by the bits below the width.
use Rattle.std.proofs.Common.{◌≡◌, ◌≢◌, ℕ, ◌-◌, ◌/◌, ◌%◌, ◌^◌, ◌<◌, ◌≤◌, true, false, ◌&&◌, ◌||◌, eqb, nat_le, List, length, get_or, set}
use Rattle.std.proofs.Common.{sym, ap, ap₂, ◌∙◌, arith, inl, inr, bit_and, bit_or, min, pow_mono, get_or-set_same, get_or-set_other}
use Rattle.std.proofs.Common.{length-set}
use Rattle.std.proofs.Math.Bool.{or-false, and-true, and-false}
use Rattle.std.proofs.lemmas.Bool.{cases_eq, cases_lt, le-leb, lt-leb}
use Rattle.std.proofs.lemmas.Nat.Bits.{bit_at_above, bit_at_ones, bit_at_ones_above}
use Rattle.std.specs.Int.{bit_at}
use Rattle.fca_model.specs.Sets.{Set}
use Rattle.attr_bits.specs.Words.{word_bit, set_of, FitsWidth}
use Rattle.attr_bits.specs.WordLaws.{length-set_of, get_or-set_of}
use Rattle.attr_bits.proofs.PlaceLemmas.{IsWords, width_is, place}
use Rattle.attr_bits.proofs.WordwiseLemmas.{and_bitwise, or_bitwise}

module _ {m n : ℕ} {a : List ℕ} {A : Set} (w : IsWords m a n A) (from bits ones : ℕ) (aligned : from % 64 ≡ 0) (l : from < length A)
    (small : bits < 2 ^ 64)
    (is : ones ≡ 2 ^ min (n - from) 64 - 1) where
  abbrev added : ℕ
  added = bit_or (get_or a (from / 64) 0) (bit_and bits ones)

  abbrev after : List ℕ
  after = set a (from / 64) added

  small_ones : ones < 2 ^ 64
  small_ones = let few : min (n - from) 64 ≤ 64 = omega arith in let p : 2 ^ min (n - from) 64 ≤ 2 ^ 64 = pow_mono few in omega (arith, is)

  small_both : bit_and bits ones < 2 ^ 64
  small_both = and_bitwise.small bits ones small small_ones

  in_words : from / 64 < length a
  in_words = omega (arith, width_is w, w.fits.narrow, w.fits.count)

  same_bit : (q : ℕ) → q / 64 ≢ from / 64 → word_bit after q ≡ word_bit a q
  unfolding word_bit
  same_bit q other = ap (λ x. eqb (bit_at x (q % 64)) 1) (get_or-set_other a (from / 64) (q / 64) added 0 other)

  changed_bit : (q : ℕ) → q / 64 ≡ from / 64 → word_bit after q
      ≡ (word_bit a q || (eqb (bit_at bits (q - from)) 1 && eqb (bit_at ones (q - from)) 1))
  unfolding word_bit
  changed_bit q here =
      let j : q % 64 ≡ q - from = omega (arith, aligned, here) in
      ap (λ x. eqb (bit_at (get_or after x 0) (q % 64)) 1) here
      ∙ ap (λ x. eqb (bit_at x (q % 64)) 1) (get_or-set_same a (from / 64) added 0 in_words)
      ∙ or_bitwise.bits (get_or a (from / 64) 0) (bit_and bits ones) (q % 64) (w.fits.small (from / 64)) small_both (omega arith)
      ∙ ap₂ (λ x y. x || y) (ap (λ x. eqb (bit_at (get_or a x 0) (q % 64)) 1) (sym here))
      (and_bitwise.bits bits ones (q % 64) small small_ones (omega arith) ∙ ap (λ x. eqb (bit_at bits x) 1 && eqb (bit_at ones x) 1) j)

  -- below the width the bits are added
  added_below : (q : ℕ) → q < n → word_bit after q ≡ (word_bit a q || (nat_le from q && eqb (bit_at bits (q - from)) 1))
  added_below q lt = elim (cases_eq (q / 64) (from / 64)) [
    | inl here ↦
        let one : eqb (bit_at ones (q - from)) 1 ≡ true = ap (λ x. eqb (bit_at x (q - from)) 1) is
        ∙ ap (λ x. eqb x 1) (bit_at_ones (min (n - from) 64) (q - from) (omega (arith, aligned, here))) in
        changed_bit q here ∙ ap (λ x. word_bit a q || x)
        (ap (λ x. eqb (bit_at bits (q - from)) 1 && x) one ∙ and-true (eqb (bit_at bits (q - from)) 1)
        ∙ sym (ap (λ x. x && eqb (bit_at bits (q - from)) 1) (le-leb from q (omega (arith, aligned, here)))))
    | inr other ↦ same_bit q other ∙ sym (ap (λ x. word_bit a q || x) (elim (cases_lt q from) [
      | inl before ↦ ap (λ x. x && eqb (bit_at bits (q - from)) 1) (lt-leb from q before)
      | inr later ↦ ap₂ (λ x y. x && eqb y 1) (le-leb from q later) (bit_at_above bits 64 (q - from) small (omega (arith, aligned, other)))
    ]) ∙ or-false (word_bit a q))
  ]

  -- and from it on there is none
  none_past : (q : ℕ) → n ≤ q → word_bit after q ≡ false
  none_past q le = elim (cases_eq (q / 64) (from / 64)) [
    | inl here ↦
        let none : eqb (bit_at ones (q - from)) 1 ≡ false = ap (λ x. eqb (bit_at x (q - from)) 1) is
        ∙ ap (λ x. eqb x 1) (bit_at_ones_above (min (n - from) 64) (q - from) (omega (arith, aligned, here))) in
        changed_bit q here ∙ ap₂ (λ x y. x || y) (w.fits.clear q le)
        (ap (λ x. eqb (bit_at bits (q - from)) 1 && x) none ∙ and-false (eqb (bit_at bits (q - from)) 1))
    | inr other ↦ same_bit q other ∙ w.fits.clear q le
  ]

  small_words : (k : ℕ) → get_or after k 0 < 2 ^ 64
  small_words k = elim (cases_eq k (from / 64)) [
    | inl here ↦ omega (
      arith,
      ap (λ x. get_or after x 0) here,
      get_or-set_same a (from / 64) added 0 in_words,
      or_bitwise.small (get_or a (from / 64) 0) (bit_and bits ones) (w.fits.small (from / 64)) small_both,
    )
    | inr other ↦ omega (arith, get_or-set_other a (from / 64) k added 0 other, w.fits.small k)
  ]

  pub block_fits : FitsWidth m after n
  block_fits = record {
    narrow = w.fits.narrow;
    count = length-set a (from / 64) added ∙ w.fits.count;
    small = small_words;
    clear = none_past;
  }

  pub block_wide : length (set_of after n) ≡ length A
  block_wide = length-set_of after n ∙ width_is w

  pub block_members : (i : ℕ) → i < length A → get_or (set_of after n) i false
      ≡ (get_or A i false || (nat_le from i && eqb (bit_at bits (i - from)) 1))
  block_members i lt =
      let below : i < n = omega (arith, width_is w) in
      get_or-set_of after n i below ∙ added_below i below ∙ ap (λ x. x || (nat_le from i && eqb (bit_at bits (i - from)) 1)) (place w i)
