-- The number of members: the bits of all words up to the width, counted word by word. A word has as many bits as the number that its bits
-- make.
use Rattle.std.proofs.Common.{◌≡◌, ℕ, zero, suc, ◌+◌, ◌-◌, ◌*◌, ◌^◌, ◌<◌, ◌≤◌, Bool, true, false, cond, eqb, List, [], ◌∷◌, map, length}
use Rattle.std.proofs.Common.{get_or, refl, sym, ap, ap₂, ◌∙◌, arith, add-zero, add-suc, add-one, count_ones, take}
use Rattle.std.proofs.lemmas.List.FromFn.{map-range_with_len_more}
use Rattle.std.proofs.lemmas.Nat.Bits.{bit_at-lt, same_from_bits_below}
use Rattle.std.specs.Int.{bit_at}
use Rattle.std.specs.List.{range_with_len}
use Rattle.std.specs.Int.Count.{ones, ones_in as ones_in_bits, ones_cat}
use Rattle.fca_model.specs.Sets.{Set, size}
use Rattle.fca_model.proofs.SetLemmas.{size-append}
use Rattle.attr_bits.specs.Words.{word_bit, set_of, number_of, ones_in}
use Rattle.attr_bits.specs.WordLaws.{word_bit_in, number_of_small, bit_at-number_of, bit_back}
use Rattle.attr_bits.proofs.PlaceLemmas.{IsWords}

abbrev count_below : (ℕ → Bool) → ℕ → ℕ
count_below f zero = 0
count_below f (suc m) = count_below f m + cond (f m) 1 0

size_below : (f : ℕ → Bool) (n : ℕ) → size (map f (range_with_len 0 n)) ≡ count_below f n
size_below f zero = refl
size_below f (suc n) =
    ap size (ap (λ m. map f (range_with_len 0 m)) (sym (add-one n)) ∙ map-range_with_len_more f 0 n n (omega arith))
    ∙ size-append (map f (range_with_len 0 n)) (f n ∷ []) ∙ omega (arith, size_below f n)

count_below-add : (f : ℕ → Bool) (m d : ℕ) → count_below f (m + d) ≡ count_below f m + count_below (λ j. f (m + j)) d
count_below-add f m zero = rw add-zero (omega arith)
count_below-add f m (suc d) = rw add-suc (omega (arith, count_below-add f m d))

count_below-none : (f : ℕ → Bool) (d : ℕ) → ((j : ℕ) → j < d → f j ≡ false) → count_below f d ≡ 0
count_below-none f zero h = refl
count_below-none f (suc d) h = rw (h d (omega arith)) (omega (arith, count_below-none f d (λ j l. h j (omega arith))))

count_below-agree : (f g : ℕ → Bool) (d : ℕ) → ((j : ℕ) → j < d → f j ≡ g j) → count_below f d ≡ count_below g d
count_below-agree f g zero h = refl
count_below-agree f g (suc d) h = ap₂ (λ x b. x + cond b 1 0) (count_below-agree f g d (λ j l. h j (omega arith))) (h d (omega arith))

pub ones_of_zero : count_ones 0 ≡ 0
unfolding ones ones_in_bits
ones_of_zero = refl

ones_of_one : count_ones 1 ≡ 1
unfolding ones ones_in_bits
ones_of_one = refl

ones-number_of : (f : ℕ → Bool) (m : ℕ) → count_ones (number_of f m) ≡ count_below f m
unfolding number_of
ones-number_of f zero = ones_of_zero
ones-number_of f (suc m) =
    let N : ℕ = number_of f m in
    elim (f m) as (λ t. count_ones (number_of f m + cond t (2 ^ m) 0) ≡ count_below f m + cond t 1 0) [
      | true ↦
          let e : number_of f m + 2 ^ m ≡ 1 * 2 ^ m + N = omega arith in
          ap count_ones e ∙ ones_cat m 1 N (number_of_small f m) ∙ omega (arith, ones_of_one, ones-number_of f m)
      | false ↦ rw add-zero (omega (arith, ones-number_of f m))
    ]

number_of_bits : (w : ℕ) → w < 2 ^ 64 → number_of (λ j. eqb (bit_at w j) 1) 64 ≡ w
number_of_bits w h = same_from_bits_below 64 (number_of (λ j. eqb (bit_at w j) 1) 64) w (number_of_small (λ j. eqb (bit_at w j) 1) 64) h
    (λ i l. bit_at-number_of (λ j. eqb (bit_at w j) 1) 64 i l ∙ bit_back (bit_at w i) (bit_at-lt w i))

ones_by_bits : (w : ℕ) → w < 2 ^ 64 → count_ones w ≡ count_below (λ j. eqb (bit_at w j) 1) 64
ones_by_bits w h = ap count_ones (sym (number_of_bits w h)) ∙ ones-number_of (λ j. eqb (bit_at w j) 1) 64

pub ones_in_more : (a : List ℕ) (k : ℕ) → suc k ≤ length a → ones_in (take (suc k) a) ≡ ones_in (take k a) + count_ones (get_or a k 0)
ones_in_more [] k h = absurd (omega arith)
ones_in_more (x ∷ xs) zero h = omega arith
ones_in_more (x ∷ xs) (suc k) h = omega (arith, ones_in_more xs k (omega arith))

-- fewer words have fewer members
pub ones_in_mono : (k m : ℕ) (a : List ℕ) → k ≤ m → ones_in (take k a) ≤ ones_in (take m a)
ones_in_mono zero m a h = omega arith
ones_in_mono (suc k) zero a h = absurd (omega arith)
ones_in_mono (suc k) (suc m) [] h = omega arith
ones_in_mono (suc k) (suc m) (x ∷ xs) h = omega (arith, ones_in_mono k m xs (omega arith))

-- the members in the first k words
count_words : (a : List ℕ) → ((k : ℕ) → get_or a k 0 < 2 ^ 64) → (k : ℕ) → k ≤ length a
    → count_below (word_bit a) (64 * k) ≡ ones_in (take k a)
count_words a small zero h = refl
count_words a small (suc k) h =
    let e : 64 * suc k ≡ 64 * k + 64 = omega arith in
    ap (count_below (word_bit a)) e ∙ count_below-add (word_bit a) (64 * k) 64
    ∙ ap₂ (λ x y. x + y) (count_words a small k (omega arith))
    (count_below-agree (λ j. word_bit a (64 * k + j)) (λ j. eqb (bit_at (get_or a k 0) j) 1) 64 (λ j l. word_bit_in a k j l)
    ∙ sym (ones_by_bits (get_or a k 0) (small k)))
    ∙ sym (ones_in_more a k h)

-- the words that the width reaches have all members
pub size_reached : {m n : ℕ} {a : List ℕ} {A : Set} → IsWords m a n A → (k : ℕ) → k ≤ m → n ≤ 64 * k → ones_in (take k a) ≡ size A
unfolding set_of
size_reached {m} {n} {a} w k inside reached =
    sym (count_words a w.fits.small k (omega (arith, w.fits.count)))
    ∙ (let e : n + (64 * k - n) ≡ 64 * k = omega arith in
    ap (count_below (word_bit a)) (sym e) ∙ count_below-add (word_bit a) n (64 * k - n)
    ∙ ap (λ x. count_below (word_bit a) n + x) (count_below-none (λ j. word_bit a (n + j)) (64 * k - n)
    (λ j l. w.fits.clear (n + j) (omega arith)))
    ∙ add-zero (count_below (word_bit a) n))
    ∙ sym (size_below (word_bit a) n) ∙ ap size w.view
