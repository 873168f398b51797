-- Names of a letter and a number. Digits are no line breaks, and there are at most twenty of them, so each text is a name. Numbers with
-- the same digits are equal, so no name stands twice.
use Rattle.std.proofs.Common.{◌≡◌, ℕ, zero, suc, ◌+◌, ◌^◌, ◌%◌, ◌<◌, ◌≤◌, false, ◌∷◌, map, length, drop, None, refl, sym, ap, ◌∙◌, arith}
use Rattle.std.proofs.Common.{decimal, bytes_eq, nat_lt, le-ltb, ne_eqb, ◌==◌}
use Rattle.std.specs.List.{range_with_len, list_any}
use Rattle.std.proofs.lemmas.Bool.{false_from_ne_true, or_from}
use Rattle.std.proofs.lemmas.Bool.Decides.{nat_tests}
use Rattle.std.proofs.lemmas.Fmt.{decimal_by_steps, length-decimal-le, decimal_injective}
use Rattle.std.proofs.lemmas.List.FromFn.{map-range_with_len_more}
use Rattle.std.proofs.lemmas.List.Folds.{list_any-append}
use Rattle.std.proofs.lemmas.Slice.Eq.{bytes_eq-Decides}
use Rattle.fca_model.specs.Names.{name_fault, is_line_break}
use Rattle.fca_model.specs.declared.TheConstants.{MAX_NAME_BYTES}
use Rattle.context_table.specs.Table.{repeat_from, first_repeat}
use Rattle.context_table.specs.Generated.{numbered_names}

unbroken-digit : (d : ℕ) → is_line_break (48 + d) ≡ false
unbroken-digit d = grind (arith, nat_tests)

unbroken-decimal : (n : ℕ) → n < 2 ^ 64 → list_any is_line_break (decimal n) ≡ false
unbroken-decimal n lt =
    decimal_by_steps (λ m digits. list_any is_line_break digits ≡ false)
    (λ m small. or_from _ _ (unbroken-digit m) refl)
    (λ m digits large before. list_any-append is_line_break digits _ ∙ or_from _ _ before (or_from _ _ (unbroken-digit (m % 10)) refl)) n lt

-- a lower-case letter
unbroken-letter : (letter : ℕ) → 97 ≤ letter → is_line_break letter ≡ false
unbroken-letter letter low = grind (arith, nat_tests)

pub name_fault-numbered_name : (letter n : ℕ) → 97 ≤ letter → n < 2 ^ 32 → name_fault (letter ∷ decimal n) ≡ None
unfolding name_fault
name_fault-numbered_name letter n low lt =
    let short = length-decimal-le 20 n (omega arith) (omega arith) (omega arith) in
    let some : (length (letter ∷ decimal n) == 0) ≡ false = ne_eqb _ _ (λ e. omega (arith, e)) in
    let few : nat_lt MAX_NAME_BYTES (length (letter ∷ decimal n)) ≡ false = le-ltb _ _ (omega (arith, short)) in
    let unbroken = or_from _ _ (unbroken-letter letter low) (unbroken-decimal n (omega arith)) in
    rw some (rw few (rw unbroken refl))

apart : (letter a b : ℕ) → b < a → a < 2 ^ 32 → bytes_eq (letter ∷ decimal (a + 1)) (letter ∷ decimal (b + 1)) ≡ false
apart letter a b less lt = false_from_ne_true _ (λ e.
    let same = (bytes_eq-Decides (letter ∷ decimal (a + 1)) (letter ∷ decimal (b + 1))).0 e in
    let equal = decimal_injective (a + 1) (b + 1) (omega arith) (omega arith) (ap (drop 1) same) in
    absurd (omega (arith, equal)))

fresh : (letter b n a : ℕ) → b + n ≤ a → a < 2 ^ 32
    → list_any (bytes_eq (letter ∷ decimal (a + 1))) (map (λ i. letter ∷ decimal (i + 1)) (range_with_len b n)) ≡ false
fresh letter b zero a le lt = refl
fresh letter b (suc n) a le lt = or_from _ _ (apart letter a b (omega arith) lt) (fresh letter (b + 1) n a (omega arith) lt)

once_from : (letter a n : ℕ) → a + n ≤ 2 ^ 32 → repeat_from (map (λ i. letter ∷ decimal (i + 1)) (range_with_len 0 a)) a
    (map (λ i. letter ∷ decimal (i + 1)) (range_with_len a n)) ≡ None
once_from letter a zero le = refl
once_from letter a (suc n) le =
    let new = fresh letter 0 a a (omega arith) (omega arith) in
    let more = map-range_with_len_more (λ i. letter ∷ decimal (i + 1)) 0 a a (omega arith) in
    rw new (rw (sym more) (once_from letter (a + 1) n (omega arith)))

-- no name has an earlier place
pub first_repeat-numbered_names : (letter count : ℕ) → count ≤ 2 ^ 32 → first_repeat (numbered_names letter count) ≡ None
first_repeat-numbered_names letter count le = once_from letter 0 count (omega arith)
