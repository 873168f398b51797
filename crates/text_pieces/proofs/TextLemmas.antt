-- Texts of bytes below 128, and bytes that a kind of byte excludes.
use Rattle.std.proofs.Common.{◌≡◌, ◌<◌, ℕ, zero, suc, Bool, true, false, ◌∷◌, [], refl, IsUtf8, slice_index, arith}
use Rattle.std.specs.List.{list_any, list_all}
use Rattle.std.proofs.lemmas.Bool.{and_parts, or_from}
use Rattle.std.proofs.lemmas.Str.{IsUtf8-append, IsUtf8-from_ascii}
use Rattle.fca_model.specs.Tables.{Text}

ascii-one : (b : ℕ) → b < 128 → (i : ℕ) → slice_index (b ∷ []) i < 128
ascii-one b h zero = h
ascii-one b h (suc i) = omega arith

pub IsUtf8-one : (b : ℕ) → b < 128 → IsUtf8 (b ∷ [])
IsUtf8-one b h = IsUtf8-from_ascii (b ∷ []) (ascii-one b h)

pub IsUtf8-cons : (b : ℕ) (bytes : Text) → b < 128 → IsUtf8 bytes → IsUtf8 (b ∷ bytes)
IsUtf8-cons b bytes small text = IsUtf8-append (b ∷ []) bytes (IsUtf8-one b small) text

-- where each byte is of a kind, none is of another
pub list_any-excluded : (p q : ℕ → Bool) (xs : Text) → ((x : ℕ) → p x ≡ true → q x ≡ false) → list_all p xs ≡ true → list_any q xs ≡ false
list_any-excluded p q [] f h = refl
list_any-excluded p q (x ∷ xs) f h = let parts = and_parts (p x) (list_all p xs) h in
    or_from (q x) (list_any q xs) (f x parts.0) (list_any-excluded p q xs f parts.1)
