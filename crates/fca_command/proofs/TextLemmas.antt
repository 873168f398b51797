-- Whether bytes are text: what `from_utf8` tells, as a test.
use Rattle.std.proofs.Common.{◌≡◌, ℕ, List, Result, Ok, Err}
use Rattle.std.proofs.lemmas.Bool.{cases_Bool}
use Rattle.std.proofs.Common.{inl, inr, sym}
use Rattle.std.proofs.lemmas.Str.{is_utf8-from_IsUtf8, IsUtf8-from_is_utf8}
use Rattle.std.specs.Borrow.{Bor}
use Rattle.std.specs.Prelude.{MatchResult, IsUtf8, is_ok}
use Rattle.std.specs.Str.{is_utf8}

pub is_ok-from_utf8 : {E : Type 0} (Q : E → Type 0) (bytes : List ℕ) (r : Result (Bor (List ℕ)) E)
    → MatchResult r (λ s. (s.now ≡ bytes) × IsUtf8 bytes) (λ e. ¬ (IsUtf8 bytes) × Q e) → is_ok r ≡ is_utf8 bytes
is_ok-from_utf8 Q bytes (Ok s) h = sym (is_utf8-from_IsUtf8 bytes h.1)
is_ok-from_utf8 Q bytes (Err e) h = elim (cases_Bool (is_utf8 bytes)) [
  | inl text ↦ absurd (h.0 (IsUtf8-from_is_utf8 bytes text))
  | inr other ↦ sym other
]
