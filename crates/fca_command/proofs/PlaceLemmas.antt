-- The first place whose element passes a test, as a search from the front finds it.
use Rattle.std.proofs.Common.{◌≡◌, ◌<◌, ◌≤◌, ℕ, List, Bool, true, false, length, get_or, Some, None, refl, arith}
use Rattle.std.specs.Prelude.{position}
use Rattle.std.specs.List.{position_or_len}
use Rattle.std.proofs.lemmas.Bool.{lt-ltb, le-ltb}
use Rattle.std.proofs.lemmas.List.Sums.{position_or_len_is}

pub position-here : {X : Type 0} (p : X → Bool) (xs : List X) (i : ℕ) (d : X) → i < length xs → p (get_or xs i d) ≡ true
    → ((k : ℕ) → k < i → p (get_or xs k d) ≡ false) → position p xs ≡ Some i
position-here p xs i d inside here none =
    let at : position_or_len p xs ≡ i = position_or_len_is p xs i d (omega arith) none (λ h. here) in
    rw (at, lt-ltb i (length xs) inside) refl

pub position-none : {X : Type 0} (p : X → Bool) (xs : List X) (i : ℕ) (d : X) → length xs ≤ i
    → ((k : ℕ) → k < i → p (get_or xs k d) ≡ false) → position p xs ≡ None
position-none p xs i d past none =
    let at : position_or_len p xs ≡ length xs = position_or_len_is p xs (length xs) d (omega arith) (λ k h. none k (omega arith))
    (λ h. absurd (omega arith)) in
    rw (at, le-ltb (length xs) (length xs) (omega arith)) refl
