-- What a form says is one answer.
use Rattle.std.proofs.Common.{◌≡◌, ◌≢◌, ◌∙◌, Result, Ok, Err, inl, inr, sym, ap}
use Rattle.text_pieces.specs.Telling.{Tells}

pub one_answer : {X E : Type 0} (memory : E) (form a b : Result X E) → Tells memory a form → Tells memory b form → a ≢ Err memory
    → b ≢ Err memory → a ≡ b
one_answer memory form a b first second some other = sym (says memory form a first some) ∙ says memory form b second other
  where
    says : {X E : Type 0} (memory : E) (form a : Result X E) → Tells memory a form → a ≢ Err memory → form ≡ a
    says memory form (Ok x) is some = is
    says memory form (Err e) (inl refused) some = absurd (some (ap Err refused))
    says memory form (Err e) (inr is) some = is
