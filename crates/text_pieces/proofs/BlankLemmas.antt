-- Blanks at the ends of a line.
use Rattle.std.proofs.Common.{◌≡◌, ◌∙◌, ◌<◌, ◌-◌, ◌++◌, ◌∷◌, ◌&&◌, [], ℕ, suc, Bool, true, false, length, take, get_or, refl, sym, ap, inl}
use Rattle.std.proofs.Common.{inr, arith}
use Rattle.std.proofs.lemmas.Bool.{cases_Bool}
use Rattle.fca_model.specs.Tables.{Text}
use Rattle.text_pieces.specs.Blanks.{is_blank, is_blank_line, without_blanks_after}

blank-last : (line : Text) (b : ℕ) → is_blank b ≡ true → is_blank_line (line ++ b ∷ []) ≡ is_blank_line line
blank-last [] b h = rw h refl
blank-last (x ∷ line) b h = ap (λ rest. is_blank x && rest) (blank-last line b h)

filled-last : (line : Text) (b : ℕ) → is_blank b ≡ false → is_blank_line (line ++ b ∷ []) ≡ false
filled-last [] b h = rw h refl
filled-last (x ∷ line) b h = elim (cases_Bool (is_blank x)) [
  | inl is ↦ rw is (filled-last line b h)
  | inr isnt ↦ rw isnt refl
]

-- a blank at the end is dropped
pub without_blanks_after-blank : (line : Text) (b : ℕ) → is_blank b ≡ true
    → without_blanks_after (line ++ b ∷ []) ≡ without_blanks_after line
without_blanks_after-blank [] b h = rw h refl
without_blanks_after-blank (x ∷ line) b h =
    rw (blank-last line b h, without_blanks_after-blank line b h) refl

-- and where there is none, nothing is
pub without_blanks_after-filled : (line : Text) (b : ℕ) → is_blank b ≡ false → without_blanks_after (line ++ b ∷ []) ≡ line ++ b ∷ []
without_blanks_after-filled [] b h = rw h refl
without_blanks_after-filled (x ∷ line) b h = elim (cases_Bool (is_blank x)) [
  | inl is ↦ rw (is, filled-last line b h, without_blanks_after-filled line b h) refl
  | inr isnt ↦ rw (isnt, without_blanks_after-filled line b h) refl
]

pub last-split : (line : Text) → 0 < length line → take (length line - 1) line ++ get_or line (length line - 1) 0 ∷ [] ≡ line
last-split [] some = absurd (omega arith)
last-split (x ∷ []) some = refl
last-split (x ∷ y ∷ line) some =
    let more : 0 < length (y ∷ line) = omega arith in
    let one : length (x ∷ y ∷ line) - 1 ≡ suc (length (y ∷ line) - 1) = omega arith in
    rw one (ap (λ rest. x ∷ rest) (last-split (y ∷ line) more))

-- a step of the code that drops the blanks at the end one by one
pub without_blanks_after-step : (line : Text) (b : Bool) → 0 < length line → b ≡ is_blank (get_or line (length line - 1) 0) → b ≡ true
    → without_blanks_after (take (length line - 1) line) ≡ without_blanks_after line
without_blanks_after-step line b some e is =
    sym (without_blanks_after-blank (take (length line - 1) line) (get_or line (length line - 1) 0) (sym e ∙ is))
    ∙ ap without_blanks_after (last-split line some)

-- and its end
pub without_blanks_after-end : (line : Text) (b : Bool) → 0 < length line → b ≡ is_blank (get_or line (length line - 1) 0) → b ≡ false
    → line ≡ without_blanks_after line
without_blanks_after-end line b some e is =
    sym (ap without_blanks_after (sym (last-split line some))
    ∙ without_blanks_after-filled (take (length line - 1) line) (get_or line (length line - 1) 0) (sym e ∙ is) ∙ last-split line some)
