-- The first part of a text ends at its first comma, and where there is none the text is its only part.
use Rattle.std.proofs.Common.{◌≡◌, ◌∷◌, [], ◌+◌, ℕ, Bool, true, false, cond, length, take, drop, Some, None, refl, subst, arith}
use Rattle.std.specs.Prelude.{nat_lt, position}
use Rattle.std.specs.List.{slice_split, position_or_len, All}
use Rattle.std.proofs.lemmas.Bool.{ltb-true, ltb-false}
use Rattle.std.proofs.lemmas.List.Splits.{slice_split_first, slice_split_none}
use Rattle.std.proofs.lemmas.List.Sums.{fails_before_first}
use Rattle.fca_model.specs.Tables.{Text}
use Rattle.fca_command.specs.Attributes.{is_comma}

parts-by : (text : Text) (at : ℕ) (b : Bool) → nat_lt (position_or_len is_comma text) (length text) ≡ b
    → cond b (Some (position_or_len is_comma text)) None ≡ Some at
    → slice_split is_comma text ≡ take at text ∷ slice_split is_comma (drop (at + 1) text)
parts-by text at true h e =
    let same : position_or_len is_comma text ≡ at = cc in
    let P : ℕ → Type 0 = λ n. slice_split is_comma text ≡ take n text ∷ slice_split is_comma (drop (n + 1) text) in
    subst P same (slice_split_first is_comma text 0 (ltb-true _ _ h))
parts-by text at false h e = cc

pub slice_split-some : (text : Text) (at : ℕ) → position is_comma text ≡ Some at
    → slice_split is_comma text ≡ take at text ∷ slice_split is_comma (drop (at + 1) text)
slice_split-some text at e = parts-by text at (nat_lt (position_or_len is_comma text) (length text)) refl e

part-by : (text : Text) (b : Bool) → nat_lt (position_or_len is_comma text) (length text) ≡ b
    → cond b (Some (position_or_len is_comma text)) None ≡ None → slice_split is_comma text ≡ text ∷ []
part-by text true h e = cc
part-by text false h e =
    let none : All (λ x. is_comma x ≡ false) text =
    λ k d below. fails_before_first is_comma text k d (let far = ltb-false _ _ h in omega arith) in
    slice_split_none is_comma text none

pub slice_split-none : (text : Text) → position is_comma text ≡ None → slice_split is_comma text ≡ text ∷ []
slice_split-none text e = part-by text (nat_lt (position_or_len is_comma text) (length text)) refl e
