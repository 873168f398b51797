-- A field is looked up by its place: the library's word for it and the list's are one.
use Rattle.std.proofs.Common.{◌≡◌, ◌∙◌, ◌<◌, ◌∷◌, [], ℕ, zero, suc, List, Some, None, length, slice_get, refl, sym, arith}
use Rattle.std.specs.Str.{IsUtf8}
use Rattle.csv.specs.Records.{AllText, field_at}
use Rattle.csv.proofs.RecordFacts.{text-of}

pub field_at-slice_get : (fields : List (List ℕ)) (i : ℕ) → field_at fields i ≡ slice_get fields i
unfolding field_at
field_at-slice_get [] i = refl
field_at-slice_get (f ∷ fs) zero = refl
field_at-slice_get (f ∷ fs) (suc i) = field_at-slice_get fs i

pub field_at-within : (fields : List (List ℕ)) (i : ℕ) → i < length fields → None ≡ field_at fields i → ⊥
unfolding field_at
field_at-within [] i within e = omega arith
field_at-within (f ∷ fs) zero within e = cc
field_at-within (f ∷ fs) (suc i) within e = let less : i < length fs = omega arith in field_at-within fs i less e

pub field-text : (fields : List (List ℕ)) (i : ℕ) (field : List ℕ) → AllText fields → Some field ≡ slice_get fields i → IsUtf8 field
field-text fields i field text at = text-of fields i field text (field_at-slice_get fields i ∙ sym at)
