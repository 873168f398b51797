-- What the row of an object says of its value.
--
-- With the interordinal scale of 21 and 30, the marks XXX. of 21 say that the number is at least 21 and at most 21. The marks ..XX say
-- that it is at least 30.
use Rattle.std.specs.Prelude.{◌≡◌, ◌↔◌, ℕ, ◌+◌, Bool, false, cond, List, [], ◌∷◌, Option, Some, None, IfSome, ℤ, ◌<ℤ◌, ◌≤ℤ◌, int_le, fold}
use Rattle.std.specs.Prelude.{length, take, drop, slice_get, slice_index_or, ⊤}
use Rattle.fca_model.specs.Sets.{Set}
use Rattle.fca_model.specs.Tables.{Text}
use Rattle.value_tables.specs.Numbers.{number_of}
use Rattle.context_scaling.specs.Scaling.{PlanRecord, made_names}
use Rattle.context_scaling.specs.declared.scales.Kind.{Kind}
use Rattle.context_scaling.specs.declared.scales.Kind.TheVariants as kind
use Rattle.context_scaling.specs.declared.scales.Relation.{Relation}
use Rattle.context_scaling.specs.declared.scales.Relation.TheVariants as relation
use Rattle.context_scaling.specs.declared.scales.ScaleValue.{ScaleValue}
use Rattle.context_scaling.specs.declared.scales.ScaleValue.TheVariants as value
use Rattle.context_scaling.specs.declared.back.Back.{Back}
use Rattle.context_scaling.specs.declared.back.Back.TheVariants as back

-- ---- nominal scales

-- the places of the members, counted from i on
abbrev pub places_from : ℕ → Set → List ℕ
places_from i [] = []
places_from i (mark ∷ marks) = cond mark (i ∷ places_from (i + 1) marks) (places_from (i + 1) marks)

-- what no place, one place, or several places say
abbrev pub single_place : List ℕ → Back
single_place [] = back.Nothing
single_place (p ∷ []) = back.Value p
single_place (p ∷ q ∷ places) = back.Several

-- ---- scales of numbers

-- of two bounds that a number is at most, the lesser is the narrower; of two that it is at least, the greater
abbrev pub is_narrower : Relation → ℤ → ℤ → Bool
is_narrower relation.Equal a b = false
is_narrower relation.AtMost a b = int_le a b
is_narrower relation.AtLeast a b = int_le b a

abbrev pub narrower_bound : Relation → Option ℤ → ℤ → Option ℤ
narrower_bound r None v = Some v
narrower_bound r (Some n) v = Some (cond (is_narrower r n v) n v)

-- a scale value that is a number is one more bound; a text is none
abbrev pub narrower_bound_of : Relation → Option ℤ → ScaleValue → Option ℤ
narrower_bound_of r best (value.Text v) = best
narrower_bound_of r best (value.Number v) = narrower_bound r best v

-- the scale values whose place is a member
abbrev pub marked_values : Set → List ScaleValue → List ScaleValue
marked_values marks [] = []
marked_values [] (v ∷ values) = []
marked_values (mark ∷ marks) (v ∷ values) = cond mark (v ∷ marked_values marks values) (marked_values marks values)

-- the narrowest of the bounds that are marked
abbrev pub narrowest_bound : Relation → Set → List ScaleValue → Option ℤ
narrowest_bound r marks values = fold (narrower_bound_of r) None (marked_values marks values)

abbrev pub back_between : Option ℤ → Option ℤ → Back
back_between None None = back.Nothing
back_between None (Some high) = back.Between None (Some high)
back_between (Some low) high = back.Between (Some low) high

-- ---- records of a plan

-- what the marks of a scale say, which stand first in the marks
abbrev pub back_by : Kind → List ScaleValue → Set → Back
back_by kind.Nominal values marks = single_place (places_from 0 (take (length values) marks))
back_by kind.Ordinal values marks = back_between None (narrowest_bound relation.AtMost marks values)
back_by kind.Interordinal values marks = back_between (narrowest_bound relation.AtLeast (drop (length values) marks) values)
    (narrowest_bound relation.AtMost marks values)

-- a record of a plan that makes nothing, in place of one that is missing
abbrev pub no_plan_record : PlanRecord
no_plan_record = record { kind = kind.Nominal; attribute = []; place = 0; values = [] }

-- record k
abbrev pub plan_record_at : List PlanRecord → ℕ → PlanRecord
plan_record_at plan k = slice_index_or plan k no_plan_record

-- the place at which the attributes of record k begin
abbrev pub begin_of : List PlanRecord → ℕ → ℕ
begin_of plan k = length (made_names (take k plan))

-- what the row says by record k of the plan
abbrev pub back_at : List PlanRecord → ℕ → Set → Back
back_at plan k row = back_by (plan_record_at plan k).kind (plan_record_at plan k).values (drop (begin_of plan k) row)

-- ---- the value comes back

-- no number of the scale lies strictly between a and b
abbrev pub NoneBetween : List ScaleValue → ℤ → ℤ → Type 0
NoneBetween values a b = (i : ℕ) (v : ℤ) → slice_get values i ≡ Some (value.Number v) → a <ℤ v → v <ℤ b → ⊥

-- the bounds hold of the number, and the scale has no narrower ones
pub record AreBounds (values : List ScaleValue) (n : ℤ) (low high : Option ℤ) : Type 0 where
  pub above_low : IfSome low (λ v. (v ≤ℤ n) × NoneBetween values v n)
  pub below_high : IfSome high (λ v. (n ≤ℤ v) × NoneBetween values n v)

-- if the row gives bounds, they are those of the number
abbrev pub TellsBounds : List ScaleValue → ℤ → Back → Type 0
TellsBounds values n back.Nothing = ⊤
TellsBounds values n back.Several = ⊥
TellsBounds values n (back.Value p) = ⊥
TellsBounds values n (back.Between low high) = AreBounds values n low high

-- what a row gives back of its value: with a nominal scale the scale value that it is, with the others the narrowest bounds around it,
-- and nothing if there is no value
abbrev pub GivesBack : Kind → List ScaleValue → Text → Back → Type 0
GivesBack kind values [] told = told ≡ back.Nothing
GivesBack kind.Nominal values (byte ∷ text) told = (p : ℕ) → (told ≡ back.Value p) ↔ (slice_get values p ≡ Some (value.Text (byte ∷ text)))
GivesBack kind.Ordinal values (byte ∷ text) told = (n : ℤ) → number_of (byte ∷ text) ≡ Some n → TellsBounds values n told
GivesBack kind.Interordinal values (byte ∷ text) told = (n : ℤ) → number_of (byte ∷ text) ≡ Some n → TellsBounds values n told
