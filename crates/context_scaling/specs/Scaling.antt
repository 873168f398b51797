-- Conceptual scaling: from a table of values to a context.
--
-- A scale for an attribute is a context whose objects are the attribute's values. In the nominal scale of the values v1, v2 and so on, a
-- value has the attribute "= v" if it is v. In the ordinal scale of the numbers v1, v2 and so on, a number has "<= v" if it is at most v.
-- The interordinal scale also has ">= v", which a number has if it is at least v. In plain scaling the scaled context has the attribute
-- (m, n) for each attribute n of the scale of m. An object has it if the scale gives n to the object's value of m. An object without a
-- value of m has none of them. (Ganter and Wille, "Formal Concept Analysis", many-valued contexts, conceptual scaling, elementary scales.)
--
-- With the age 21 for tim and 35 for ann, the interordinal scale of 21 and 30 makes the attributes age <= 21, age <= 30, age >= 21 and
-- age >= 30, and the rows XXX. of tim and ..XX of ann.
use Rattle.std.specs.Prelude.{◌≡◌, ◌≤◌, ℕ, ◌==◌, ◌||◌, ◌&&◌, not, Bool, true, false, List, ◌++◌, Option, Some, None, ℤ, int_le}
use Rattle.std.specs.Prelude.{All, codes, map, flat_map, length, slice_get, is_some, bytes_eq}
use Rattle.std.specs.Fmt.{signed_decimal}
use Rattle.fca_model.specs.Sets.{Set}
use Rattle.fca_model.specs.Tables.{Text, NamedContext}
use Rattle.fca_model.specs.Names.{name_fault}
use Rattle.fca_model.specs.declared.TheConstants.{MAX_ATTRIBUTES}
use Rattle.context_table.specs.Table.{first_repeat}
use Rattle.value_tables.specs.Numbers.{number_of}
use Rattle.value_tables.specs.Values.{ObjectValues, ValueTable, value_at, column}
use Rattle.context_scaling.specs.declared.scales.Kind.{Kind}
use Rattle.context_scaling.specs.declared.scales.Kind.TheVariants as kind
use Rattle.context_scaling.specs.declared.scales.Relation.{Relation}
use Rattle.context_scaling.specs.declared.scales.Relation.TheVariants as relation
use Rattle.context_scaling.specs.declared.scales.ScaleValue.{ScaleValue}
use Rattle.context_scaling.specs.declared.scales.ScaleValue.TheVariants as value

-- an attribute, by its name and place, with the scale of that kind and these values
pub record PlanRecord : Type 0 where
  pub kind : Kind
  pub attribute : Text
  pub place : ℕ
  pub values : List ScaleValue

-- ---- scales

abbrev pub some_and : (ℤ → Bool) → Option ℤ → Bool
some_and test None = false
some_and test (Some n) = test n

-- the text is a value, and stands in this relation to the scale value
abbrev pub stands : Text → Relation → ScaleValue → Bool
stands text relation.Equal (value.Text v) = not (length text == 0) && bytes_eq text v
stands text relation.Equal (value.Number v) = false
stands text relation.AtMost (value.Text v) = false
stands text relation.AtMost (value.Number v) = some_and (λ n. int_le n v) (number_of text)
stands text relation.AtLeast (value.Text v) = false
stands text relation.AtLeast (value.Number v) = some_and (λ n. int_le v n) (number_of text)

-- what each relation of this kind of scale gives, one after the other
abbrev pub each_relation : {X : Type 0} → Kind → (Relation → List X) → List X
each_relation kind.Nominal give = give relation.Equal
each_relation kind.Ordinal give = give relation.AtMost
each_relation kind.Interordinal give = give relation.AtMost ++ give relation.AtLeast

-- which attributes of the scale the text has
abbrev pub scale_row : PlanRecord → Text → Set
scale_row s text = each_relation s.kind (λ r. map (stands text r) s.values)

-- ---- names

abbrev pub sign : Relation → Text
sign relation.Equal = codes " = "
sign relation.AtMost = codes " <= "
sign relation.AtLeast = codes " >= "

abbrev pub value_text : ScaleValue → Text
value_text (value.Text v) = v
value_text (value.Number v) = signed_decimal v

-- as in "age <= 30"
abbrev pub made_name : Text → Relation → ScaleValue → Text
made_name attribute relation v = attribute ++ sign relation ++ value_text v

-- the names of the attributes that are made from one attribute
abbrev pub names_of : PlanRecord → List Text
names_of s = each_relation s.kind (λ r. map (made_name s.attribute r) s.values)

-- the names of the attributes that a plan makes, in its order
abbrev pub made_names : List PlanRecord → List Text
made_names plan = flat_map names_of plan

-- ---- the scaled table

-- which attributes that the plan makes the object has
abbrev pub object_row : List PlanRecord → ObjectValues → Set
object_row plan object = flat_map (λ s. scale_row s (value_at s.place object)) plan

-- the scaled table: it has no title, and the attributes that the plan makes
abbrev pub scaled : ValueTable → List PlanRecord → NamedContext
scaled t plan = record {
  title = None;
  objects = map (λ object. object.name) t.objects;
  attributes = made_names plan;
  context = record { width = length (made_names plan); rows = map (object_row plan) t.objects };
}

-- ---- plans that fit a table

-- the text is a value of a scale of this kind, or no value
abbrev pub is_scalable : Kind → Text → Bool
is_scalable kind.Nominal text = true
is_scalable kind.Ordinal text = (length text == 0) || is_some (number_of text)
is_scalable kind.Interordinal text = (length text == 0) || is_some (number_of text)

-- a scaling fits behind a plan that makes the names seen
pub record FitsBehind (seen : List Text) (t : ValueTable) (s : PlanRecord) : Type 0 where
  pub places : slice_get t.attributes s.place ≡ Some s.attribute
  pub numbers : All (λ text. is_scalable s.kind text ≡ true) (column t s.place)
  pub named : All (λ name. name_fault name ≡ None) (names_of s)
  pub differing : first_repeat seen ≡ None → first_repeat (seen ++ names_of s) ≡ None
  pub few : length (seen ++ names_of s) ≤ MAX_ATTRIBUTES

-- each attribute of the plan has its name at its place in the table, and only numbers there if its scale compares numbers; the names of
-- the attributes that are made are names, differ, and are not too many
pub record Fits (plan : List PlanRecord) (t : ValueTable) : Type 0 where
  pub places : All (λ s. slice_get t.attributes s.place ≡ Some s.attribute) plan
  pub numbers : All (λ s. All (λ text. is_scalable s.kind text ≡ true) (column t s.place)) plan
  pub named : All (λ name. name_fault name ≡ None) (made_names plan)
  pub differing : first_repeat (made_names plan) ≡ None
  pub few : length (made_names plan) ≤ MAX_ATTRIBUTES
