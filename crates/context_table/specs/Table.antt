-- What holds of every table.
use Rattle.std.specs.Prelude.{◌≡◌, ◌≤◌, ℕ, ◌+◌, cond, List, [], ◌∷◌, ◌++◌, length, Option, Some, None, All, bytes_eq}
use Rattle.std.specs.List.{list_any}
use Rattle.fca_model.specs.Tables.{Text, NamedContext}
use Rattle.fca_model.specs.declared.TheConstants.{MAX_ATTRIBUTES, MAX_OBJECTS}

-- the first place of a name that stood before; those in `seen` stand before place i
abbrev pub repeat_from : List Text → ℕ → List Text → Option ℕ
repeat_from seen i [] = None
repeat_from seen i (name ∷ names) = cond (list_any (bytes_eq name) seen) (Some i) (repeat_from (seen ++ name ∷ []) (i + 1) names)

-- the least place whose name also has an earlier place
abbrev pub first_repeat : List Text → Option ℕ
first_repeat names = repeat_from [] 0 names

-- one name for each row and one for each attribute, within the limits; attribute names differ
pub record IsTable (t : NamedContext) : Type 0 where
  pub differing : first_repeat t.attributes ≡ None
  pub each_object : length t.objects ≡ length t.context.rows
  pub each_attribute : length t.attributes ≡ t.context.width
  pub few_objects : length t.objects ≤ MAX_OBJECTS
  pub few_attributes : t.context.width ≤ MAX_ATTRIBUTES
  pub even : All (λ row. length row ≡ t.context.width) t.context.rows

-- a table without its title
abbrev pub untitled_context : NamedContext → NamedContext
untitled_context t = record t { title = None }
