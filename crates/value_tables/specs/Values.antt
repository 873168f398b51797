-- Tables of values: which object has which value of which attribute.
--
-- Here an attribute has values instead of crosses, as size has the values s, m and l. The value of an object is a text. The empty text
-- says that the object has no value of that attribute. (Ganter and Wille, "Formal Concept Analysis", many-valued contexts.)
--
-- With the attributes age and size, tim has the values 21 and s, and ann has 35 and l. So the column of age is 21, 35.
use Rattle.std.specs.Prelude.{ℕ, List, [], map, slice_index_or}
use Rattle.fca_model.specs.Tables.{Text}

-- an object with its values, one for each attribute in their order
pub record ObjectValues : Type 0 where
  pub name : Text
  pub values : List Text

-- the names of the attributes, and the objects
pub record ValueTable : Type 0 where
  pub attributes : List Text
  pub objects : List ObjectValues

-- the object's value of attribute m
abbrev pub value_at : ℕ → ObjectValues → Text
value_at m object = slice_index_or object.values m []

-- each object's value of attribute m
abbrev pub column : ValueTable → ℕ → List Text
column t m = map (value_at m) t.objects

-- an object with no name and no values, in place of one that is missing
abbrev pub no_object : ObjectValues
no_object = record { name = []; values = [] }

-- object g
abbrev pub object_at : ValueTable → ℕ → ObjectValues
object_at t g = slice_index_or t.objects g no_object
