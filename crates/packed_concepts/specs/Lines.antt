-- The lines of concepts.
use Rattle.std.specs.Prelude.{ℕ, List, [], ◌++◌, length, map, unwrap_or, slice_get, codes, decimal}
use Rattle.std.specs.List.{flat_map, enumerate_from}
use Rattle.fca_model.specs.Sets.{Set}
use Rattle.fca_model.specs.Tables.{Text}
use Rattle.expert_wire.specs.Texts.{comma_list, names_of, ordinal, line_end}

-- the names of attributes and of objects
pub record TableNames : Type 0 where
  pub attributes : List Text
  pub objects : List Text

-- the names of the things at these places; where there is no such thing, nothing
abbrev pub names_at : List Text → List ℕ → List Text
names_at names places = map (λ i. unwrap_or (slice_get names i) []) places

-- the line with that number of the attributes in A and the objects at the places
abbrev pub line_of : TableNames → Text → Set → List ℕ → Text
line_of t number A places =
    number ++ (codes " {" ++ (comma_list (names_of t.attributes A) ++ (codes "} | {" ++ (comma_list (names_at t.objects places) ++ codes "}\n"))))

-- the lines of these concepts, an intent and the places of its objects each, the first of which is at place n
abbrev pub lines_from : TableNames → ℕ → List (Set × List ℕ) → Text
lines_from t n cs = flat_map (λ x. line_of t (ordinal x.0) x.1.0 x.1.1) (enumerate_from n cs)

-- the line that says how many there are
abbrev pub count_line_of : ℕ → Text
count_line_of n = codes "concepts " ++ (decimal n ++ line_end)

-- the lines of all of them, behind that one
abbrev pub lines_text : TableNames → List (Set × List ℕ) → Text
lines_text t cs = count_line_of (length cs) ++ lines_from t 0 cs
