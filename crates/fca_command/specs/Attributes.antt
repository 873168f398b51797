-- The attributes that a word names. The word has names separated by commas; blanks at the ends of a name do not count.
--
-- Of the attributes a, b, c the word ` a ,c` names the first and the third, a blank word names none, and `a,,c` nothing at all,
-- since no attribute has the empty name.
use Rattle.std.specs.Prelude.{ℕ, Bool, false, ◌==◌, cond, Option, Some, None, List, [], ◌∷◌, map, length, replicate, position, slice_set}
use Rattle.std.specs.Prelude.{option_and_then, bytes_eq, true}
use Rattle.std.specs.List.{slice_split}
use Rattle.fca_model.specs.Sets.{Set}
use Rattle.fca_model.specs.Tables.{Text}
use Rattle.text_pieces.specs.Blanks.{is_blank_line, trim}

abbrev pub is_comma : ℕ → Bool
is_comma byte = byte == 44

-- the parts of a text, if there is one
abbrev pub later_parts : Option Text → List Text
later_parts None = []
later_parts (Some text) = slice_split is_comma text

-- the names that a word lists
abbrev pub items : Text → List Text
items word = map trim (slice_split is_comma word)

-- the set with the attribute of each name added, or nothing if some name is no attribute's
abbrev pub with_named : List Text → Set → List Text → Option Set
with_named attributes said [] = Some said
with_named attributes said (name ∷ names) =
    option_and_then (λ place. with_named attributes (slice_set said place true) names) (position (bytes_eq name) attributes)

-- the set of attributes that a word names
abbrev pub attribute_set : List Text → Text → Option Set
attribute_set attributes word =
    cond (is_blank_line word) (Some (replicate (length attributes) false))
    (with_named attributes (replicate (length attributes) false) (items word))
