-- Sets and implications as texts, by the names of the attributes.
use Rattle.std.specs.Prelude.{ℕ, ◌+◌, cond, List, [], ◌∷◌, ◌++◌, codes, decimal}
use Rattle.fca_model.specs.Sets.{Set}
use Rattle.fca_model.specs.Tables.{Text}
use Rattle.fca_model.specs.Implications.{Rule}
use Rattle.attr_bits.specs.Difference.{minus}
use Rattle.text_pieces.specs.Marks.{marks_of}

-- the end of each line
abbrev pub line_end : Text
line_end = codes "\n"

-- the number of a place. Places begin at 0, and numbers in texts at 1
abbrev pub ordinal : ℕ → Text
ordinal place = decimal (place + 1)

-- ---- sets

-- one mark for each attribute, or a dash if there are no attributes
abbrev pub pattern : Set → Text
pattern [] = codes "-"
pattern (a ∷ A) = marks_of (a ∷ A)

-- the names of the members, in the order of the attributes
abbrev pub names_of : List Text → Set → List Text
names_of [] A = []
names_of (name ∷ names) [] = []
names_of (name ∷ names) (a ∷ A) = cond a (name ∷ names_of names A) (names_of names A)

-- each text after a comma and a space
abbrev pub comma_tail : List Text → Text
comma_tail [] = []
comma_tail (x ∷ xs) = codes ", " ++ (x ++ comma_tail xs)

-- the texts, separated by a comma and a space
abbrev pub comma_list : List Text → Text
comma_list [] = []
comma_list (x ∷ xs) = x ++ comma_tail xs

-- a list of names in braces
abbrev pub names_in_braces : List Text → Text
names_in_braces names = codes "{" ++ (comma_list names ++ codes "}")

-- the names of the members of a set, in braces
abbrev pub braces_text : List Text → Set → Text
braces_text attributes A = names_in_braces (names_of attributes A)

-- ---- implications

-- `{a, b} -> {c}`: only what the premise lacks stands after the arrow
abbrev pub arrow_text : List Text → Rule → Text
arrow_text attributes i = braces_text attributes i.premise ++ (codes " -> " ++ braces_text attributes (minus i.conclusion i.premise))

-- the patterns of both sets, and then the arrow text
abbrev pub full_text : List Text → Rule → Text
full_text attributes i = pattern i.premise ++ (codes " " ++ (pattern i.conclusion ++ (codes " " ++ arrow_text attributes i)))
