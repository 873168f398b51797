-- Names of a list, each with a comma and a space behind it.
use Rattle.std.specs.Prelude.{◌≡◌, ◌-◌, List, ◌++◌, length, map, take, codes}
use Rattle.fca_model.specs.Tables.{Text}

-- a name with a comma and a space behind it
abbrev pub with_comma : Text → Text
with_comma name = name ++ codes ", "

-- a text without the last two bytes
abbrev pub without_comma : Text → Text
without_comma text = take (length text - 2) text

-- each text is a name with a comma and a space behind it
abbrev pub HaveCommas : List Text → Type 0
HaveCommas texts = texts ≡ map with_comma (map without_comma texts)
