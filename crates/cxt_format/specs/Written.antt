-- The written form of a table.
use Rattle.std.specs.Prelude.{ℕ, List, [], ◌∷◌, ◌++◌, Option, Some, None, length, map, codes}
use Rattle.std.specs.Fmt.{decimal}
use Rattle.fca_model.specs.Tables.{Text, NamedContext}
use Rattle.text_pieces.specs.Lines.{Line, text_of}
use Rattle.text_pieces.specs.Marks.{marks_of}

-- the line of the title, which is empty if there is none
abbrev pub title_line : Option Text → Line
title_line None = []
title_line (Some title) = title

-- the lines before the names
abbrev pub head_lines : NamedContext → List Line
head_lines t = codes "B" ∷ title_line t.title ∷ decimal (length t.objects) ∷ decimal (length t.attributes) ∷ [] ∷ []

-- all lines
abbrev pub cxt_lines : NamedContext → List Line
cxt_lines t = head_lines t ++ t.objects ++ t.attributes ++ map marks_of t.context.rows

-- the bytes of the file
abbrev pub cxt_text : NamedContext → List ℕ
cxt_text t = text_of (cxt_lines t)
