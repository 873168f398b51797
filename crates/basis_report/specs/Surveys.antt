-- What is counted of a table and of an exploration of it, one number a line.
--
-- The table of the objects XX and .X has two objects, two attributes and three crosses.
use Rattle.std.specs.Prelude.{ℕ, ◌++◌, length, codes, sum_by}
use Rattle.fca_model.specs.Sets.{size}
use Rattle.fca_model.specs.Context.{Context}
use Rattle.fca_model.specs.Tables.{Text, NamedContext}
use Rattle.report_texts.specs.Reports.{count_line}

-- the number of crosses, which are the pairs of an object and an attribute that it has (Ganter and Wille, the incidence of a context)
abbrev pub crosses : Context → ℕ
crosses K = sum_by size K.rows

-- six numbers, each after the word for what it counts
abbrev pub survey_lines : ℕ → ℕ → ℕ → ℕ → ℕ → ℕ → Text
survey_lines objects attributes crosses concepts basis accepted =
    count_line (codes "objects ") objects
    ++ (count_line (codes "attributes ") attributes
    ++ (count_line (codes "crosses ") crosses
    ++ (count_line (codes "concepts ") concepts
    ++ (count_line (codes "basis ") basis
    ++ count_line (codes "explored ") accepted))))

-- the numbers of objects, attributes and crosses of the table, of its concepts, of the members of its basis, and of the implications that
-- an exploration of it accepted
abbrev pub survey_text : NamedContext → ℕ → ℕ → ℕ → Text
survey_text t concepts basis accepted =
    survey_lines (length t.context.rows) t.context.width (crosses t.context) concepts basis accepted
