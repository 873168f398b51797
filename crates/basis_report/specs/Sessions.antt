-- The endings of the sessions of an exploration: a line for each expert, in order.
--
-- If the first session ended with `quit` and the second at the end of its input, the lines after `# sessions 2` are `# 1 quit` and
-- `# 2 end of input`.
use Rattle.std.specs.Prelude.{ℕ, List, ◌++◌, length, codes}
use Rattle.std.specs.List.{flat_map, enumerate_from}
use Rattle.fca_model.specs.Tables.{Text}
use Rattle.expert_wire.specs.Texts.{ordinal}
use Rattle.report_texts.specs.Reports.{count_line}
use Rattle.basis_report.specs.Comments.{comment_line}

-- the number of the expert at a place, and the words for its ending
abbrev pub session_line : ℕ → Text → Text
session_line place words = comment_line (ordinal place ++ (codes " " ++ words))

-- the endings of the sessions of all experts, in words
abbrev pub sessions_text : List Text → Text
sessions_text endings = count_line (codes "# sessions ") (length endings) ++ flat_map (λ x. session_line x.0 x.1) (enumerate_from 0 endings)
