-- Conflicts: the rows that oracles dropped. Each broke a rule, which is an accepted implication or one that was known.
--
-- If the oracle of expert 2 dropped its first row {a}, of the object g, against the first implication {} -> {a, b}, the only line after
-- `# conflicts 1` is `# 2 1 X. g 1 .. XX {} -> {a, b}`.
use Rattle.std.specs.Prelude.{ℕ, ◌+◌, Option, Some, None, List, [], ◌∷◌, ◌++◌, length, unwrap_or, slice_get, slice_index_or, codes}
use Rattle.std.specs.List.{flat_map, enumerate_from}
use Rattle.fca_model.specs.Sets.{Set}
use Rattle.fca_model.specs.Tables.{Text, NamedContext}
use Rattle.fca_model.specs.Implications.{Rule, rule}
use Rattle.expert_wire.specs.Texts.{ordinal, pattern}
use Rattle.expert_wire.specs.Replies.{numbered_rule}
use Rattle.oracle_expert.specs.Oracles.{Conflicts}
use Rattle.report_texts.specs.Reports.{count_line}
use Rattle.basis_report.specs.Comments.{comment_line}

-- a dropped row: the place of its oracle, its place in the table of the oracle, the row and the name of its object, and the place of the
-- rule that it broke
pub record DroppedRow : Type 0 where
  pub oracle_place : ℕ
  pub place : ℕ
  pub row : Set
  pub name : Text
  pub broken : ℕ

-- the row at a place of the table, if it was dropped
abbrev pub dropped_rows_at : ℕ → NamedContext → ℕ → Option ℕ → List DroppedRow
dropped_rows_at e D place None = []
dropped_rows_at e D place (Some k) =
    record {
      oracle_place = e;
      place = place;
      row = unwrap_or (slice_get D.context.rows place) [];
      name = unwrap_or (slice_get D.objects place) [];
      broken = k;
    } ∷ []

-- the dropped rows of a table, by their places
abbrev pub dropped_rows_of : ℕ → NamedContext → Conflicts → List DroppedRow
dropped_rows_of e D conflicts = flat_map (λ x. dropped_rows_at e D x.0 x.1) (enumerate_from 0 conflicts)

-- the dropped rows of all oracles, each given by its table and its conflicts. The first oracle has place e
abbrev pub dropped_rows_from : ℕ → List (NamedContext × Conflicts) → List DroppedRow
dropped_rows_from e [] = []
dropped_rows_from e (o ∷ os) = dropped_rows_of e o.0 o.1 ++ dropped_rows_from (e + 1) os

-- `E R PATTERN NAME I ` and the full text of the implication
abbrev pub conflict_words : List Text → List Rule → DroppedRow → Text
conflict_words attributes rules d =
    ordinal d.oracle_place ++ (codes " " ++ (ordinal d.place ++ (codes " " ++ (pattern d.row ++ (codes " " ++ (d.name ++ (codes " "
    ++ numbered_rule attributes d.broken (slice_index_or rules d.broken (rule [] [])))))))))

-- the line of a dropped row
abbrev pub conflict_line : List Text → List Rule → DroppedRow → Text
conflict_line attributes rules d = comment_line (conflict_words attributes rules d)

-- the number of dropped rows, and a line for each
abbrev pub conflicts_section : List Text → List Rule → List DroppedRow → Text
conflicts_section attributes rules ds = count_line (codes "# conflicts ") (length ds) ++ flat_map (conflict_line attributes rules) ds

-- the dropped rows of the oracles of all experts, by expert and then by place
unfoldable pub conflicts_text : List Text → List Rule → List (NamedContext × Conflicts) → Text
conflicts_text attributes rules oracles = conflicts_section attributes rules (dropped_rows_from 0 oracles)
