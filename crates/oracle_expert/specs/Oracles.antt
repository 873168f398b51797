-- Oracles: experts who answer from a table.
--
-- An oracle answers a question by the first row of its table that refutes it, and confirms if none does. A row that broke an accepted
-- implication is dropped: it is not given again, and the implication is kept as its conflict.
--
-- Of the rows {a} and {b} over a, b both refute {} -> {a, b}. The first is given; once it was dropped the second is; and then the question
-- is confirmed.
use Rattle.std.specs.Prelude.{◌≡◌, ℕ, ◌&&◌, Bool, Option, Some, None, List, [], map, position, slice_index_or, slice_get, slice_set}
use Rattle.std.specs.List.{zip}
use Rattle.std.specs.Option.{is_none}
use Rattle.fca_model.specs.declared.Reply.TheVariants.{Breaks}
use Rattle.fca_model.specs.Sets.{Set}
use Rattle.fca_model.specs.Tables.{NamedContext}
use Rattle.fca_model.specs.Implications.{Rule, refutes}
use Rattle.fca_model.specs.Exploration.{SetReply}
use Rattle.oracle_expert.specs.declared.expert.Answer.{Answer}
use Rattle.oracle_expert.specs.declared.expert.Answer.TheVariants.{Confirm, Row}

-- for each row of a table the place of the rule against which it was dropped, or nothing if it was not dropped
abbrev pub Conflicts : Type 0
Conflicts = List (Option ℕ)

-- no row of the table was dropped
abbrev pub no_conflict : NamedContext → Conflicts
no_conflict D = map (λ _. None) D.context.rows

-- the row refutes q, and was not dropped
abbrev pub is_counterexample : Rule → Set × Option ℕ → Bool
is_counterexample q row = refutes row.0 q && is_none row.1

-- the place of the first row that refutes q and was not dropped
abbrev pub counterexample : NamedContext → Conflicts → Rule → Option ℕ
counterexample D conflicts q = position (is_counterexample q) (zip D.context.rows conflicts)

-- the answer that gives the row at this place under its object's name, or confirms if there is no place
abbrev pub answer_with : NamedContext → Option ℕ → Answer
answer_with D None = Confirm
answer_with D (Some i) = Row (slice_index_or D.objects i []) (slice_index_or D.context.rows i [])

-- the answer to q
abbrev pub answer_of : NamedContext → Conflicts → Rule → Answer
answer_of D conflicts q = answer_with D (counterexample D conflicts q)

-- row i is dropped against the rule at place k, if it was not dropped before
abbrev pub drop_at : Conflicts → ℕ → ℕ → Option (Option ℕ) → Conflicts
drop_at conflicts i k (Some None) = slice_set conflicts i (Some k)
drop_at conflicts i k _ = conflicts

-- the row that was given, if one was, is dropped against the rule at place k
abbrev pub drop_given : Conflicts → Option ℕ → ℕ → Conflicts
drop_given conflicts None k = conflicts
drop_given conflicts (Some i) k = drop_at conflicts i k (slice_get conflicts i)

-- after the reply to an answer that gave this row, or none
abbrev pub conflicts_told : Conflicts → Option ℕ → SetReply → Conflicts
conflicts_told conflicts given (Breaks k i) = drop_given conflicts given k
conflicts_told conflicts given _ = conflicts

-- what an oracle remembers: its table, the rows that were dropped, and the row that its last answer gave, if it gave one
pub record Recall : Type 0 where
  pub table : NamedContext
  pub conflicts : Conflicts
  pub given : Option ℕ

-- nothing was dropped and nothing answered
abbrev pub untold : NamedContext → Recall
untold D = record { table = D; conflicts = no_conflict D; given = None }

-- the oracle answers q
pub record Answers (old : Recall) (q : Rule) (answer : Answer) (new : Recall) : Type 0 where
  pub answer_is : answer ≡ answer_of old.table old.conflicts q
  pub new_is : new ≡ record old { given = counterexample old.table old.conflicts q }

-- the oracle learns the reply to its answer
abbrev pub Learns : Recall → SetReply → Recall → Type 0
Learns old reply new = new ≡ record old { conflicts = conflicts_told old.conflicts old.given reply }
