-- Runs of experts: what the entries of one expert in a history have to be.
--
-- An expert draws, answers the question that it was asked, and draws again, until a draw is answered Done. Where its answer breaks a rule
-- it still holds the question, and answers it once more.
use Rattle.std.specs.Prelude.{◌≡◌, ℕ, Bool, true, false, ◌⊎◌, Option, Some, None, option_and_then, List, [], ◌∷◌}
use Rattle.fca_model.specs.declared.Event.TheVariants.{Draw}
use Rattle.fca_model.specs.declared.Reply.TheVariants.{Ask, Done, Breaks}
use Rattle.fca_model.specs.Tables.{NamedContext}
use Rattle.fca_model.specs.Implications.{Rule}
use Rattle.fca_model.specs.Exploration.{SetEvent, SetReply, SetEntry}
use Rattle.oracle_expert.specs.declared.expert.Answer.{Answer}
use Rattle.oracle_expert.specs.Answers.{event_of}
use Rattle.oracle_expert.specs.Oracles.{Conflicts, no_conflict, counterexample, answer_of, conflicts_told}

-- the question that is due after a reply, if this one was due before. If none is, a draw is due
abbrev pub question_after : Option Rule → SetReply → Option Rule
question_after due (Ask q) = Some q
question_after due (Breaks k i) = due
question_after due _ = None

-- after Done nothing comes
abbrev pub StopsAtDone : SetReply → List SetEntry → Type 0
StopsAtDone Done rest = rest ≡ []
StopsAtDone _ rest = Unit {0}

abbrev pub is_done : SetReply → Bool
is_done Done = true
is_done _ = false

-- the last reply is Done
abbrev pub ends_done : List SetEntry → Bool
ends_done [] = false
ends_done (entry ∷ []) = is_done entry.reply
ends_done (entry ∷ next ∷ rest) = ends_done (next ∷ rest)

-- ---- any expert, who remembers an M: the two relations say how it answers, and what it learns from the reply

module _ {M : Type 0} (Answering : M → Rule → Answer → M → Type 0) (Learning : M → SetReply → M → Type 0) (e : ℕ) where
  -- the expert answers q, and learns the reply
  pub record IsAnswered (q : Rule) (old : M) (entry : SetEntry) (new : M) : Type 0 where
    pub answer : Answer
    pub between : M
    pub event : entry.event ≡ event_of e answer
    pub answers : Answering old q answer between
    pub learns : Learning between entry.reply new

  -- the entry of what is due: a draw, or the answer to the question
  abbrev pub IsDueEntry : Option Rule → M → SetEntry → M → Type 0
  IsDueEntry None old entry new = (entry.event ≡ Draw e) × (new ≡ old)
  IsDueEntry (Some q) old entry new = IsAnswered q old entry new

  -- no entry more: if a question is due, the expert may have answered it, and the answer came to no entry
  abbrev pub Stops : Option Rule → M → M → Type 0
  Stops None old new = new ≡ old
  Stops (Some q) old new = (new ≡ old) ⊎ ((answer : Answer) × Answering old q answer new)

  -- no entry more: a question is due, and the expert gave no answer to it
  abbrev pub IsUnanswered : Option Rule → M → M → Type 0
  IsUnanswered None old new = ⊥
  IsUnanswered (Some q) old new = new ≡ old

  -- the run from a moment at which this question is due, which stops in this way
  abbrev pub RunsTo : (Option Rule → M → M → Type 0) → Option Rule → M → List SetEntry → M → Type 0
  RunsTo Stopping due old [] new = Stopping due old new
  RunsTo Stopping due old (entry ∷ rest) new = (next : M) × IsDueEntry due old entry next × StopsAtDone entry.reply rest
      × RunsTo Stopping (question_after due entry.reply) next rest new

  abbrev pub RunsFrom : Option Rule → M → List SetEntry → M → Type 0
  RunsFrom due old entries new = RunsTo Stops due old entries new

  -- the entries are a run of expert e, who remembers `old` before it and `new` after it; it may stop at any moment
  abbrev pub SeatRun : M → List SetEntry → M → Type 0
  SeatRun old entries new = RunsFrom None old entries new

  -- a run that stops at a question to which the expert gave no answer
  abbrev pub UnansweredRun : M → List SetEntry → M → Type 0
  UnansweredRun old entries new = RunsTo IsUnanswered None old entries new

-- ---- an oracle

-- how far the run of an oracle has come: the question that is due, if one is, and the rows that were dropped
pub record OracleMoment : Type 0 where
  pub due : Option Rule
  pub conflicts : Conflicts

-- a draw is due, and nothing was dropped
abbrev pub start : NamedContext → OracleMoment
start D = record { due = None; conflicts = no_conflict D }

-- the event of expert e, if this question is due, or a draw
abbrev pub event_due : NamedContext → ℕ → Conflicts → Option Rule → SetEvent
event_due D e conflicts None = Draw e
event_due D e conflicts (Some q) = event_of e (answer_of D conflicts q)

-- the row of the table that the answer due gives, if it gives one
abbrev pub row_due : NamedContext → OracleMoment → Option ℕ
row_due D m = option_and_then (counterexample D m.conflicts) m.due

-- after the reply to what was due
abbrev pub moment_after : NamedContext → OracleMoment → SetReply → OracleMoment
moment_after D m reply = record { due = question_after m.due reply; conflicts = conflicts_told m.conflicts (row_due D m) reply }

-- after all replies
abbrev pub moment_at : NamedContext → OracleMoment → List SetEntry → OracleMoment
moment_at D m [] = m
moment_at D m (entry ∷ rest) = moment_at D (moment_after D m entry.reply) rest

-- each event is what is due for an oracle of D with number e, from this moment on, and nothing comes after Done
abbrev pub OracleRunsFrom : NamedContext → ℕ → OracleMoment → List SetEntry → Type 0
OracleRunsFrom D e m [] = Unit {0}
OracleRunsFrom D e m (entry ∷ rest) = (entry.event ≡ event_due D e m.conflicts m.due) × StopsAtDone entry.reply rest
    × OracleRunsFrom D e (moment_after D m entry.reply) rest

-- the entries are those of an oracle of D with number e, from its first draw on; they may stop at any moment
abbrev pub IsOracleFront : NamedContext → ℕ → List SetEntry → Type 0
IsOracleFront D e entries = OracleRunsFrom D e (start D) entries

-- the entries are a whole run of an oracle of D with number e: it goes on until it is answered Done
abbrev pub IsOracleRun : NamedContext → ℕ → List SetEntry → Type 0
IsOracleRun D e entries = IsOracleFront D e entries × (ends_done entries ≡ true)

-- the rows of D that were dropped in these entries of its oracle, each with the rule that a Breaks named
abbrev pub conflicts_of : NamedContext → List SetEntry → Conflicts
conflicts_of D entries = (moment_at D (start D) entries).conflicts
