-- The runs of oracles. What an oracle answers and keeps depends on its table and on the rows that were dropped alone, so a run of a seat
-- with an oracle is, entry by entry, what is due for an oracle of the table. The reply to a draw drops nothing, since no row was given.
use Rattle.std.proofs.Common.{◌≡◌, ℕ, Option, Some, None, List, [], ◌∷◌, inl, inr, refl, sym, ap, ◌∙◌}
use Rattle.fca_model.specs.declared.Reply.TheVariants.{Breaks}
use Rattle.fca_model.specs.Tables.{NamedContext}
use Rattle.fca_model.specs.Implications.{Rule}
use Rattle.fca_model.specs.Exploration.{SetReply, SetEntry}
use Rattle.oracle_expert.specs.Answers.{event_of}
use Rattle.oracle_expert.specs.Oracles.{Conflicts, Recall, Answers, Learns, counterexample, answer_of, conflicts_told}
use Rattle.oracle_expert.specs.Runs.{OracleMoment, RunsFrom, OracleRunsFrom, IsAnswered, question_after, moment_at}

conflicts_told-None : (conflicts : Conflicts) (reply : SetReply) → conflicts_told conflicts None reply ≡ conflicts
conflicts_told-None conflicts (Breaks k i) = refl
conflicts_told-None conflicts _ = refl

-- the run is an oracle's, and leaves the oracle with its table and with the conflicts of the entries
pub record IsOracles (D : NamedContext) (e : ℕ) (m : OracleMoment) (entries : List SetEntry) (new : Recall) : Type 0 where
  pub run : OracleRunsFrom D e m entries
  pub table : new.table ≡ D
  pub conflicts : new.conflicts ≡ (moment_at D m entries).conflicts

abbrev moment : Option Rule → Conflicts → OracleMoment
moment due conflicts = record { due = due; conflicts = conflicts }

-- what the oracle remembers after the reply to its answer
next_memory : (D : NamedContext) (conflicts : Conflicts) (old next : Recall) (q : Rule) (e : ℕ) (entry : SetEntry) → old.table ≡ D
    → old.conflicts ≡ conflicts
    → IsAnswered Answers Learns e q old entry next
    → (next.table ≡ D) × (next.conflicts ≡ conflicts_told conflicts (counterexample D conflicts q) entry.reply)
next_memory D conflicts old next q e entry t c a = (
  ap (λ (r : Recall). r.table) a.learns ∙ ap (λ (r : Recall). r.table) a.answers.new_is ∙ t,
  ap (λ (r : Recall). r.conflicts) a.learns
      ∙ ap (λ (r : Recall). conflicts_told r.conflicts r.given entry.reply) a.answers.new_is
      ∙ ap (λ (cs : Conflicts). conflicts_told cs (counterexample old.table cs q) entry.reply) c
      ∙ ap (λ (K : NamedContext). conflicts_told conflicts (counterexample K conflicts q) entry.reply) t,
)

pub oracle_runs : (D : NamedContext) (e : ℕ) (due : Option Rule) (conflicts : Conflicts) (old : Recall) (entries : List SetEntry)
    (new : Recall) → old.table ≡ D → old.conflicts ≡ conflicts
    → RunsFrom Answers Learns e due old entries new → IsOracles D e (moment due conflicts) entries new
oracle_runs D e None conflicts old [] new t c h =
    record { run = tt; table = ap (λ (r : Recall). r.table) h ∙ t; conflicts = ap (λ (r : Recall). r.conflicts) h ∙ c }
oracle_runs D e (Some q) conflicts old [] new t c (inl h) =
    record { run = tt; table = ap (λ (r : Recall). r.table) h ∙ t; conflicts = ap (λ (r : Recall). r.conflicts) h ∙ c }
oracle_runs D e (Some q) conflicts old [] new t c (inr h) =
    record { run = tt; table = ap (λ (r : Recall). r.table) h.1.new_is ∙ t; conflicts = ap (λ (r : Recall). r.conflicts) h.1.new_is ∙ c }
oracle_runs D e None conflicts old (entry ∷ rest) new t c h =
    let more = oracle_runs D e (question_after None entry.reply) (conflicts_told conflicts None entry.reply) h.0 rest new
    (ap (λ (r : Recall). r.table) h.1.1 ∙ t)
    (ap (λ (r : Recall). r.conflicts) h.1.1 ∙ c ∙ sym (conflicts_told-None conflicts entry.reply)) h.3 in
    record { run = (h.1.0, h.2, more.run); table = more.table; conflicts = more.conflicts }
oracle_runs D e (Some q) conflicts old (entry ∷ rest) new t c h =
    let next = next_memory D conflicts old h.0 q e entry t c h.1 in
    let event : entry.event ≡ event_of e (answer_of D conflicts q) =
    h.1.event ∙ ap (event_of e) (h.1.answers.answer_is ∙ ap (λ (cs : Conflicts). answer_of old.table cs q) c
    ∙ ap (λ (K : NamedContext). answer_of K conflicts q) t) in
    let more = oracle_runs D e (question_after (Some q) entry.reply)
    (conflicts_told conflicts (counterexample D conflicts q) entry.reply) h.0 rest new next.0 next.1 h.3 in
    record { run = (event, h.2, more.run); table = more.table; conflicts = more.conflicts }
