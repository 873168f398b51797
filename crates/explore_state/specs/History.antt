-- An exploration, as its opening and its journal.
use Rattle.std.specs.Prelude.{◌≡◌, ◌≤◌, ℕ, true, List, [], ◌∷◌, ◌++◌}
use Rattle.fca_model.specs.Tables.{NamedContext}
use Rattle.fca_model.specs.Implications.{Rule}
use Rattle.fca_model.specs.Questions.{open_questions}
use Rattle.fca_model.specs.Exploration.{State, Settings, SetEvent, SetReply, SetEntry, opening, reply_to, next, state_after, events_of}
use Rattle.fca_model.specs.Exploration.{expert_of, has_row_of_width}

-- what an exploration is opened with
pub record Opening : Type 0 where
  pub table : NamedContext
  pub experts : ℕ
  pub settings : Settings

-- the state at the opening
abbrev pub opening_state : Opening → State
opening_state o = opening o.table.context o.table.objects o.settings

-- the opening, the journal, and how many more entries the journal can take without memory
pub record ExploreModel : Type 0 where
  pub opening : Opening
  pub journal : List SetEntry
  pub spare : ℕ

-- the state after the events of the journal
abbrev pub state_of : ExploreModel → State
state_of h = state_after (opening_state h.opening) (events_of h.journal)

-- the questions that are open after them, beside what was known at the opening
abbrev pub open_of : ExploreModel → List Rule
open_of h = open_questions h.opening.settings.known (state_of h).context (state_of h).accepted

-- the event is of one of the experts, and a row has the width of the table
pub record Admits (o : Opening) (event : SetEvent) : Type 0 where
  pub first : 1 ≤ expert_of event
  pub last : expert_of event ≤ o.experts
  pub wide : has_row_of_width o.table.context.width event ≡ true

-- the event was replied to, which put one entry on the journal and moved the state by one step
pub record IsStep (old new : ExploreModel) (event : SetEvent) (answer : SetReply) : Type 0 where
  pub reply : answer ≡ reply_to (state_of old) event
  pub journal : new.journal ≡ old.journal ++ record { event = event; reply = answer } ∷ []
  pub state : state_of new ≡ next (state_of old) event
  pub opening : new.opening ≡ old.opening

-- the event changed nothing but the room on the journal
pub record IsSame (old new : ExploreModel) : Type 0 where
  pub journal : new.journal ≡ old.journal
  pub opening : new.opening ≡ old.opening
