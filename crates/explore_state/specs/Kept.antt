-- How the parts of an exploration show its state.
use Rattle.std.specs.Prelude.{◌≡◌, true, false, Option, Some, None, List, [], ◌∷◌, ◌++◌}
use Rattle.fca_model.specs.Context.{Context}
use Rattle.fca_model.specs.Implications.{Rule, holds}
use Rattle.fca_model.specs.Questions.{has_premise}
use Rattle.fca_model.specs.Invariant.{MayBeHeld, IsValid, rows_respect}
use Rattle.fca_model.specs.Exploration.{State, SetHold, SetEvent, SetReply, SetEntry, reply_to, state_after, events_of, expert_of}
use Rattle.fca_model.specs.Exploration.{has_row_of_width, is_expert, IsLegal}
use Rattle.explore_state.specs.History.{Opening, opening_state}

-- the state has these rows, accepted implications and holds
pub record IsShown (s : State) (K : Context) (acc : List Rule) (hs : List SetHold) : Type 0 where
  pub context : s.context ≡ K
  pub accepted : s.accepted ≡ acc
  pub held : s.held ≡ hs

-- they are those after the journal, which is legal; the rows of the opening respect what is known
pub record IsKept (o : Opening) (J : List SetEntry) (K : Context) (acc : List Rule) (hs : List SetHold) : Type 0 where
  pub shown : IsShown (state_after (opening_state o) (events_of J)) K acc hs
  pub legal : IsLegal (opening_state o) J
  pub experts : is_expert o.experts ≡ true
  pub known : rows_respect o.settings.known o.table.context ≡ true

-- the reply is the one to the event, in a state that has these known implications, rows, accepted implications and holds
pub record IsDue (S : List Rule) (K : Context) (acc : List Rule) (hs : List SetHold) (event : SetEvent)
    (answer : SetReply) : Type 0 where
  pub state : State
  pub shown : IsShown state K acc hs
  pub known : state.settings.known ≡ S
  pub valid : IsValid state
  pub expert : is_expert (expert_of event) ≡ true
  pub wide : has_row_of_width K.width event ≡ true
  pub reply : answer ≡ reply_to state event

-- the accepted implications, with what is held
abbrev pub with_held : Option Rule → List Rule → List Rule
with_held None acc = acc
with_held (Some q) acc = acc ++ q ∷ []

-- the question may be held, it holds in the rows, and no accepted implication has its premise
pub record IsTimely (S : List Rule) (K : Context) (acc : List Rule) (q : Rule) : Type 0 where
  pub may_be_held : MayBeHeld S K acc q
  pub holds : holds K q ≡ true
  pub new : has_premise acc q.premise ≡ false
