-- What is promised of an exploration, whatever its events were.
use Rattle.std.specs.Prelude.{◌≡◌, ◌↔◌, ◌++◌, ◌∷◌, ℕ, nat_le, true, Some, List, []}
use Rattle.std.specs.List.{list_all}
use Rattle.fca_model.specs.Sets.{size}
use Rattle.fca_model.specs.Tables.{NamedContext}
use Rattle.fca_model.specs.Implications.{Rule}
use Rattle.fca_model.specs.Questions.{waiting, open_questions}
use Rattle.fca_model.specs.Invariant.{Among, IsValid}
use Rattle.fca_model.specs.Exploration.{SetEntry, SetReply, Settings, State, open_in, given_back, holders_of, least_held, state_after}
use Rattle.fca_model.specs.Exploration.{events_of, own, IsLegal}
use Rattle.fca_model.specs.declared.Event.TheVariants.{Draw}
use Rattle.fca_model.specs.declared.Reply.TheVariants.{Ask, Done}
use Rattle.explore_state.specs.History.{Opening, ExploreModel, opening_state}
use Rattle.explore_state.specs.Basis.{IsBasisBeside}

-- the table as the opening of an exploration by so many experts under the settings
abbrev pub opening_of : NamedContext → ℕ → Settings → Opening
opening_of table experts settings = record { table = table; experts = experts; settings = settings }

-- an exploration: what it was opened with, and its journal
pub record Exploration : Type 0 where
  pub opening : Opening
  pub journal : List SetEntry

-- the exploration of a history
abbrev pub exploration_of : ExploreModel → Exploration
exploration_of h = record { opening = h.opening; journal = h.journal }

-- the state at one moment: after these entries
abbrev pub state_at : Exploration → List SetEntry → State
state_at r before = state_after (opening_state r.opening) (events_of before)

-- the state after its last event
abbrev pub last_state : Exploration → State
last_state r = state_at r r.journal

-- the questions open after it, beside what was known at the opening
abbrev pub last_open : Exploration → List Rule
last_open r = open_questions r.opening.settings.known (last_state r).context (last_state r).accepted

-- A state as it is at each moment: the rows respect what is known; each accepted implication is a member of the basis of the rows as they
-- are, beside what is known, and no two have one premise; no premise of an accepted one is larger than one of a member that waits; and each
-- expert holds one question at most, which it may hold
pub record IsOnCourse (s : State) : Type 0 where
  pub valid : IsValid s
  pub smallest : list_all (λ j. list_all (λ i. nat_le (size i.premise) (size j.premise)) s.accepted)
      (waiting s.settings.known s.context s.accepted) ≡ true

-- in this state expert e is asked the question q: it is open, and of the open ones the first that the fewest others hold
pub record IsAsked (s : State) (e : ℕ) (q : Rule) : Type 0 where
  pub among : Among (open_in s) q
  pub fewest : list_all (λ j. nat_le (holders_of q.premise (given_back e s.held)) (holders_of j.premise (given_back e s.held)))
      (open_in s) ≡ true
  pub first : least_held (given_back e s.held) (open_in s) ≡ Some q

-- An expert who has seen this front of the journal makes these entries later. At each of them it has seen a legal history, which goes on from
-- what it had seen before, maybe with entries of others, and ends in the entry. The journal goes on from the last
abbrev pub SeesLegalHistories : Exploration → List SetEntry → List SetEntry → Type 0
SeesLegalHistories r seen [] = (later : List SetEntry) × (r.journal ≡ seen ++ later)
SeesLegalHistories r seen (entry ∷ entries) =
    (between : List SetEntry) × IsLegal (opening_state r.opening) ((seen ++ between) ++ entry ∷ [])
    × SeesLegalHistories r ((seen ++ between) ++ entry ∷ []) entries

-- Its journal is one legal history, and after each front of it the state is on course. What each expert has seen grows by legal histories. A
-- draw was answered Done exactly where no question was open at that moment, and one that was answered by a question was asked one that was
-- open then. Where none is open at the end, the accepted implications are the basis of the recorded context beside what is known: they hold,
-- all that holds follows, and no equivalent list has fewer
pub record IsExplored (r : Exploration) : Type 0 where
  pub legal : IsLegal (opening_state r.opening) r.journal
  pub moments : (before after : List SetEntry) → r.journal ≡ before ++ after → IsOnCourse (state_at r before)
  pub seen : (e : ℕ) → SeesLegalHistories r [] (own r.journal e)
  pub asked : (before after : List SetEntry) (e : ℕ) (q : Rule) → r.journal ≡ before ++ record { event = Draw e; reply = Ask q } ∷ after
      → IsAsked (state_at r before) e q
  pub done : (before after : List SetEntry) (e : ℕ) (reply : SetReply)
      → r.journal ≡ before ++ record { event = Draw e; reply = reply } ∷ after
      → (reply ≡ Done) ↔ (open_in (state_at r before) ≡ [])
  pub basis : last_open r ≡ [] → IsBasisBeside r.opening.settings.known (last_state r).context (last_state r).accepted
