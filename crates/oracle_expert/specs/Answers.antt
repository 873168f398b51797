-- Answers of experts to questions.
use Rattle.std.specs.Prelude.{◌≡◌, ℕ, length}
use Rattle.fca_model.specs.declared.Event.TheVariants as event
use Rattle.fca_model.specs.Exploration.{SetEvent}
use Rattle.oracle_expert.specs.declared.expert.Answer.{Answer}
use Rattle.oracle_expert.specs.declared.expert.Answer.TheVariants.{Confirm, Row}

-- a row that is given has the width n
abbrev pub HasWideAnswer : ℕ → Answer → Type 0
HasWideAnswer n Confirm = Unit {0}
HasWideAnswer n (Row name row) = length row ≡ n

-- the event by which expert e gives the answer
abbrev pub event_of : ℕ → Answer → SetEvent
event_of e Confirm = event.Confirm e
event_of e (Row name row) = event.Row e name row
