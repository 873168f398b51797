-- The order of a session: its end is read only where each whole line that the end has given is answered.
--
-- An end that gives `draw` and the half of a second line at once is read once more when the greeting and the reply to `draw` were sent,
-- and then as often as it takes until the second line is whole. One that gives two whole lines at once is not read before both were
-- answered.
use Rattle.std.specs.Prelude.{◌≡◌, ℕ, Option, List, [], ◌∷◌, ◌++◌, All}
use Rattle.std.specs.Option.{option_map}
use Rattle.std.specs.Io.KnownBytes.{Appends, Consumes}
use Rattle.fca_io.specs.Faults.{one_more}
use Rattle.fca_model.specs.Tables.{Text, NamedContext}
use Rattle.expert_wire.specs.Greetings.{greeting}
use Rattle.expert_sessions.specs.Lines.{HasNoFeed, Exchange, IsExchange, lines_of, answers_text}
use Rattle.expert_sessions.specs.Moves.{DuplexState, Moves, end_state_of}

-- an end before and after one read
pub record OneRead (E : Type 0) : Type 0 where
  pub before : E
  pub after : E

-- over ends that show what is left and what is held, how often they were read, if they count that, and their counts of faults
module _ {E : Type 0} (left held : E → Option Text) (reads : E → Option ℕ) (read_faults write_faults : E → ℕ) where
  abbrev pub end_state : E → DuplexState
  end_state end = end_state_of left held read_faults write_faults end

  -- from the state a to the state b the end was not read
  pub record ReadsNothing (a b : E) : Type 0 where
    pub kept : Consumes (left a) (left b) []
    pub uncounted : reads b ≡ reads a
    pub quiet : read_faults b ≡ read_faults a

  -- it was read once, if it counts that, and nothing was sent
  pub record ReadsOnce (a b : E) : Type 0 where
    pub kept : Appends (held a) (held b) []
    pub counted : reads b ≡ option_map one_more (reads a)
    pub quiet : write_faults b ≡ write_faults a

  -- from this state on to the last, it was read in these places and no other, and P held before each
  abbrev pub AreReadings : (E → Type 0) → E → E → List (OneRead E) → Type 0
  AreReadings P now last [] = ReadsNothing now last
  AreReadings P now last (r ∷ rs) = ReadsNothing now r.before × P r.before × ReadsOnce r.before r.after × AreReadings P r.after last rs

  -- from the first state to the last, it was read only where P holds
  abbrev pub ReadsOnlyWhere : (E → Type 0) → E → E → Type 0
  ReadsOnlyWhere P first last = (readings : List (OneRead E)) × AreReadings P first last readings

  -- since the first state bytes were taken and nothing was sent, and behind those read ahead they end no line
  pub record AwaitsLine (ahead : Text) (first now : E) : Type 0 where
    pub taken : Text
    pub moves : Moves (end_state first) (end_state now) taken []
    pub unbroken : HasNoFeed (ahead ++ taken)

  -- for one line, the end was read only where the line was not whole
  abbrev pub ReadsForLine : Text → E → E → Type 0
  ReadsForLine ahead first last = ReadsOnlyWhere (AwaitsLine ahead first) first last

  -- expert e was greeted, and each whole line that the end has given since its first state was answered
  pub record IsAnswered (t : NamedContext) (e : ℕ) (first now : E) : Type 0 where
    pub served : List Exchange
    pub rest : Text
    pub each : All (IsExchange t.context.width e) served
    pub unbroken : HasNoFeed rest
    pub moves : Moves (end_state first) (end_state now) (lines_of served ++ rest) (greeting t e ++ answers_text t.attributes served)

  -- for a session, the end was read only where each whole line was answered
  abbrev pub ReadsWhereAnswered : NamedContext → ℕ → E → E → Type 0
  ReadsWhereAnswered t e first last = ReadsOnlyWhere (IsAnswered t e first) first last
