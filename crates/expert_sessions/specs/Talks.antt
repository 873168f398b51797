-- The talk of a session: the bytes that it took, the entries that it made and the turns that they took, the bytes that it sent, and
-- its ending.
--
-- Expert 2, who is given one line, and sends `draw` twice, is greeted, gets one reply, and makes two entries in two turns: the draw,
-- and the leave with which a session ends. The second line is not served, and the ending is the limit.
use Rattle.std.specs.Prelude.{◌≡◌, ◌≤◌, ◌<◌, ◌+◌, ◌⊎◌, ⊤, ℕ, Some, List, [], ◌∷◌, ◌++◌, length, All}
use Rattle.std.specs.Io.KnownBytes.{IsAtEnd}
use Rattle.fca_io.specs.Faults.{Rose}
use Rattle.fca_model.specs.Tables.{Text, NamedContext}
use Rattle.fca_model.specs.declared.TheConstants.{LINE_BYTES}
use Rattle.fca_model.specs.declared.Event.TheVariants.{Leave}
use Rattle.fca_model.specs.Exploration.{SetReply, SetEntry}
use Rattle.expert_wire.specs.Greetings.{greeting}
use Rattle.expert_sessions.specs.Lines.{HasNoFeed, BeginsWithEvent, Exchange, IsExchange, IsQuit, IsNotQuit, lines_of, answers_text}
use Rattle.expert_sessions.specs.Lines.{entries_of, turns_of, before_last}
use Rattle.expert_sessions.specs.Moves.{DuplexState, Moves, IsQuiet, DeskProgress, Enters}
use Rattle.expert_sessions.specs.declared.ended.Ended.{Ended}
use Rattle.expert_sessions.specs.declared.ended.Ended.TheVariants.{Quit, EndOfInput, ReadFault, WriteFault, LongLine, Limit, Spent, Memory}

-- Whole lines at the front of what was taken were served, one answer each, and `quit` only as the last of them. What was sent
-- is a front of the greeting and all answers, and all of it if no write failed
pub record LinesServed (t : NamedContext) (e lines : ℕ) (taken sent : Text) (write_failed : Type 0) : Type 0 where
  pub served : List Exchange
  pub rest : Text
  pub unsent : Text
  pub each : All (IsExchange t.context.width e) served
  pub quit_last : All (IsNotQuit t.context.width) (before_last served)
  pub few : length served ≤ lines
  pub lines_taken : taken ≡ lines_of served ++ rest
  pub answers_sent : greeting t e ++ answers_text t.attributes served ≡ sent ++ unsent
  pub whole : (unsent ≡ []) ⊎ write_failed

-- ---- what stands behind the lines that were served

-- no line feed, and fewer bytes than make a line too long
pub record IsPartOfLine (rest : Text) : Type 0 where
  pub unbroken : HasNoFeed rest
  pub short : length rest ≤ LINE_BYTES

-- more bytes than a line may have, without a line feed among them
pub record IsTooLong (rest : Text) : Type 0 where
  pub front : Text
  pub more : Text
  pub split : rest ≡ front ++ more
  pub unbroken : HasNoFeed front
  pub long : length front ≡ LINE_BYTES + 1

-- ---- the endings

-- no line was `quit`, and more lines might have been served
pub record GoesOn (n lines : ℕ) (served : List Exchange) : Type 0 where
  pub asking : All (IsNotQuit n) served
  pub fewer : length served < lines

-- the last line was `quit`
pub record HasQuit (n : ℕ) (served : List Exchange) : Type 0 where
  pub last : Exchange
  pub split : served ≡ before_last served ++ last ∷ []
  pub quit : IsQuit n last

-- all but the last answer was sent, if a line was served
abbrev pub LacksLastAnswer : NamedContext → ℕ → List Exchange → Text → Type 0
LacksLastAnswer t e [] sent = ⊤
LacksLastAnswer t e (x ∷ xs) sent = (part : Text) × (sent ≡ (greeting t e ++ answers_text t.attributes (before_last (x ∷ xs))) ++ part)

module _ (t : NamedContext) (e lines : ℕ) (a b : DuplexState) where
  -- why no further line was served, if neither turns nor memory ran out: a call of the end failed only if this is the reason
  abbrev pub Stops : Ended → List Exchange → Text → Text → Text → Type 0
  Stops Quit served rest sent unsent = HasQuit t.context.width served × (unsent ≡ []) × IsQuiet a b
  Stops EndOfInput served rest sent unsent = GoesOn t.context.width lines served × IsAtEnd b.left × IsPartOfLine rest × (unsent ≡ [])
      × IsQuiet a b
  Stops ReadFault served rest sent unsent = GoesOn t.context.width lines served × Rose a.read_faults b.read_faults × IsPartOfLine rest
      × (unsent ≡ [])
      × (b.write_faults ≡ a.write_faults)
  Stops LongLine served rest sent unsent = GoesOn t.context.width lines served × IsTooLong rest × (unsent ≡ []) × IsQuiet a b
  Stops Limit served rest sent unsent = All (IsNotQuit t.context.width) served × (length served ≡ lines) × (unsent ≡ []) × IsQuiet a b
  Stops WriteFault served rest sent unsent = Rose a.write_faults b.write_faults × LacksLastAnswer t e served sent
      × (b.read_faults ≡ a.read_faults)
  Stops Spent served rest sent unsent = ⊥
  Stops Memory served rest sent unsent = ⊥

  -- why it stopped before the leave: the next line asks for an event, for which no turn was left; or another reason
  abbrev pub Pauses : List Exchange → Text → Text → Text → Type 0
  Pauses served rest sent unsent = (GoesOn t.context.width lines served × BeginsWithEvent t.context.width e rest × (unsent ≡ [])
      × IsQuiet a b) ⊎ ((reason : Ended) × Stops reason served rest sent unsent)

  -- the ending: if memory ran out in the leave, the session stopped for another reason
  abbrev pub EndsTalk : DeskProgress → Ended → List Exchange → Text → Text → Text → Type 0
  EndsTalk d Spent served rest sent unsent = (d.left ≡ Some 0) × Pauses served rest sent unsent
  EndsTalk d Memory served rest sent unsent = (reason : Ended) × Stops reason served rest sent unsent
  EndsTalk d ended served rest sent unsent = Stops ended served rest sent unsent

-- an entry in which expert e leaves stands last
abbrev pub AndLeaves : ℕ → List SetEntry → List SetEntry → Type 0
AndLeaves e entries made = (reply : SetReply) × (made ≡ entries ++ record { event = Leave e; reply = reply } ∷ [])

-- the entries of the lines in their k turns, and a leave in one turn more: the entry is missing if turns or memory ran out,
-- and the turn if turns did
abbrev pub Makes : ℕ → Ended → List SetEntry → ℕ → List SetEntry → ℕ → Type 0
Makes e Spent entries k made turns = (made ≡ entries) × (turns ≡ k)
Makes e Memory entries k made turns = (made ≡ entries) × (turns ≡ k + 1)
Makes e ended entries k made turns = AndLeaves e entries made × (turns ≡ k + 1)

-- a session that had room for a line
pub record IsServed (t : NamedContext) (e lines : ℕ) (a b : DuplexState) (d : DeskProgress) (taken : Text) (made : List SetEntry) (turns : ℕ)
    (sent : Text) (ended : Ended) : Type 0 where
  pub lines_served : LinesServed t e lines taken sent (Rose a.write_faults b.write_faults)
  pub entries : Makes e ended (entries_of lines_served.served) (turns_of lines_served.served) made turns
  pub ending : EndsTalk t e lines a b d ended lines_served.served lines_served.rest sent lines_served.unsent

-- a session that had none
pub record IsRefused (a b : DuplexState) (taken : Text) (made : List SetEntry) (turns : ℕ) (sent : Text) (ended : Ended) : Type 0 where
  pub nothing_taken : taken ≡ []
  pub nothing_made : made ≡ []
  pub no_turn : turns ≡ 0
  pub nothing_sent : sent ≡ []
  pub quiet : IsQuiet a b
  pub ending : ended ≡ Memory

-- the talk of expert e, who may have this many lines served, over the table and between these two states of the end, which leaves
-- the desk like d
abbrev pub Talk : NamedContext → ℕ → ℕ → DuplexState → DuplexState → DeskProgress → Text → List SetEntry → ℕ → Text → Ended → Type 0
Talk t e lines a b d taken made turns sent ended = IsRefused a b taken made turns sent ended
    ⊎ IsServed t e lines a b d taken made turns sent ended

-- what the end lost, what was added to the entries of the desk in how many turns, and what the end gained is a talk
pub record HasTalked (t : NamedContext) (e lines : ℕ) (a b : DuplexState) (c d : DeskProgress) (ended : Ended) : Type 0 where
  pub taken : Text
  pub made : List SetEntry
  pub turns : ℕ
  pub sent : Text
  pub moves : Moves a b taken sent
  pub enters : Enters c d made turns
  pub talk : Talk t e lines a b d taken made turns sent ended
