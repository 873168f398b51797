-- How a session comes along: what one call reads or writes, how one line is served, and what stands after some lines.
use Rattle.std.specs.Prelude.{◌≡◌, ◌<◌, ◌+◌, ℕ, Some, Result, Ok, Err, OnOk, OnErr, List, [], ◌∷◌, ◌++◌, take, drop, length, All}
use Rattle.std.specs.Io.KnownBytes.{IsAtEnd}
use Rattle.fca_io.specs.Faults.{Rose}
use Rattle.fca_io.specs.declared.outside.Put.{Put}
use Rattle.fca_model.specs.Tables.{Text, NamedContext}
use Rattle.fca_model.specs.Exploration.{SetReply}
use Rattle.turn_lock.specs.declared.fault.TurnFault.{TurnFault}
use Rattle.turn_lock.specs.declared.fault.TurnFault.TheVariants.{Spent as NoTurn, Memory as NoTurnMemory}
use Rattle.expert_wire.specs.Texts.{line_end}
use Rattle.expert_wire.specs.Greetings.{greeting}
use Rattle.expert_sessions.specs.Lines.{HasNoFeed, BeginsWithEvent, Exchange, IsExchange, IsQuit, IsNotQuit, lines_of, answers_text}
use Rattle.expert_sessions.specs.Lines.{entries_of, turns_of, said_line}
use Rattle.expert_sessions.specs.Talks.{LinesServed, GoesOn, IsPartOfLine, IsTooLong, Stops}
use Rattle.expert_sessions.specs.Moves.{DuplexState, Moves, IsQuiet, DeskProgress, Enters}
use Rattle.expert_sessions.specs.declared.said.Said.{Said}
use Rattle.expert_sessions.specs.declared.said.Said.TheVariants.{Replied, NoMemory}
use Rattle.expert_sessions.specs.declared.ended.Ended.{Ended}
use Rattle.expert_sessions.specs.declared.ended.Ended.TheVariants.{Quit, EndOfInput, ReadFault, WriteFault, LongLine, Spent}

-- ---- one call

-- a front of the text was sent, and all of it if the call succeeded
pub record SendsText (a b : DuplexState) (text : Text) (result : Result (Unit {0}) Put) : Type 0 where
  pub sent : Text
  pub unsent : Text
  pub split : text ≡ sent ++ unsent
  pub moves : Moves a b [] sent
  pub whole : OnOk result (unsent ≡ [])
  pub quiet : OnOk result (b.write_faults ≡ a.write_faults)
  pub failed : OnErr result (Rose a.write_faults b.write_faults)
  pub read_faults : b.read_faults ≡ a.read_faults

-- what was taken stands behind the bytes that were read ahead
pub record ReadsOn (a b : DuplexState) (ahead ahead' : Text) : Type 0 where
  pub taken : Text
  pub moves : Moves a b taken []
  pub joined : ahead' ≡ ahead ++ taken
  pub write_faults : b.write_faults ≡ a.write_faults

-- the first line feed stands at this place
pub record HasFeedAt (bytes : Text) (at : ℕ) : Type 0 where
  pub split : bytes ≡ (take at bytes ++ line_end) ++ drop (at + 1) bytes
  pub unbroken : HasNoFeed (take at bytes)
  pub inside : at < length bytes

-- why no whole line was read
abbrev pub LacksLine : DuplexState → DuplexState → Text → Ended → Type 0
LacksLine a b ahead EndOfInput = IsAtEnd b.left × IsPartOfLine ahead × (b.read_faults ≡ a.read_faults)
LacksLine a b ahead ReadFault = Rose a.read_faults b.read_faults × IsPartOfLine ahead
LacksLine a b ahead LongLine = IsTooLong ahead × (b.read_faults ≡ a.read_faults)
LacksLine a b ahead ended = ⊥

-- ---- one line

-- the answer that a turn comes to, or that no turn is left
abbrev pub said_of : Result SetReply TurnFault → Result Said Ended
said_of (Ok reply) = Ok (Replied reply)
said_of (Err NoTurnMemory) = Ok NoMemory
said_of (Err NoTurn) = Err Spent

-- one line was served that is not `quit`
pub record Serves (t : NamedContext) (e : ℕ) (a b : DuplexState) (c d : DeskProgress) (ahead ahead' : Text) : Type 0 where
  pub exchange : Exchange
  pub is : IsExchange t.context.width e exchange
  pub asking : IsNotQuit t.context.width exchange
  pub taken : Text
  pub moves : Moves a b taken (said_line t.attributes exchange.said)
  pub enters : Enters c d exchange.made exchange.turns
  pub quiet : IsQuiet a b
  pub read : ahead ++ taken ≡ (exchange.line ++ line_end) ++ ahead'

-- why no line is served after these, of which there is at most one
abbrev pub HaltsAt : (n e : ℕ) → DuplexState → DuplexState → DeskProgress → Ended → List Exchange → Text → Text → Type 0
HaltsAt n e a b d Quit more rest unsent = (x : Exchange) × (more ≡ x ∷ []) × IsQuit n x × (unsent ≡ []) × IsQuiet a b
HaltsAt n e a b d WriteFault more rest unsent = (x : Exchange) × (more ≡ x ∷ []) × Rose a.write_faults b.write_faults
    × (b.read_faults ≡ a.read_faults)
HaltsAt n e a b d EndOfInput more rest unsent = (more ≡ []) × (unsent ≡ []) × IsAtEnd b.left × IsPartOfLine rest × IsQuiet a b
HaltsAt n e a b d ReadFault more rest unsent = (more ≡ []) × (unsent ≡ []) × Rose a.read_faults b.read_faults × IsPartOfLine rest
    × (b.write_faults ≡ a.write_faults)
HaltsAt n e a b d LongLine more rest unsent = (more ≡ []) × (unsent ≡ []) × IsTooLong rest × IsQuiet a b
HaltsAt n e a b d Spent more rest unsent = (more ≡ []) × (unsent ≡ []) × (d.left ≡ Some 0) × BeginsWithEvent n e rest × IsQuiet a b
HaltsAt n e a b d ended more rest unsent = ⊥

-- no line is served after this one
pub record Halts (t : NamedContext) (e : ℕ) (a b : DuplexState) (c d : DeskProgress) (ahead : Text) (ended : Ended) : Type 0 where
  pub more : List Exchange
  pub rest : Text
  pub taken : Text
  pub sent : Text
  pub unsent : Text
  pub each : All (IsExchange t.context.width e) more
  pub moves : Moves a b taken sent
  pub enters : Enters c d (entries_of more) (turns_of more)
  pub read : ahead ++ taken ≡ lines_of more ++ rest
  pub said : answers_text t.attributes more ≡ sent ++ unsent
  pub halts : HaltsAt t.context.width e a b d ended more rest unsent

-- ---- all lines

-- the expert was greeted, and then k lines were served that are not `quit`
pub record Goes (t : NamedContext) (e : ℕ) (a b : DuplexState) (c d : DeskProgress) (ahead : Text) (k : ℕ) : Type 0 where
  pub served : List Exchange
  pub each : All (IsExchange t.context.width e) served
  pub asking : All (IsNotQuit t.context.width) served
  pub count : length served ≡ k
  pub taken : Text
  pub moves : Moves a b taken (greeting t e ++ answers_text t.attributes served)
  pub enters : Enters c d (entries_of served) (turns_of served)
  pub quiet : IsQuiet a b
  pub read : taken ≡ lines_of served ++ ahead

-- why no line is served any more: no turn is left, or a reason that lies not in the desk
abbrev pub Closes : (t : NamedContext) (e lines : ℕ) → DuplexState → DuplexState → DeskProgress → Ended → List Exchange → Text → Text → Text → Type 0
Closes t e lines a b d Spent served rest sent unsent = (d.left ≡ Some 0) × GoesOn t.context.width lines served
    × BeginsWithEvent t.context.width e rest × (unsent ≡ []) × IsQuiet a b
Closes t e lines a b d ended served rest sent unsent = Stops t e lines a b ended served rest sent unsent

-- all lines were served, before the expert leaves
pub record HasServed (t : NamedContext) (e lines : ℕ) (a b : DuplexState) (c d : DeskProgress) (ended : Ended) : Type 0 where
  pub taken : Text
  pub sent : Text
  pub moves : Moves a b taken sent
  pub lines_served : LinesServed t e lines taken sent (Rose a.write_faults b.write_faults)
  pub enters : Enters c d (entries_of lines_served.served) (turns_of lines_served.served)
  pub closes : Closes t e lines a b d ended lines_served.served lines_served.rest sent lines_served.unsent
