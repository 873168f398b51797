-- The lines of a session: what was asked in each, how it was answered, the entry that it made, and the turn that it took.
--
-- Over the attributes a and b, with no row, `draw` is answered by `ask .. XX {} -> {a, b}`, makes that entry and takes a turn;
-- `drew` is answered by `bad line`, makes none and takes none.
use Rattle.std.specs.Prelude.{◌≡◌, ◌≢◌, ◌≤◌, ◌+◌, ◌⊎◌, ℕ, false, List, [], ◌∷◌, ◌++◌, Result, Ok, Err, length}
use Rattle.std.specs.List.{list_any}
use Rattle.fca_model.specs.Tables.{Text}
use Rattle.fca_model.specs.declared.TheConstants.{LINE_BYTES}
use Rattle.fca_model.specs.declared.Event.TheVariants.{Draw, Confirm, Row, Leave}
use Rattle.fca_model.specs.Exploration.{SetEvent, SetEntry}
use Rattle.expert_wire.specs.Texts.{line_end}
use Rattle.expert_wire.specs.Replies.{reply_line}
use Rattle.expert_wire.specs.Requests.{TakesMemory, request_form}
use Rattle.text_pieces.specs.Lines.{is_line_feed}
use Rattle.expert_wire.specs.declared.requests.Request.{Request}
use Rattle.expert_wire.specs.declared.requests.Request.TheVariants.{Draw as DrawAsked, Confirm as ConfirmAsked, Row as RowAsked}
use Rattle.expert_wire.specs.declared.requests.Request.TheVariants.{Leave as LeaveAsked, Quit}
use Rattle.expert_wire.specs.declared.requests.RequestFault.{RequestFault}
use Rattle.expert_wire.specs.declared.requests.RequestFault.TheVariants.{Line, Width}
use Rattle.expert_sessions.specs.declared.said.TheConstants.{BYE, BAD_LINE, BAD_WIDTH, NO_MEMORY}
use Rattle.expert_sessions.specs.declared.said.Said.{Said}
use Rattle.expert_sessions.specs.declared.said.Said.TheVariants.{Replied, Bye, BadLine, BadWidth, NoMemory}

-- ---- one line

-- there is no line feed among the bytes
abbrev pub HasNoFeed : Text → Type 0
HasNoFeed bytes = list_any is_line_feed bytes ≡ false

-- what was read asks for this event of expert e
abbrev pub Asks : ℕ → Result Request RequestFault → SetEvent → Type 0
Asks e (Ok DrawAsked) event = event ≡ Draw e
Asks e (Ok ConfirmAsked) event = event ≡ Confirm e
Asks e (Ok (RowAsked name row)) event = event ≡ Row e name row
Asks e (Ok LeaveAsked) event = event ≡ Leave e
Asks e (Ok Quit) event = ⊥
Asks e (Err fault) event = ⊥

-- memory ran out: in the turn that was asked for, or in reading the line
abbrev pub LacksMemory : ℕ → Result Request RequestFault → ℕ → Type 0
LacksMemory e form turns = ((event : SetEvent) × Asks e form event × (turns ≡ 1)) ⊎ (TakesMemory form × (turns ≡ 0))

-- what was read is answered so, and these entries are made, in so many turns
abbrev pub Says : ℕ → Result Request RequestFault → Said → List SetEntry → ℕ → Type 0
Says e form (Replied reply) made turns = (event : SetEvent) × Asks e form event × (made ≡ record { event = event; reply = reply } ∷ [])
    × (turns ≡ 1)
Says e form Bye made turns = (form ≡ Ok Quit) × (made ≡ []) × (turns ≡ 0)
Says e form BadLine made turns = (form ≡ Err Line) × (made ≡ []) × (turns ≡ 0)
Says e form BadWidth made turns = (form ≡ Err Width) × (made ≡ []) × (turns ≡ 0)
Says e form NoMemory made turns = LacksMemory e form turns × (made ≡ [])

-- the line of an answer, if the attributes have these names
abbrev pub said_line : List Text → Said → Text
said_line attributes (Replied reply) = reply_line attributes reply
said_line attributes Bye = BYE.now
said_line attributes BadLine = BAD_LINE.now
said_line attributes BadWidth = BAD_WIDTH.now
said_line attributes NoMemory = NO_MEMORY.now

-- a line that was served: its bytes before the line feed, its answer, the entries that it made, and the turns that it took
pub record Exchange : Type 0 where
  pub line : Text
  pub said : Said
  pub made : List SetEntry
  pub turns : ℕ

-- expert e was served, if rows have width n
pub record IsExchange (n e : ℕ) (x : Exchange) : Type 0 where
  pub short : length x.line ≤ LINE_BYTES
  pub unbroken : HasNoFeed x.line
  pub answered : Says e (request_form x.line n) x.said x.made x.turns

-- the text begins with a whole line that asks for an event of expert e
pub record BeginsWithEvent (n e : ℕ) (text : Text) : Type 0 where
  pub line : Text
  pub more : Text
  pub event : SetEvent
  pub split : text ≡ (line ++ line_end) ++ more
  pub short : length line ≤ LINE_BYTES
  pub unbroken : HasNoFeed line
  pub asks : Asks e (request_form line n) event

abbrev pub IsQuit : ℕ → Exchange → Type 0
IsQuit n x = request_form x.line n ≡ Ok Quit

abbrev pub IsNotQuit : ℕ → Exchange → Type 0
IsNotQuit n x = request_form x.line n ≢ Ok Quit

-- ---- all lines

-- the lines as they were read
abbrev pub lines_of : List Exchange → Text
lines_of [] = []
lines_of (x ∷ xs) = (x.line ++ line_end) ++ lines_of xs

-- their answers
abbrev pub answers_text : List Text → List Exchange → Text
answers_text attributes [] = []
answers_text attributes (x ∷ xs) = said_line attributes x.said ++ answers_text attributes xs

-- the entries that they made
abbrev pub entries_of : List Exchange → List SetEntry
entries_of [] = []
entries_of (x ∷ xs) = x.made ++ entries_of xs

-- the turns that they took
abbrev pub turns_of : List Exchange → ℕ
turns_of [] = 0
turns_of (x ∷ xs) = x.turns + turns_of xs

-- all but the last
abbrev pub before_last : List Exchange → List Exchange
before_last [] = []
before_last (x ∷ []) = []
before_last (x ∷ y ∷ xs) = x ∷ before_last (y ∷ xs)
