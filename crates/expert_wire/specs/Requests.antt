-- The lines of a session, and what each asks for.
use Rattle.std.specs.Prelude.{⊤, ℕ, cond, Result, Ok, Err, bytes_eq, codes}
use Rattle.std.specs.Str.{is_utf8}
use Rattle.std.specs.Str.Lines.{strip_carriage_return}
use Rattle.fca_model.specs.Sets.{Set}
use Rattle.fca_model.specs.Tables.{Text}
use Rattle.expert_wire.specs.declared.requests.Request.{Request}
use Rattle.expert_wire.specs.declared.requests.Request.TheVariants.{Draw, Confirm, Row, Leave, Quit}
use Rattle.expert_wire.specs.declared.requests.RequestFault.{RequestFault}
use Rattle.expert_wire.specs.declared.requests.RequestFault.TheVariants.{Line}
use Rattle.text_pieces.specs.Words.{first_word, later_words}
use Rattle.expert_wire.specs.Patterns.{named_row}

-- the request to record a row
abbrev pub row_request : Result (Text × Set) RequestFault → Result Request RequestFault
row_request (Ok x) = Ok (Row x.0 x.1)
row_request (Err fault) = Err fault

-- the request of a line without its end, where rows have width n
abbrev pub request_of : ℕ → Text → Result Request RequestFault
request_of n text =
    cond (bytes_eq text (codes "draw")) (Ok Draw)
    (cond (bytes_eq text (codes "confirm")) (Ok Confirm)
    (cond (bytes_eq text (codes "leave")) (Ok Leave)
    (cond (bytes_eq text (codes "quit")) (Ok Quit)
    (cond (bytes_eq (first_word text) (codes "row")) (row_request (named_row n (later_words text)))
    (Err Line)))))

-- the request of the bytes before a line feed. One carriage return at the end is dropped
abbrev pub request_form : Text → ℕ → Result Request RequestFault
request_form line n =
    cond (is_utf8 (strip_carriage_return line)) (request_of n (strip_carriage_return line)) (Err Line)

-- reading it takes memory: only a row of the right width does, for its name
abbrev pub TakesMemory : Result Request RequestFault → Type 0
TakesMemory (Ok (Row name row)) = ⊤
TakesMemory form = ⊥
