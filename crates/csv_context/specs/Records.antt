-- The records of a CSV file, and what a reader of it has left. The fields are parted by commas; a field may stand in quotes.
use Rattle.std.specs.Prelude.{◌≡◌, ℕ, ◌+◌, List, [], ◌∷◌, Bool, true, false, Option, Some, None, length, IsUtf8}
use Rattle.std.proofs.Common.{Bor}
use Rattle.fca_model.specs.Tables.{Text}
use Rattle.csv.specs.Machine.{ends_at_end}
use Rattle.csv.specs.Reading.{Ready, default_config, reader_config, reader_state, reader_trim, records, records_from, source_of, strip_bom}
use Rattle.csv.specs.Records.{AllText}
use Rattle.csv.specs.declared.parser.State.{State}
use Rattle.csv.specs.declared.reader.Reader.{Reader}
use Rattle.csv.specs.declared.reader.Trim.TheVariants as trim

-- the fields of a record, each as its bytes
abbrev pub Record : Type 0
Record = List Text

-- the records of the bytes of a file, without the byte order mark before them, if there is one
abbrev pub csv_records : List ℕ → List Record
csv_records bytes = records default_config (strip_bom bytes)

-- ---- a reader over the bytes of a text

-- the bytes that a reader has left, unless it has failed
abbrev pub unread_bytes : Reader (Bor (List ℕ)) → Option (List ℕ)
unread_bytes reader = source_of (λ (bytes : Bor (List ℕ)). Some bytes.now) reader

abbrev pub records_by : State → Option (List ℕ) → List Record
records_by state None = []
records_by state (Some bytes) = records_from default_config (length bytes + 1) state bytes

-- the records that a reader has left
abbrev pub records_left : Reader (Bor (List ℕ)) → List Record
records_left reader = records_by (reader_state reader) (unread_bytes reader)

abbrev pub IsText : Option (List ℕ) → Type 0
IsText None = ⊥
IsText (Some bytes) = IsUtf8 bytes

-- the reader has read whole records so far, with the usual settings, and what it has left is text
pub record IsOpenReader (reader : Reader (Bor (List ℕ))) : Type 0 where
  pub plain : reader_trim reader ≡ trim.None
  pub ready : Ready reader
  pub settings : reader_config reader ≡ default_config
  pub between : ends_at_end (reader_state reader) ≡ false
  pub text : IsText (unread_bytes reader)

-- a read took the first of the records that were left, whose fields are text, or found that none was left
abbrev pub Reads : Reader (Bor (List ℕ)) → Reader (Bor (List ℕ)) → Bool → Record → Type 0
Reads old new true fields = IsOpenReader new × AllText fields × (records_left old ≡ fields ∷ records_left new)
Reads old new false fields = records_left old ≡ []
