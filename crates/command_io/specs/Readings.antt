-- What is read of the outside: whole files and the whole input, each in a form. The outside may tell nothing of what it holds.
use Rattle.std.specs.Prelude.{◌≡◌, ◌⊎◌, ℕ, nat_le, cond, List, [], ◌∷◌, length, Option, Some, None, Result, Ok, Err, ⊤}
use Rattle.fca_model.specs.Tables.{Text}
use Rattle.fca_model.specs.declared.TheConstants.{FILE_BYTES}
use Rattle.fca_io.specs.Faults.{Rose}
use Rattle.fca_io.specs.Shelves.{Told}

-- What reading comes to, unless a call of the outside fails or memory runs out. `Untold`: the outside does not tell. `Missing`: there is
-- nothing to read, so a call fails. `Refused`: what was read is refused. `Read x`: x was read
pub data Reading (X : Type 0) : Type 0 where
  Untold : Reading X
  Missing : Reading X
  Refused : Reading X
  Read : X → Reading X

-- one reading after the other
abbrev pub then : {X Y : Type 0} → Reading X → (X → Reading Y) → Reading Y
then Untold next = Untold
then Missing next = Missing
then Refused next = Refused
then (Read x) next = next x

abbrev pub formed : {X E : Type 0} → Result X E → Reading X
formed (Ok x) = Read x
formed (Err fault) = Refused

-- the value, or a refusal if there is none
abbrev pub if_some : {X : Type 0} → Option X → Reading X
if_some (Some x) = Read x
if_some None = Refused

-- bytes that are no more than a file may have, in a form
abbrev pub bytes_read : {X : Type 0} → (Text → Reading X) → Text → Reading X
bytes_read form bytes = cond (nat_le (length bytes) FILE_BYTES) (form bytes) Refused

-- a file, in a form
abbrev pub file_read : {X : Type 0} → (Text → Reading X) → Told → Reading X
file_read form None = Untold
file_read form (Some None) = Missing
file_read form (Some (Some bytes)) = bytes_read form bytes

-- all that is left of the input, in a form
abbrev pub input_read : {X : Type 0} → (Text → Reading X) → Option Text → Reading X
input_read form None = Untold
input_read form (Some bytes) = bytes_read form bytes

-- x may have been read
abbrev pub MayRead : {X : Type 0} → Reading X → X → Type 0
MayRead Untold x = ⊤
MayRead Missing x = ⊥
MayRead Refused x = ⊥
MayRead (Read y) x = x ≡ y

-- the reading may be refused
abbrev pub MayRefuse : {X : Type 0} → Reading X → Type 0
MayRefuse Untold = ⊤
MayRefuse Missing = ⊥
MayRefuse Refused = ⊤
MayRefuse (Read y) = ⊥

-- the reading is not refused, and P holds of what was read
abbrev pub IfRead : {X : Type 0} → Reading X → (X → Type 0) → Type 0
IfRead Untold P = ⊤
IfRead Missing P = ⊥
IfRead Refused P = ⊥
IfRead (Read x) P = P x

-- a count of faults rose for the file of this name
abbrev pub Rises : (Text → ℕ) → (Text → ℕ) → Text → Type 0
Rises counts counts' file = Rose (counts file) (counts' file)

-- a count of faults rose for one of the files
abbrev pub SomeRose : (Text → ℕ) → (Text → ℕ) → List Text → Type 0
SomeRose counts counts' [] = ⊥
SomeRose counts counts' (file ∷ files) = Rises counts counts' file ⊎ SomeRose counts counts' files

-- the count of each name is as it was
abbrev pub SameCounts : (Text → ℕ) → (Text → ℕ) → Type 0
SameCounts counts counts' = (file : Text) → counts' file ≡ counts file
