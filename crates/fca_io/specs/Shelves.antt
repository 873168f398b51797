-- What a shelf of files tells of a name.
use Rattle.std.specs.Prelude.{◌≡◌, ◌<◌, ℕ, Option, None, Some, List, length, find, option_map, bytes_eq, ⊤}

-- nothing is known, or no file has the name, or the file has these bytes
abbrev pub Told : Type 0
Told = Option (Option (List ℕ))

-- these may be the bytes of the file
abbrev pub MayHold : Told → List ℕ → Type 0
MayHold None bytes = ⊤
MayHold (Some file) bytes = file ≡ Some bytes

-- the file may have more bytes than the limit
abbrev pub MayExceed : Told → ℕ → Type 0
MayExceed None limit = ⊤
MayExceed (Some None) limit = ⊥
MayExceed (Some (Some bytes)) limit = limit < length bytes

-- a name and the bytes under it
pub record NamedBytes : Type 0 where
  pub name : List ℕ
  pub bytes : List ℕ

-- the bytes of the first file of the name
abbrev pub bytes_under : List NamedBytes → List ℕ → Option (List ℕ)
bytes_under files name = option_map (λ file. file.bytes) (find (λ file. bytes_eq file.name name) files)
