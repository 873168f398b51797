-- Lists each of whose members is well formed.
use Rattle.std.specs.Prelude.{◌≡◌, ℕ, List, [], ◌∷◌, length}
use Rattle.fca_model.specs.Names.{IsName}
use Rattle.fca_model.specs.Sets.{Set}
use Rattle.fca_model.specs.Tables.{Text}

-- each of the texts is a name
abbrev pub EachName : List Text → Type 0
EachName [] = Unit {0}
EachName (name ∷ names) = IsName name × EachName names

-- each of the rows has the width
abbrev pub EachWide : ℕ → List Set → Type 0
EachWide width [] = Unit {0}
EachWide width (row ∷ rows) = (length row ≡ width) × EachWide width rows
