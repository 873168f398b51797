-- One reading after the other: what may be read or refused behind a first reading.
use Rattle.std.proofs.Common.{◌≡◌, ◌∙◌, ap, subst}
use Rattle.fca_model.specs.Tables.{NamedContext}
use Rattle.context_table.specs.Table.{untitled_context}
use Rattle.command_io.specs.Readings.{Reading, then, MayRead, MayRefuse, IfRead}
use Rattle.command_io.specs.Readings.Reading.{Untold, Missing, Refused, Read}
use Rattle.command_io.specs.Untitled.{untitled_reading}

pub refused_then : {X Y : Type 0} (r : Reading X) (next : X → Reading Y) → MayRefuse r → MayRefuse (then r next)
refused_then Untold next may = tt
refused_then Missing next may = may
refused_then Refused next may = tt
refused_then (Read x) next may = absurd may

pub refused_after : {X Y : Type 0} (r : Reading X) (x : X) (next : X → Reading Y) → MayRead r x → MayRefuse (next x)
    → MayRefuse (then r next)
refused_after Untold x next here may = tt
refused_after Missing x next here may = here
refused_after Refused x next here may = tt
refused_after {X = X} (Read y) x next here may = let P : X → Type 0 = λ z. MayRefuse (next z) in subst P here may

pub read_after : {X Y : Type 0} (r : Reading X) (x : X) (next : X → Reading Y) (y : Y) → MayRead r x → MayRead (next x) y
    → MayRead (then r next) y
read_after Untold x next y here may = tt
read_after Missing x next y here may = here
read_after Refused x next y here may = here
read_after {X = X} (Read z) x next y here may = let P : X → Type 0 = λ w. MayRead (next w) y in subst P here may

-- what holds of what may be read, where the reading is not refused
pub if_read-may : {X : Type 0} (r : Reading X) (x : X) (P : X → Type 0) → MayRead r x → P x → IfRead r P
if_read-may Untold x P may holds = tt
if_read-may Missing x P may holds = may
if_read-may Refused x P may holds = may
if_read-may (Read y) x P may holds = subst P may holds

-- what is written of a table without its title is written of the table
pub read_untitled : {Y : Type 0} (r : Reading NamedContext) (n : NamedContext) (write : NamedContext → Y) (y : Y)
    → MayRead (untitled_reading r) n → y ≡ write n → MayRead (then r (λ t. Read (write (untitled_context t)))) y
read_untitled Untold n write y here is = tt
read_untitled Missing n write y here is = here
read_untitled Refused n write y here is = here
read_untitled (Read t) n write y here is = is ∙ ap write here
