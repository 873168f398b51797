-- What is known of a table is read behind the table, and the shelf tells the same then.
use Rattle.std.proofs.Common.{◌≡◌, ◌≤◌, ℕ, List, Option, Some, None, inl, inr, refl, ap, subst, arith}
use Rattle.fca_model.specs.Tables.{Text, NamedContext}
use Rattle.fca_model.specs.Implications.{Rule}
use Rattle.fca_io.specs.Faults.{Rose}
use Rattle.fca_io.specs.Shelves.{Told}
use Rattle.explore_state.specs.Faults.{first_break}
use Rattle.command_io.specs.Readings.{Reading, then, MayRead, MayRefuse, Rises}
use Rattle.command_io.specs.Readings.Reading.{Refused, Read}
use Rattle.command_io.specs.Forms.{table_read}
use Rattle.command_io.specs.Known.{unbroken, if_respected, known_file_read, known_read, Start, start_read, IsImplicationsStop, IsKnownFileStop}
use Rattle.command_io.specs.Known.{IsKnownStop}
use Rattle.command_io.specs.declared.stop.Stop.{Stop}
use Rattle.command_io.specs.declared.stop.Stop.TheVariants.{ReadFault}
use Rattle.command_io.proofs.ReadingLemmas.{refused_then, refused_after, read_after}

-- ---- rows that break nothing

pub if_respected-unbroken : (table : NamedContext) (S : List Rule) → first_break S 0 table.context.rows ≡ None → if_respected table S ≡ Read S
if_respected-unbroken table S none = ap (λ m. unbroken m S) none

pub if_respected-broken : (table : NamedContext) (S : List Rule) (found : ℕ × ℕ) → first_break S 0 table.context.rows ≡ Some found
    → if_respected table S ≡ Refused
if_respected-broken table S found broken = ap (λ m. unbroken m S) broken

-- ---- the shelf tells the same later

pub known_read-same : (known : Option Text) (table : NamedContext) (tells now : Text → Told) → ((other : Text) → now other ≡ tells other)
    → known_read known table now ≡ known_read known table tells
known_read-same None table tells now same = refl
known_read-same (Some file) table tells now same = ap (known_file_read table) (same file)

-- ---- counts of faults

pub Rose-between : (a b c d : ℕ) → a ≤ b → Rose b c → c ≤ d → Rose a d
Rose-between a b c d before rose after = omega arith

pub Rises-before : (counts between after : Text → ℕ) (file : Text) → ((other : Text) → counts other ≤ between other)
    → Rises between after file → Rises counts after file
Rises-before counts between after file later rose =
    Rose-between (counts file) (between file) (after file) (after file) (later file) rose (omega arith)

-- ---- a file is at fault where a count rose for it

IsImplicationsStop-more : (n : ℕ) (told : Told) (rose rose' : Type 0) (s : Stop) → (rose → rose') → IsImplicationsStop n told rose s
    → IsImplicationsStop n told rose' s
IsImplicationsStop-more n told rose rose' (ReadFault at) more is = (is.0, more is.1)
IsImplicationsStop-more n told rose rose' _ more is = is

IsKnownFileStop-more : (table : NamedContext) (told : Told) (rose rose' : Type 0) (s : Stop) → (rose → rose')
    → IsKnownFileStop table told rose s → IsKnownFileStop table told rose' s
IsKnownFileStop-more table told rose rose' s more (inl said) = inl (IsImplicationsStop-more table.context.width told rose rose' s more said)
IsKnownFileStop-more table told rose rose' s more (inr broken) = inr broken

-- the shelf tells the same later, and a count that rose since then rose since before
pub IsKnownStop-same : (known : Option Text) (table : NamedContext) (tells now : Text → Told) (rises rises' : Text → Type 0) (s : Stop)
    → ((other : Text) → now other ≡ tells other)
    → ((other : Text) → rises other → rises' other) → IsKnownStop known table now rises s → IsKnownStop known table tells rises' s
IsKnownStop-same None table tells now rises rises' s same more is = is
IsKnownStop-same (Some file) table tells now rises rises' s same more is =
    let P : Told → Type 0 = λ told. IsKnownFileStop table told (rises' file) s in
    subst P (same file) (IsKnownFileStop-more table (now file) (rises file) (rises' file) s (more file) is)

-- ---- a table and what is known of it

pub start-read : (file : Text) (known : Option Text) (tells now : Text → Told) (table : NamedContext) (S : List Rule)
    → MayRead (table_read file (tells file)) table
    → ((other : Text) → now other ≡ tells other) → MayRead (known_read known table now) S
    → MayRead (start_read file known tells) (record { table = table; known = S })
start-read file known tells now table S here same may =
    let start : Start = record { table = table; known = S } in
    let P : Reading (List Rule) → Type 0 = λ r. MayRead r S in
    read_after (table_read file (tells file)) table
    (λ t. then (known_read known t tells) (λ R. Read (record { table = t; known = R }))) start here
    (read_after (known_read known table tells) S (λ R. Read (record { table = table; known = R })) start
    (subst P (known_read-same known table tells now same) may) refl)

pub refused-start : (file : Text) (known : Option Text) (tells now : Text → Told) (table : NamedContext)
    → MayRead (table_read file (tells file)) table
    → ((other : Text) → now other ≡ tells other) → MayRefuse (known_read known table now) → MayRefuse (start_read file known tells)
refused-start file known tells now table here same may =
    let P : Reading (List Rule) → Type 0 = λ r. MayRefuse r in
    refused_after (table_read file (tells file)) table
    (λ t. then (known_read known t tells) (λ R. Read (record { table = t; known = R }))) here
    (refused_then (known_read known table tells) (λ R. Read (record { table = table; known = R }))
    (subst P (known_read-same known table tells now same) may))
