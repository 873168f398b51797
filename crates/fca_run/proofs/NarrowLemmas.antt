-- What a command reports of a table, where its title is not kept.
use Rattle.std.proofs.Common.{◌≡◌, true, false}
use Rattle.fca_model.specs.Tables.{NamedContext}
use Rattle.fca_command.specs.declared.command.Command.{Command}
use Rattle.fca_command.specs.declared.command.Command.TheVariants.{Concepts, Lattice, Basis}
use Rattle.command_io.specs.Readings.{Reading, then, MayRead}
use Rattle.command_io.specs.Readings.Reading.{Read}
use Rattle.command_io.specs.Untitled.{untitled_reading}
use Rattle.command_io.specs.Endings.{Output, finished}
use Rattle.command_io.proofs.ReadingLemmas.{read_untitled}
use Rattle.fca_run.specs.Reports.{reads_narrow, table_report, table_concepts_text, table_lattice_text, table_basis_text}

-- the texts that are made of narrow tables say nothing of a title
pub report_untitled : (command : Command) (r : Reading NamedContext) (n : NamedContext) (y : Output) → reads_narrow command ≡ true
    → MayRead (untitled_reading r) n → MayRead (then (table_report command n) (λ text. Read (finished text))) y
    → MayRead (then r (λ t. then (table_report command t) (λ text. Read (finished text)))) y
report_untitled (Concepts file false) r n y narrow here is = read_untitled r n (λ t. finished (table_concepts_text false t)) y here is
report_untitled (Lattice file) r n y narrow here is = read_untitled r n (λ t. finished (table_lattice_text t)) y here is
report_untitled (Basis file false) r n y narrow here is = read_untitled r n (λ t. finished (table_basis_text false t)) y here is
report_untitled _ r n y narrow here is = absurd cc
