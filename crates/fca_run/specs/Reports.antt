-- What a command reports of one table: a text, or a refusal if a word of the command names what is no attribute.
use Rattle.std.specs.Prelude.{Bool, true, false, not, cond}
use Rattle.fca_model.specs.Sets.{Set}
use Rattle.fca_model.specs.Tables.{Text, NamedContext}
use Rattle.fca_model.specs.Pseudo.{basis, covers}
use Rattle.fca_io.specs.Shelves.{Told}
use Rattle.lectic_concepts.specs.Concepts.{concepts}
use Rattle.direct_basis.specs.Direct.{direct}
use Rattle.context_reduce.specs.Reduce.{irreducible_objects, irreducible_attributes, table_part}
use Rattle.context_reduce.specs.Arrows.{arrow_table}
use Rattle.context_reduce.specs.Texts.{arrows_text}
use Rattle.cxt_format.specs.Written.{cxt_text}
use Rattle.csv_context.specs.Written.{csv_text}
use Rattle.json_reports.specs.Json.{concepts_json, basis_json}
use Rattle.report_texts.specs.Reports.{concepts_text, lattice_text, basis_text, direct_text}
use Rattle.basis_report.specs.Verdicts.{follows_text}
use Rattle.fca_command.specs.Attributes.{attribute_set}
use Rattle.fca_command.specs.declared.command.Command.{Command}
use Rattle.fca_command.specs.declared.command.Command.TheVariants.{Concepts, Lattice, Basis, Direct, Follows, Convert, Reduce, Arrows}
use Rattle.fca_command.specs.declared.command.Form.{Form}
use Rattle.fca_command.specs.declared.command.Form.TheVariants.{Cxt, Csv}
use Rattle.command_io.specs.Readings.{Reading, then, if_some}
use Rattle.command_io.specs.Readings.Reading.{Refused, Read}
use Rattle.command_io.specs.Forms.{table_read}
use Rattle.command_io.specs.Endings.{Output, finished}

-- the concepts, as JSON or as a list
abbrev pub table_concepts_text : Bool → NamedContext → Text
table_concepts_text json table = cond json (concepts_json table (concepts table.context)) (concepts_text table (concepts table.context))

abbrev pub table_lattice_text : NamedContext → Text
table_lattice_text table = lattice_text table (concepts table.context) (covers table.context)

-- the basis, as JSON or as a list
abbrev pub table_basis_text : Bool → NamedContext → Text
table_basis_text json table = cond json (basis_json table.attributes (basis table.context)) (basis_text table.attributes (basis table.context))

-- the direct basis
abbrev pub table_direct_text : NamedContext → Text
table_direct_text table = direct_text table.attributes (direct table.context)

-- whether the implication from P to C holds
abbrev pub table_verdict : Set → Set → NamedContext → Text
table_verdict P C table = follows_text table (basis table.context) P C

-- the attributes of the table that a word names
abbrev pub attributes_read : NamedContext → Text → Reading Set
attributes_read table word = if_some (attribute_set table.attributes word)

-- whether the implication between the attributes that two words name holds
abbrev pub verdict_read : Text → Text → NamedContext → Reading Text
verdict_read premise conclusion table =
    then (attributes_read table premise) (λ P.
    then (attributes_read table conclusion) (λ C.
    Read (table_verdict P C table)))

abbrev pub converted_text : Form → NamedContext → Text
converted_text Cxt table = cxt_text table
converted_text Csv table = csv_text table

-- the table of the irreducible objects and attributes
abbrev pub reduced_text : NamedContext → Text
reduced_text table = cxt_text (table_part table (irreducible_objects table.context) (irreducible_attributes table.context))

-- the arrows between its objects and attributes
abbrev pub table_arrows_text : NamedContext → Text
table_arrows_text table = arrows_text table (arrow_table table.context)

-- whether the command reads its table with rows as narrow as it is
abbrev pub reads_narrow : Command → Bool
reads_narrow (Concepts file json) = not json
reads_narrow (Lattice file) = true
reads_narrow (Basis file json) = not json
reads_narrow _ = false

-- what the command reports of the table, if it reports on a table
abbrev pub table_report : Command → NamedContext → Reading Text
table_report (Concepts file json) table = Read (table_concepts_text json table)
table_report (Lattice file) table = Read (table_lattice_text table)
table_report (Basis file json) table = Read (table_basis_text json table)
table_report (Direct file) table = Read (table_direct_text table)
table_report (Follows file premise conclusion) table = verdict_read premise conclusion table
table_report (Convert file to) table = Read (converted_text to table)
table_report (Reduce file) table = Read (reduced_text table)
table_report (Arrows file) table = Read (table_arrows_text table)
table_report _ table = Refused

-- what the command reports of the table in the file
abbrev pub report_output : Command → Text → (Text → Told) → Reading Output
report_output command file tells =
    then (table_read file (tells file)) (λ table. then (table_report command table) (λ text. Read (finished text)))
