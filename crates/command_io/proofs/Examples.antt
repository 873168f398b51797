-- Lines on err, letter by letter: one for each kind of place, and those of want of memory, of a file of too many objects, and of turns that
-- are spent.
use Rattle.std.proofs.Common.{◌≡◌, ◌++◌, ℕ, Some, append_assoc, refl}
use Rattle.std.specs.Prelude.{codes, decimal}
use Rattle.expert_wire.specs.Texts.{line_end}
use Rattle.cxt_format.specs.declared.CxtFault.TheVariants as cxt
use Rattle.csv_context.specs.declared.CsvFault.TheVariants as csv
use Rattle.command_io.specs.ErrLines.{stop_line, ending_line}
use Rattle.command_io.specs.declared.output.Ending.TheVariants.{Spent}
use Rattle.command_io.specs.declared.stop.Origin.TheVariants.{File}
use Rattle.command_io.specs.declared.stop.Stop.TheVariants.{NoCxt, NoCsv, Memory}

of_no_file : stop_line (codes "F") Memory ≡ codes "fca: no memory" ++ line_end
of_no_file = refl

of_a_file : stop_line (codes "F") (NoCsv File csv.TooManyObjects) ≡ codes "fca: F: too many objects" ++ line_end
of_a_file = refl

of_a_byte : (n : ℕ) → stop_line (codes "F") (NoCxt File (cxt.NotUtf8 n)) ≡ codes "fca: F: byte " ++ decimal n ++ codes ": not UTF-8" ++ line_end
of_a_byte n = simp append_assoc

of_a_line : (n : ℕ) → stop_line (codes "F") (NoCxt File (cxt.BadRow n)) ≡ codes "fca: F: line " ++ decimal n ++ codes ": bad row" ++ line_end
of_a_line n = simp append_assoc

of_a_record : (n : ℕ) → stop_line (codes "F") (NoCsv File (csv.RaggedRecord n)) ≡ codes "fca: F: record " ++ decimal n ++ codes ": ragged" ++ line_end
of_a_record n = simp append_assoc

of_a_field : (n k : ℕ) → stop_line (codes "F") (NoCsv File (csv.BadCell n k))
    ≡ codes "fca: F: record " ++ decimal n ++ codes ": field " ++ decimal k ++ codes ": bad cell" ++ line_end
of_a_field n k = simp append_assoc

of_spent_turns : ending_line Spent ≡ Some (codes "fca: turns spent" ++ line_end)
of_spent_turns = refl
