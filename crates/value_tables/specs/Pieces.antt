-- The pieces of a short line, as they are kept.
use Rattle.std.specs.Prelude.{◌≡◌, ◌<◌, ◌≤◌, length, sum, take}
use Rattle.fca_model.specs.Tables.{Text}
use Rattle.csv_context.specs.Lines.{fields_in}
use Rattle.value_tables.specs.Cells.{cut}
use Rattle.value_tables.specs.declared.pieces.Pieces.{Pieces}

-- the pieces are the fields of the line, and their lengths make up their text
pub record ArePieces (line : Text) (pieces : Pieces) : Type 0 where
  pub fields : cut (take pieces.count pieces.lengths) (take pieces.end pieces.text) ≡ fields_in line
  pub whole : sum (take pieces.count pieces.lengths) ≡ length (take pieces.end pieces.text)
  pub within : pieces.end ≤ 255
  pub some : 0 < pieces.count
  pub few : pieces.count ≤ 256
