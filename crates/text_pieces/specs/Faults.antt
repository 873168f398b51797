-- The description of a fault in a text: its place and its words. A row that is too short, in line 9, gives `line 9: bad row`.
use Rattle.std.specs.Prelude.{◌++◌, decimal, codes, []}
use Rattle.fca_model.specs.Tables.{Text}
use Rattle.text_pieces.specs.declared.faults.FaultPlace.{FaultPlace}
use Rattle.text_pieces.specs.declared.faults.FaultPlace.TheVariants.{Whole, Byte, Line, Record, Field}

-- the text of a place, which stands before the words
abbrev pub place_text : FaultPlace → Text
place_text Whole = []
place_text (Byte n) = codes "byte " ++ decimal n ++ codes ": "
place_text (Line n) = codes "line " ++ decimal n ++ codes ": "
place_text (Record n) = codes "record " ++ decimal n ++ codes ": "
place_text (Field n k) = codes "record " ++ decimal n ++ codes ": field " ++ decimal k ++ codes ": "

-- the text of a description: the place and then the words
abbrev pub description_text : FaultPlace × Text → Text
description_text description = place_text description.0 ++ description.1
