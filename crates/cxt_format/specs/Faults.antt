-- The description of each fault of a file in the Burmeister form. A row that is too short, in line 9: line 9, `bad row`.
use Rattle.fca_model.specs.Tables.{Text}
use Rattle.fca_model.specs.declared.TheConstants.{NO_MEMORY}
use Rattle.text_pieces.specs.declared.faults.TheConstants.{NOT_UTF8, EMPTY_NAME, LONG_NAME, BAD_NAME, DUPLICATE_ATTRIBUTE, TOO_MANY}
use Rattle.text_pieces.specs.declared.faults.FaultPlace.{FaultPlace}
use Rattle.text_pieces.specs.declared.faults.FaultPlace.TheVariants.{Whole, Byte, Line}
use Rattle.cxt_format.specs.declared.TheConstants.{NOT_B, BAD_COUNT, ENDED, BAD_ROW, TRAILING_TEXT}
use Rattle.cxt_format.specs.declared.CxtFault.{CxtFault}
use Rattle.cxt_format.specs.declared.CxtFault.TheVariants as fault

-- the place of the fault and the words for it
abbrev pub description : CxtFault → FaultPlace × Text
description (fault.NotUtf8 at) = (Byte at, NOT_UTF8.now)
description fault.NotB = (Line 1, NOT_B.now)
description (fault.BadCount line) = (Line line, BAD_COUNT.now)
description (fault.TooMany line) = (Line line, TOO_MANY.now)
description (fault.Ended line) = (Line line, ENDED.now)
description (fault.EmptyName line) = (Line line, EMPTY_NAME.now)
description (fault.LongName line) = (Line line, LONG_NAME.now)
description (fault.BadName line) = (Line line, BAD_NAME.now)
description (fault.DuplicateAttribute line) = (Line line, DUPLICATE_ATTRIBUTE.now)
description (fault.BadRow line) = (Line line, BAD_ROW.now)
description (fault.Trailing line) = (Line line, TRAILING_TEXT.now)
description fault.Memory = (Whole, NO_MEMORY.now)
