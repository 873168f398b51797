-- The description of each fault of a file in the CSV form. A third field of the second record that is neither a cross nor a dot:
-- record 2 and field 3, `bad cell`.
use Rattle.fca_model.specs.Tables.{Text}
use Rattle.fca_model.specs.declared.TheConstants.{NO_MEMORY}
use Rattle.text_pieces.specs.declared.faults.TheConstants.{NOT_UTF8, EMPTY_NAME, LONG_NAME, BAD_NAME, DUPLICATE_ATTRIBUTE, NO_HEADER}
use Rattle.text_pieces.specs.declared.faults.TheConstants.{RAGGED, TOO_MANY_ATTRIBUTES}
use Rattle.text_pieces.specs.declared.faults.FaultPlace.{FaultPlace}
use Rattle.text_pieces.specs.declared.faults.FaultPlace.TheVariants.{Whole, Byte, Record, Field}
use Rattle.csv_context.specs.declared.TheConstants.{BAD_CELL, TOO_MANY_OBJECTS}
use Rattle.csv_context.specs.declared.CsvFault.{CsvFault}
use Rattle.csv_context.specs.declared.CsvFault.TheVariants as fault

-- the place of the fault and the words for it
abbrev pub description : CsvFault → FaultPlace × Text
description (fault.NotUtf8 at) = (Byte at, NOT_UTF8.now)
description fault.NoHeader = (Whole, NO_HEADER.now)
description (fault.RaggedRecord n) = (Record n, RAGGED.now)
description (fault.BadCell n field) = (Field n field, BAD_CELL.now)
description (fault.EmptyName n field) = (Field n field, EMPTY_NAME.now)
description (fault.LongName n field) = (Field n field, LONG_NAME.now)
description (fault.BadName n field) = (Field n field, BAD_NAME.now)
description (fault.DuplicateAttribute field) = (Field 1 field, DUPLICATE_ATTRIBUTE.now)
description fault.TooManyAttributes = (Whole, TOO_MANY_ATTRIBUTES.now)
description fault.TooManyObjects = (Whole, TOO_MANY_OBJECTS.now)
description fault.Memory = (Whole, NO_MEMORY.now)
