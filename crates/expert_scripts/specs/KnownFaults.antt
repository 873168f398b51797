-- The description of each fault of a known file.
use Rattle.fca_model.specs.Tables.{Text}
use Rattle.fca_model.specs.declared.TheConstants.{NO_MEMORY}
use Rattle.text_pieces.specs.declared.faults.TheConstants.{BAD_LINE, BAD_WIDTH}
use Rattle.text_pieces.specs.declared.faults.FaultPlace.{FaultPlace}
use Rattle.text_pieces.specs.declared.faults.FaultPlace.TheVariants.{Whole, Line}
use Rattle.expert_scripts.specs.declared.known_fault.KnownFault.{KnownFault}
use Rattle.expert_scripts.specs.declared.known_fault.KnownFault.TheVariants as fault

-- the place of the fault and the words for it
abbrev pub description : KnownFault → FaultPlace × Text
description (fault.BadLine line) = (Line line, BAD_LINE.now)
description (fault.BadWidth line) = (Line line, BAD_WIDTH.now)
description fault.Memory = (Whole, NO_MEMORY.now)
