-- The description of each fault of a script.
use Rattle.fca_model.specs.Tables.{Text}
use Rattle.fca_model.specs.declared.TheConstants.{NO_MEMORY}
use Rattle.text_pieces.specs.declared.faults.TheConstants.{BAD_LINE, BAD_WIDTH}
use Rattle.text_pieces.specs.declared.faults.FaultPlace.{FaultPlace}
use Rattle.text_pieces.specs.declared.faults.FaultPlace.TheVariants.{Whole, Line}
use Rattle.expert_scripts.specs.declared.fault.TheConstants.{BAD_EXPERT, BAD_HOLDERS}
use Rattle.expert_scripts.specs.declared.fault.ScriptFault.{ScriptFault}
use Rattle.expert_scripts.specs.declared.fault.ScriptFault.TheVariants as fault

-- the place of the fault and the words for it
abbrev pub description : ScriptFault → FaultPlace × Text
description (fault.BadLine line) = (Line line, BAD_LINE.now)
description (fault.BadExpert line) = (Line line, BAD_EXPERT.now)
description (fault.BadWidth line) = (Line line, BAD_WIDTH.now)
description (fault.BadHolders line) = (Line line, BAD_HOLDERS.now)
description fault.Memory = (Whole, NO_MEMORY.now)
