use Rattle.std.proofs.Common.{◌≡◌, take}
use Rattle.fca_model.specs.Implications.{premises}
use Rattle.next_level.proofs.ahead.premises_of.Given as goal

abbrev pub invariant-loop-member : goal.invariant-loop-member
invariant-loop-member g l = l.sets ≡ record { width = l.width; rows = premises (take l.member-index l.members) }
