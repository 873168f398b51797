use Rattle.std.proofs.Common.{◌≡◌, map, length, option_copied}
use Rattle.text_pieces.specs.Blanks.{trim}
use Rattle.fca_command.specs.Attributes.{attribute_set, later_parts, with_named}
use Rattle.fca_command.proofs.attributes.attribute_set.Given as goal

abbrev pub invariant-loop-rest : goal.invariant-loop-rest
invariant-loop-rest l =
    (length l.said ≡ length l.table.attributes)
    × (with_named l.table.attributes l.said (map trim (later_parts (option_copied l.rest))) ≡ attribute_set l.table.attributes l.fn.word)

abbrev pub decreases-loop-rest : goal.decreases-loop-rest
decreases-loop-rest l = length (later_parts (option_copied l.rest))
