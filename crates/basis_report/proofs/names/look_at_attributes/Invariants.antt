use Rattle.std.proofs.Common.{drop}
use Rattle.text_pieces.specs.Lists.{EachName}
use Rattle.basis_report.proofs.names.look_at_attributes.Given as goal

abbrev pub invariant-loop-attribute : goal.invariant-loop-attribute
invariant-loop-attribute l = EachName (drop l.attribute l.table.attributes) → EachName l.table.attributes
