use Rattle.std.proofs.Common.{take}
use Rattle.table_texts.specs.Joined.{AreJoined}
use Rattle.table_texts.proofs.attribute_names.join_names.Given as goal

abbrev pub invariant-loop-attribute : goal.invariant-loop-attribute
invariant-loop-attribute l = AreJoined (take l.attribute l.table.attributes) l.text.items l.starts.items
