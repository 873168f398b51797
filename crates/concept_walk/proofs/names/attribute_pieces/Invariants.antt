use Rattle.std.proofs.Common.{map}
use Rattle.packed_concepts.proofs.PieceLemmas.{AreNames}
use Rattle.concept_walk.proofs.names.attribute_pieces.Given as goal

abbrev pub invariant-loop-attribute : goal.invariant-loop-attribute
invariant-loop-attribute l = AreNames l.table.attributes l.attribute l.blocks.items (map (λ v. v.items) l.tails.items)
