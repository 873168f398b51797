use Rattle.std.proofs.Common.{map}
use Rattle.packed_concepts.proofs.PieceLemmas.{AreNames}
use Rattle.concept_walk.proofs.names.object_pieces.Given as goal

abbrev pub invariant-loop-object : goal.invariant-loop-object
invariant-loop-object l = AreNames l.objects l.object-index l.blocks.items (map (λ v. v.items) l.tails.items)
