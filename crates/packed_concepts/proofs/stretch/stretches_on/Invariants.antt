-- The stretches so far, and with the concepts that are left they are all of the page.
use Rattle.std.proofs.Common.{◌≡◌, ◌+◌, ◌^◌, ◌<◌, ◌++◌, length}
use Rattle.packed_concepts.specs.Packing.{total, unpacked}
use Rattle.packed_concepts.specs.Stretches.{concepts_of, Follow}
use Rattle.packed_concepts.proofs.stretch.stretches_on.Given as goal

abbrev pub invariant-loop-packed : goal.invariant-loop-packed
invariant-loop-packed g l = record {
  fits : total l.packed ≡ length l.places;
  small : total l.packed < 2 ^ 64;
  concepts : concepts_of l.made.items ++ unpacked l.packed l.places ≡ l.page;
  next : l.next ≡ l.first + length (concepts_of l.made.items);
  follow : Follow l.first l.made.items;
}

abbrev pub decreases-loop-packed : goal.decreases-loop-packed
decreases-loop-packed g l = length l.packed
