use Rattle.std.proofs.Common.{◌≡◌, take}
use Rattle.packed_concepts.specs.Packing.{total}
use Rattle.packed_concepts.proofs.stretch.first_cut.Given as goal

abbrev pub invariant-loop-one : goal.invariant-loop-one
invariant-loop-one g l = record {
  concepts : l.cut.concepts ≡ l.one-index;
  objects : l.cut.objects ≡ total (take l.one-index l.packed);
}
