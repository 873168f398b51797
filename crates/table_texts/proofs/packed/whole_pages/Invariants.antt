-- The concepts so far, and those of the gatherings still to come, are all.
use Rattle.std.proofs.Common.{◌≡◌, ◌++◌, true, All, map}
use Rattle.std.specs.Vec.Iter.{into_iter_items}
use Rattle.table_texts.proofs.packed.whole_pages.Given as goal

abbrev pub invariant-loop-gathering : goal.invariant-loop-gathering
invariant-loop-gathering g l = record {
  whole : All (λ gathering. gathering.whole ≡ true) (into_iter_items l.gathering-iterator) → All (λ gathering. gathering.whole ≡ true) l.fn.gatherings.items;
  concepts : l.made.items ++ map (λ gathering. gathering.concepts) (into_iter_items l.gathering-iterator) ≡ map (λ gathering. gathering.concepts) l.fn.gatherings.items;
}
