-- The stretches so far, and with the concepts of the pages that are left they are all.
use Rattle.std.proofs.Common.{◌≡◌, ◌++◌, length, drop}
use Rattle.std.specs.List.{flat_map}
use Rattle.packed_concepts.specs.Stretches.{concepts_of, Follow}
use Rattle.packed_concepts.proofs.jobs.stretches_of.Given as goal

abbrev pub invariant-loop-page : goal.invariant-loop-page
invariant-loop-page g l = record {
  concepts : concepts_of l.made.items ++ flat_map (λ page. page) (drop l.page-index l.pages) ≡ flat_map (λ page. page) l.pages;
  next : l.next ≡ length (concepts_of l.made.items);
  follow : Follow 0 l.made.items;
}
