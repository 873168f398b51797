use Rattle.std.proofs.Common.{◌≡◌, ◌+◌, length, drop}
use Rattle.std.specs.List.{flat_map}
use Rattle.packed_concepts.proofs.pages.count_on.Given as goal

abbrev pub invariant-loop-page : goal.invariant-loop-page
invariant-loop-page g l = l.count + length (flat_map (λ page. page) (drop l.page-index l.pages)) ≡ length (flat_map (λ page. page) l.pages)
