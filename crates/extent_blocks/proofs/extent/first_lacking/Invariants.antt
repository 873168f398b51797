use Rattle.std.proofs.Common.{◌≡◌, ℕ, true, take}
use Rattle.std.specs.List.{list_any}
use Rattle.extent_blocks.specs.Blocks.{in_block, in_column}
use Rattle.extent_blocks.proofs.extent.first_lacking.Given as goal

abbrev pub invariant-loop-block : goal.invariant-loop-block
invariant-loop-block l = (p : ℕ) → list_any (λ x. in_block x.number x.objects p) (take l.block-index l.blocks) ≡ true
    → in_column l.having p ≡ true → in_column l.lacking p ≡ true
