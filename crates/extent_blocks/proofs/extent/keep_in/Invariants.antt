use Rattle.std.proofs.Common.{◌≡◌, ◌&&◌, ℕ, take}
use Rattle.std.specs.List.{list_any}
use Rattle.extent_blocks.specs.Blocks.{in_block, in_column}
use Rattle.extent_blocks.proofs.extent.keep_in.Given as goal

abbrev pub invariant-loop-block : goal.invariant-loop-block
invariant-loop-block l = (p : ℕ) → list_any (λ x. in_block x.number x.objects p) l.kept.items
    ≡ (list_any (λ x. in_block x.number x.objects p) (take l.block-index l.blocks) && in_column l.column p)
