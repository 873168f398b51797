use Rattle.std.proofs.Common.{◌≡◌, ◌&&◌, ◌/◌, ℕ, ltb}
use Rattle.std.specs.List.{list_any}
use Rattle.extent_blocks.specs.Blocks.{in_block, in_column}
use Rattle.extent_blocks.proofs.extent.number_blocks.Given as goal

abbrev pub invariant-loop-number : goal.invariant-loop-number
invariant-loop-number l = (p : ℕ) → list_any (λ x. in_block x.number x.objects p) l.blocks.items
    ≡ (ltb (p / 256) l.number && in_column l.column p)
