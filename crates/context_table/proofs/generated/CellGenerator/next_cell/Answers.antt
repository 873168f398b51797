use Rattle.std.proofs.Common.{◌*◌, ◌^◌, refl}
use Rattle.std.proofs.Math.Nat.{mod-add-mod}
use Rattle.context_table.specs.Generated.{next_state}
use Rattle.context_table.proofs.generated.CellGenerator.next_cell.Goals as goal

pub returns-clause-state : goal.returns-clause-state
unfolding next_state
returns-clause-state c = mod-add-mod (c.args.self.now.state * 6364136223846793005) (2 ^ 64) 1442695040888963407

pub returns-clause-cross : goal.returns-clause-cross
returns-clause-cross c = rw c.from.ensures refl
