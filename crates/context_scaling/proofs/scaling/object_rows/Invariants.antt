use Rattle.std.proofs.Common.{◌≡◌, length, map, take}
use Rattle.context_scaling.specs.Scaling.{made_names, object_row}
use Rattle.context_scaling.proofs.scaling.object_rows.Given as goal

abbrev pub invariant-loop-g : goal.invariant-loop-g
invariant-loop-g l = record {
  width : l.rows.width ≡ length (made_names l.plan);
  rows : l.rows.rows ≡ map (object_row l.plan) (take l.g l.values.objects);
}
