use Rattle.std.proofs.Common.{◌≡◌, take}
use Rattle.value_tables.specs.Values.{object_at}
use Rattle.context_scaling.specs.Scaling.{object_row}
use Rattle.context_scaling.proofs.scaling.object_row.Given as goal

abbrev pub invariant-loop-planned : goal.invariant-loop-planned
invariant-loop-planned l = record {
  width : l.row.width ≡ l.width;
  marks : l.row.marks ≡ object_row (take l.planned-index l.plan) (object_at l.values l.g);
}
