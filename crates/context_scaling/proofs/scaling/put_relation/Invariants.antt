use Rattle.std.proofs.Common.{◌≡◌, ◌++◌, map, take}
use Rattle.context_scaling.specs.Scaling.{stands}
use Rattle.context_scaling.proofs.scaling.put_relation.Given as goal

abbrev pub invariant-loop-value : goal.invariant-loop-value
invariant-loop-value l = record {
  width : l.row.width ≡ l.fn.row.width;
  marks : l.row.marks ≡ l.fn.row.marks ++ map (stands l.text l.relation) (take l.value-index l.planned.values);
}
