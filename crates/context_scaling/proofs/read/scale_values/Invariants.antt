use Rattle.std.proofs.Common.{◌≡◌, ◌+◌, ◌++◌, None, drop, map}
use Rattle.csv.specs.Records.{fields_of}
use Rattle.value_tables.specs.Form.{first_bad}
use Rattle.context_scaling.specs.PlanForm as form
use Rattle.context_scaling.proofs.read.scale_values.Given as goal

abbrev pub invariant-loop-place : goal.invariant-loop-place
invariant-loop-place l = record {
  values : l.values.items ++ map (form.scale_value l.kind) (drop l.place (fields_of l.fields)) ≡ map (form.scale_value l.kind)
      (drop 2 (fields_of l.fields));
  good : first_bad (form.field_kind l.kind) (l.place + 1) (drop l.place (fields_of l.fields)) ≡ None;
}
