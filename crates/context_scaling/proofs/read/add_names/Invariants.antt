use Rattle.std.proofs.Common.{◌≡◌, ◌+◌, ◌++◌, All, None, drop, map, take}
use Rattle.fca_model.specs.Tables.{Text}
use Rattle.fca_model.specs.Names.{name_fault}
use Rattle.context_table.specs.Table.{first_repeat}
use Rattle.context_scaling.specs.Scaling.{made_name}
use Rattle.context_scaling.specs.PlanForm as form
use Rattle.context_scaling.proofs.read.add_names.Given as goal

abbrev pub invariant-loop-p : goal.invariant-loop-p
invariant-loop-p l = record {
  says : form.add_names l.i l.attribute l.relation (l.p + 3) l.names.keys (drop l.p l.values)
      ≡ form.add_names l.i l.attribute l.relation 3 l.fn.names.keys l.values;
  names : l.names.keys ≡ l.fn.names.keys ++ map (made_name l.attribute l.relation) (take l.p l.values);
  named : All (λ (name : Text). name_fault name ≡ None) (map (made_name l.attribute l.relation) (take l.p l.values));
  differing : first_repeat l.fn.names.keys ≡ None → first_repeat l.names.keys ≡ None;
}
