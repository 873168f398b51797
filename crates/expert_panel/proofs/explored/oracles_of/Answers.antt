use Rattle.std.proofs.Common.{◌≤◌, length, sym, subst, arith, All}
use Rattle.std.proofs.lemmas.List.Elements.{All-push}
use Rattle.std.proofs.lemmas.Grind.{common_steps}
use Rattle.fca_model.specs.declared.TheConstants.{MAX_OBJECTS}
use Rattle.fca_model.specs.Tables.{NamedContext}
use Rattle.context_table.specs.Table.{IsTable}
use Rattle.expert_panel.specs.Explorations.{HasFewRows, HasEvenRows}
use Rattle.expert_panel.proofs.explored.oracles_of.Goals as goal

few_rows : (D : NamedContext) → IsTable D → length D.context.rows ≤ MAX_OBJECTS
few_rows D is =
    let each = is.each_object in
    let few = is.few_objects in
    omega arith

pub loop-table-preserved : goal.loop-table-preserved
loop-table-preserved c =
    let oracle = c.in_ok-oracle.oracle in
    let table : IsTable oracle.table = subst IsTable c.table.ensures.table c.rows-rows.ensures.table in
    let small : HasFewRows oracle = few_rows oracle.table table in
    let even : HasEvenRows oracle = table.even in
    record {
      untold = grind (arith, common_steps);
      few = subst (All HasFewRows) (sym c.in_ok-push.ensures.items)
          (All-push HasFewRows c.loop-table.oracles.items oracle c.loop-table.invariant.few small);
      even = subst (All HasEvenRows) (sym c.in_ok-push.ensures.items)
          (All-push HasEvenRows c.loop-table.oracles.items oracle c.loop-table.invariant.even even);
    }
