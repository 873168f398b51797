use Rattle.std.proofs.Common.{refl, sym, subst}
use Rattle.extent_blocks.specs.Blocks.{IsExtent}
use Rattle.lectic_basis.specs.Steps.{IsFurther}
use Rattle.lectic_basis.specs.declared.tree.Step.{Step}
use Rattle.lectic_basis.proofs.StepLemmas.{tried_told}
use Rattle.lectic_basis.proofs.tree.try_attribute.Goals as goal

pub returns-in-Some : goal.returns-in-Some
returns-in-Some g c =
    let old : Step g.row.W = c.args.step.now in
    let new : Step g.row.W = record {
      intent = old.intent;
      from = old.from;
      end = c.args.i;
      lists = c.visit_child_at.new.lists;
    } in
    let further : IsFurther c.args.indexed.now c.args.i c.visit_child_at.new.found old new =
    record {
      intent = refl;
      from = refl;
      end = refl;
      extent = subst (IsExtent c.args.indexed.now old.intent) (sym c.in_ok-child.ensures.same) c.requires.extent;
      forced = c.in_ok-child.ensures.kept;
    } in
    tried_told {old = old} {new = new} further (rw c.in-Some.is at c.in_ok-child.ensures.below)
    (rw c.in-Some.is at c.in_ok-child.ensures.passed)
    (rw c.in-Some.is at c.in_ok-child.ensures.done) c.step_below.result c.step_below.ensures
