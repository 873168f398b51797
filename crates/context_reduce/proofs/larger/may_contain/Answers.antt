use Rattle.std.proofs.Common.{◌≡◌, ◌∙◌, ◌<◌, true, false, length, map, replicate, subst, sym, ap, arith}
use Rattle.fca_model.specs.Sets.{Set, within, meet, full}
use Rattle.fca_model.specs.Context.{Context}
use Rattle.fca_model.proofs.SetLemmas.{within_trans}
use Rattle.context_reduce.specs.Reduce.{column}
use Rattle.context_reduce.proofs.BlockLemmas.{column_read, found_in_all, found_in_column, found_in_none}
use Rattle.context_reduce.proofs.larger.may_contain.Goals as goal

pub loop-m-init : goal.loop-m-init
loop-m-init g c =
    let X : Set = c.args.set.now in
    record {
      in_range = omega arith;
      found = λ B e. ap (within (map (within X) B.rows))
          (c.full-left.ensures ∙ ap full (c.width-count.ensures.width ∙ ap (λ (C : Context). C.width) e)) ∙ found_in_all X B.rows;
    }

pub returns-then-within : goal.returns-then-within
returns-then-within g c = λ B e answer.
    let X : Set = c.args.set.now in
    let m = c.in-Some.m in
    let inside : m < length c.args.columns.now.rows = omega (arith, c.in-Some.ensures.in_range, c.requires) in
    let is : c.meet-left.result ≡ meet c.loop-m.left (column B m) = c.meet-left.ensures
    ∙ ap (meet c.loop-m.left) (column_read B c.args.columns.now m c.get.result e inside c.get.ensures.row) in
    let found = found_in_column X B m c.loop-m.left c.meet-left.result c.in-Some.ensures.member (c.loop-m.invariant.found B e) is in
    let none = subst (λ (Z : Set). within c.meet-left.result Z ≡ true) c.empty-none.ensures (sym c.within.ensures ∙ c.if-within.true) in
    found_in_none X B.rows c.width-count.result (within_trans (map (within X) B.rows) c.meet-left.result
    (replicate c.width-count.result false) found none)

pub overflow_add-from : goal.overflow_add-from
overflow_add-from g c = omega (arith, c.in-Some.ensures.in_range, c.width-width.ensures.width, c.width-width.type_inv)

pub loop-m-preserved : goal.loop-m-preserved
loop-m-preserved g c = record {
  in_range = omega (arith, c.in-Some.ensures.in_range);
  found = λ B e.
      let m = c.in-Some.m in
      let inside : m < length c.args.columns.now.rows = omega (arith, c.in-Some.ensures.in_range, c.requires) in
      found_in_column c.args.set.now B m c.loop-m.left c.meet-left.result c.in-Some.ensures.member (c.loop-m.invariant.found B e)
      (c.meet-left.ensures ∙ ap (meet c.loop-m.left) (column_read B c.args.columns.now m c.get.result e inside c.get.ensures.row));
}
