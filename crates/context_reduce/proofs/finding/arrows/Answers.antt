use Rattle.std.proofs.Common.{◌∙◌, map, ap, arith}
use Rattle.std.specs.List.{range_with_len}
use Rattle.context_reduce.specs.Arrows.{arrow_at, arrow_table}
use Rattle.context_reduce.proofs.ArrowLemmas.{lists_more, arrows_is, arrows_wide, arrows_tell}
use Rattle.context_reduce.proofs.finding.arrows.Goals as goal

pub loop-g-preserved : goal.loop-g-preserved
loop-g-preserved c =
    let R = c.rows-rows.result.now in
    lists_more (λ g. map (arrow_at R g) (range_with_len 0 R.width)) c.loop-g.g c.loop-g.lists.items c.push.new.self.items
    c.in_ok-arrows_of_object.field-0 c.loop-g.invariant c.in_ok-arrows_of_object.ensures c.in_ok-push.ensures.items

pub returns-clause-arrows : goal.returns-clause-arrows
returns-clause-arrows c =
    let R = c.rows-rows.result.now in
    c.of.ensures ∙ arrows_is R c.loop-g.g _ c.loop-g.invariant
    (omega (arith, c.len-g-end.ensures, c.loop-g-test.false, c.loop-g.auto.g-end)) ∙ ap arrow_table c.rows-rows.ensures.rows

pub returns-clause-wide : goal.returns-clause-wide
returns-clause-wide c = arrows_wide c.args.table.now.context c.of.result (returns-clause-arrows c)

pub returns-clause-irreducible : goal.returns-clause-irreducible
returns-clause-irreducible c = arrows_tell c.args.table.now.context c.of.result (returns-clause-arrows c) c.rows-rows.ensures.table.even
