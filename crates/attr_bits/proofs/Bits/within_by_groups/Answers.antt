use Rattle.std.proofs.Common.{◌≡◌, get_or, sym, arith}
use Rattle.attr_bits.proofs.PlaceLemmas.{shown, width_is}
use Rattle.attr_bits.proofs.WordwiseLemmas.{lacking, within_no, within_yes}
use Rattle.attr_bits.proofs.GroupLemmas.{next_group, some_lacking, none_lacking}
use Rattle.attr_bits.proofs.Bits.within_by_groups.Goals as goal

pub loop-group-preserved : goal.loop-group-preserved
loop-group-preserved g c = next_group (λ j. lacking (get_or c.self.inside.words j 0) (get_or c.other.inside.words j 0) ≡ 0)
    c.loop-group.group c.loop-group.invariant
    (none_lacking c.self.inside.words c.other.inside.words c.self.invariant.count c.other.invariant.count c.loop-group.group
    (omega arith) c.group_of.result c.group_of-in-loop-group.result c.group_of.ensures c.group_of-in-loop-group.ensures
    c.if-lacking-ne0.false)

pub returns-then-lacking-ne0 : goal.returns-then-lacking-ne0
returns-then-lacking-ne0 g c =
    let w = some_lacking c.self.inside.words c.other.inside.words c.self.invariant.count c.other.invariant.count c.loop-group.group
    (omega arith) c.group_of.result c.group_of-in-loop-group.result c.group_of.ensures c.group_of-in-loop-group.ensures
    c.if-lacking-ne0.true in
    sym (within_no (shown c.self.invariant c.self.view_is) (shown c.other.invariant c.other.view_is) w.0 w.1)

pub returns : goal.returns
returns g c = sym (within_yes (shown c.self.invariant c.self.view_is) (shown c.other.invariant c.other.view_is)
    (λ k h. c.loop-group.invariant k (omega (
      arith,
      width_is (shown c.self.invariant c.self.view_is),
      c.groups_reached-group-end.ensures.reached,
    ))))
