use Rattle.std.proofs.Common.{◌-◌, ◌∙◌, arith}
use Rattle.next_level.specs.LevelWalks.{IsTrying}
use Rattle.next_level.proofs.LevelWalkLemmas.{trying, level_then, steady_then, among_from}
use Rattle.next_level.proofs.walk.next_child.Goals as goal

pub child_at-requires : goal.child_at-requires
child_at-requires g c =
    let step = c.args.step.now in
    let s = c.requires in
    let found = c.loop-i.invariant.found in
    let i = c.loop-i.i - 1 in
    let among = among_from c.args.rules.now.list c.loop-i.rules.list c.args.indexed.now step.set step.from i step.among.whole
    step.among.sets.items found.list
    (omega (arith, c.loop-i-test.true)) s.among in
    let tried : IsTrying c.args.indexed.now step.set i c.loop-i.rules c.loop-i.seen.bound c.loop-i.seen.members.items =
    trying s.at (omega (arith, s.inside, c.loop-i.invariant.before_end)) found (omega (arith, c.loop-i-test.true))
    (omega (arith, c.loop-i-test.true)) in
    (omega arith, (omega arith, (omega arith, (omega (arith, c.width-width.ensures.words), (omega arith, (tried, (among, s.extent)))))))

pub loop-i-preserved : goal.loop-i-preserved
loop-i-preserved g c = record {
  from_on = omega (arith, c.loop-i-test.true);
  before_end = omega (arith, c.loop-i.invariant.before_end);
  found = level_then c.loop-i.invariant.found (rw c.in_default.is at c.in_ok-set.ensures.done);
  steady = steady_then c.loop-i.invariant.steady c.in_ok-set.ensures.steady;
}

pub returns-in-Some-clause-child : goal.returns-in-Some-clause-child
returns-in-Some-clause-child g c = record {
  left = rw c.in-Some.is at c.in_ok-set.ensures.left;
  list = c.in_ok-set.ensures.list ∙ c.loop-i.invariant.found.list;
  done = λ H d Ms h. level_then c.loop-i.invariant.found ((rw c.in-Some.is at c.in_ok-set.ensures.done) H d Ms h);
}

pub returns-in-Some-clause-below : goal.returns-in-Some-clause-below
returns-in-Some-clause-below g c = record {
  order = omega (arith, c.loop-i-test.true);
  before_end = omega (arith, c.loop-i-test.true, c.loop-i.invariant.before_end);
  lacks = rw c.in-Some.is at c.in_ok-set.ensures.lacks;
  larger = rw c.in-Some.is at c.in_ok-set.ensures.larger;
  agree = rw c.in-Some.is at c.in_ok-set.ensures.agree;
}

pub returns-in-Some-clause-steady : goal.returns-in-Some-clause-steady
returns-in-Some-clause-steady g c = steady_then c.loop-i.invariant.steady c.in_ok-set.ensures.steady
