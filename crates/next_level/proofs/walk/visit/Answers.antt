use Rattle.std.proofs.Common.{◌≤◌, sym, ◌∙◌, arith}
use Rattle.std.proofs.lemmas.Bool.{ltb-false}
use Rattle.lectic_basis.specs.Trees.{before}
use Rattle.next_level.proofs.LevelWalkLemmas.{enter_lower, enter_larger, enter_left, enter_done, enter_closed, enter_open}
use Rattle.next_level.proofs.walk.visit.Goals as goal

pub returns-then-count-seen-clause-done : goal.returns-then-count-seen-clause-done
returns-then-count-seen-clause-done g c = λ e.
    let entered = enter_lower c.requires.visit c.count_visit.new.self.bound c.count_visit.new.self.members.items
    (c.in_ok-count_visit.ensures.listed c.args.rules.now.list.members c.args.indexed.now
    (before c.args.from c.args.a.now) c.requires.visit.listed) in
    enter_larger entered (omega (arith, c.size-count.ensures.size, c.if-count-seen.true))

pub returns-then-eq-clause-left : goal.returns-then-eq-clause-left
returns-then-eq-clause-left g c = λ e.
    let entered = enter_lower c.requires.visit c.count_visit.new.self.bound c.count_visit.new.self.members.items
    (c.in_ok-count_visit.ensures.listed c.args.rules.now.list.members c.args.indexed.now
    (before c.args.from c.args.a.now) c.requires.visit.listed) in
    enter_left entered (enter_closed entered c.requires.closed (sym c.eq.ensures ∙ c.if-eq.true))

pub returns-then-eq-clause-done : goal.returns-then-eq-clause-done
returns-then-eq-clause-done g c = λ e.
    let entered = enter_lower c.requires.visit c.count_visit.new.self.bound c.count_visit.new.self.members.items
    (c.in_ok-count_visit.ensures.listed c.args.rules.now.list.members c.args.indexed.now
    (before c.args.from c.args.a.now) c.requires.visit.listed) in
    let at_most : c.count_visit.new.self.bound ≤ c.size-count.result = ltb-false c.size-count.result c.count_visit.new.self.bound e in
    enter_done entered (enter_closed entered c.requires.closed (sym c.eq.ensures ∙ c.if-eq.true))
    (omega (arith, c.size-count.ensures.size, at_most))

pub returns-clause-left : goal.returns-clause-left
returns-clause-left g c = λ e.
    let entered = enter_lower c.requires.visit c.count_visit.new.self.bound c.count_visit.new.self.members.items
    (c.in_ok-count_visit.ensures.listed c.args.rules.now.list.members c.args.indexed.now
    (before c.args.from c.args.a.now) c.requires.visit.listed) in
    let lower = enter_lower entered c.fall_to.new.self.bound c.fall_to.new.self.members.items
    (c.in_ok-fall_to.ensures.listed c.args.rules.now.list.members c.args.indexed.now (before c.args.from c.args.a.now) entered.listed)
    in
    enter_left lower (enter_open lower c.requires.closed (sym c.eq.ensures ∙ c.if-eq.false)
    (omega (arith, c.size-count.ensures.size, c.in_ok-fall_to.ensures.at_least)) _ c.in_ok-push.ensures.items)

pub returns-clause-done : goal.returns-clause-done
returns-clause-done g c = λ e.
    let entered = enter_lower c.requires.visit c.count_visit.new.self.bound c.count_visit.new.self.members.items
    (c.in_ok-count_visit.ensures.listed c.args.rules.now.list.members c.args.indexed.now
    (before c.args.from c.args.a.now) c.requires.visit.listed) in
    let lower = enter_lower entered c.fall_to.new.self.bound c.fall_to.new.self.members.items
    (c.in_ok-fall_to.ensures.listed c.args.rules.now.list.members c.args.indexed.now (before c.args.from c.args.a.now) entered.listed)
    in
    let at_most : c.fall_to.new.self.bound ≤ c.size-count.result = ltb-false c.size-count.result c.fall_to.new.self.bound e in
    enter_done lower (enter_open lower c.requires.closed (sym c.eq.ensures ∙ c.if-eq.false)
    (omega (arith, c.size-count.ensures.size, c.in_ok-fall_to.ensures.at_least)) _ c.in_ok-push.ensures.items)
    (omega (arith, c.size-count.ensures.size, at_most))
