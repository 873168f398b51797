use Rattle.std.proofs.Common.{sym, ◌∙◌, arith}
use Rattle.next_level.proofs.LevelWalkLemmas.{left_passed, left_member, left_can_close, left_none, left_above, left_wide, left_entered}
use Rattle.next_level.proofs.LevelWalkLemmas.{left_done, enter_larger, steady_same}
use Rattle.next_level.proofs.walk.child_at.Goals as goal

pub returns-then-skips-clause-done : goal.returns-then-skips-clause-done
returns-then-skips-clause-done g c = left_passed c.args.indexed.now c.args.step.now.set c.args.i c.args.rules.now c.args.seen.now.bound
    c.args.seen.now.members.items c.args.step.now.among.whole c.args.step.now.among.sets.items c.requires.trying c.requires.among
    (sym c.has.ensures ∙ c.if-has.false) (sym c.skips.ensures ∙ c.if-skips.true)

pub returns-then-skips-clause-steady : goal.returns-then-skips-clause-steady
returns-then-skips-clause-steady g c = steady_same

pub returns-then-has-clause-done : goal.returns-then-has-clause-done
returns-then-has-clause-done g c = left_member c.requires.trying (sym c.has.ensures ∙ c.if-has.true)

pub close-requires : goal.close-requires
close-requires g c = (
  omega arith,
  (
    omega (arith, c.width-width.ensures.words),
    left_can_close c.requires.trying (sym c.has.ensures ∙ c.if-has.false) c.with-reached.ensures,
  ),
)

pub returns-then-not-branch-clause-done : goal.returns-then-not-branch-clause-done
returns-then-not-branch-clause-done g c = left_none c.requires.trying
    (sym c.has.ensures ∙ c.if-has.false) c.with-reached.ensures c.in_ok-close.ensures.moved
    (c.in_ok-close.ensures.differs c.if-not-branch.true)

pub returns-then-size-seen-clause-done : goal.returns-then-size-seen-clause-done
returns-then-size-seen-clause-done g c =
    let lacks = sym c.has.ensures ∙ c.if-has.false in
    let closed = c.in_ok-close.ensures.closure c.if-not-branch.false in
    left_done c.requires.trying lacks c.with-reached.ensures c.in_ok-close.ensures.moved closed
    (enter_larger (left_entered c.requires.trying lacks c.with-reached.ensures c.in_ok-close.ensures.moved closed)
    (omega (arith, c.size.ensures.size, c.if-size-seen.true)))

pub closure_by_extent-closed-requires : goal.closure_by_extent-closed-requires
closure_by_extent-closed-requires g c =
    let lacks = sym c.has.ensures ∙ c.if-has.false in
    let closed = c.in_ok-close.ensures.closure c.if-not-branch.false in (
      omega arith,
      (
        omega (arith, c.width-width.ensures.words),
        (
          c.requires.trying.inside,
          (
            c.requires.trying.at.wide,
            (
              c.requires.extent,
              (
                left_above c.requires.trying lacks c.with-reached.ensures c.in_ok-close.ensures.moved closed,
                left_wide c.requires.trying lacks c.with-reached.ensures c.in_ok-close.ensures.moved closed,
              ),
            ),
          ),
        ),
      ),
    )

pub visit-requires : goal.visit-requires
visit-requires g c = (
  omega arith,
  (
    omega arith,
    (
      omega arith,
      (
        omega (arith, c.width-width.ensures.words),
        (
          left_entered c.requires.trying (sym c.has.ensures
              ∙ c.if-has.false) c.with-reached.ensures c.in_ok-close.ensures.moved (c.in_ok-close.ensures.closure c.if-not-branch.false),
          (omega (arith, c.size.ensures.size, c.if-size-seen.false), c.closure_by_extent-closed.ensures),
        ),
      ),
    ),
  ),
)

pub returns-then-branch-clause-done : goal.returns-then-branch-clause-done
returns-then-branch-clause-done g c = λ new size members h. left_done c.requires.trying
    (sym c.has.ensures ∙ c.if-has.false) c.with-reached.ensures c.in_ok-close.ensures.moved
    (c.in_ok-close.ensures.closure c.if-not-branch.false) h

pub returns-clause-done : goal.returns-clause-done
returns-clause-done g c = left_done c.requires.trying
    (sym c.has.ensures ∙ c.if-has.false) c.with-reached.ensures c.in_ok-close.ensures.moved
    (c.in_ok-close.ensures.closure c.if-not-branch.false) (c.in_ok-visit.ensures.done c.if-branch.false)

pub returns-then-has-clause-steady : goal.returns-then-has-clause-steady
returns-then-has-clause-steady g c = steady_same

pub returns-then-not-branch-clause-steady : goal.returns-then-not-branch-clause-steady
returns-then-not-branch-clause-steady g c = steady_same

pub returns-then-size-seen-clause-steady : goal.returns-then-size-seen-clause-steady
returns-then-size-seen-clause-steady g c = steady_same

pub returns-then-branch-clause-steady : goal.returns-then-branch-clause-steady
returns-then-branch-clause-steady g c = c.in_ok-visit.ensures.steady

pub returns-clause-steady : goal.returns-clause-steady
returns-clause-steady g c = c.in_ok-visit.ensures.steady
