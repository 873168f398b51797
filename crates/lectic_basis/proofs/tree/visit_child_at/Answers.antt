use Rattle.std.proofs.Common.{◌≡◌, Some, None, sym, subst, arith}
use Rattle.implication_closure.specs.Closing.{RuleList}
use Rattle.lectic_basis.specs.Forced.{AreForced, IsLonger}
use Rattle.lectic_basis.specs.Watches.{IsBounded}
use Rattle.lectic_basis.proofs.ForcedLemmas.{bounded_more, forced_more}
use Rattle.lectic_basis.proofs.WalkLemmas.{below_can_close, below_none, below_visit, below_told, below_up, told_forced, told_extent}
use Rattle.lectic_basis.proofs.WalkLemmas.{below_extent, below_wide}
use Rattle.lectic_basis.proofs.tree.visit_child_at.Goals as goal

pub close-requires : goal.close-requires
close-requires g c = (
  omega arith,
  (
    omega (arith, c.width-width.ensures.words),
    below_can_close c.requires.trying c.requires.lacks c.with-reached.ensures,
  ),
)

pub returns-then-not-branch-clause-done : goal.returns-then-not-branch-clause-done
returns-then-not-branch-clause-done g c = below_none c.requires.trying c.requires.lacks c.with-reached.ensures c.in_ok-close.ensures.moved
    (c.in_ok-close.ensures.differs c.if-not-branch.true)

pub returns-then-not-branch-clause-kept : goal.returns-then-not-branch-clause-kept
returns-then-not-branch-clause-kept g c =
    let list : c.close.new.found.list ≡ c.args.found.now.list = c.in_ok-close.ensures.moved.list in
    subst (λ (M : RuleList). AreForced M.members c.args.a.now c.note.new.forced.items) (sym list)
    (c.note.ensures c.args.found.now.list.members
    (subst (λ X. IsBounded c.args.found.now.list.members X c.close.new.reached) c.with-reached.ensures c.in_ok-close.ensures.bounded)
    c.requires.forced)

pub closure_among-closed-requires : goal.closure_among-closed-requires
closure_among-closed-requires g c =
    let closed = c.in_ok-close.ensures.closure c.if-not-branch.false in
    let lacks = c.requires.lacks in (
      omega arith,
      (
        omega (arith, c.width-width.ensures.words),
        (
          c.requires.trying.inside,
          (
            below_wide c.requires.trying lacks c.with-reached.ensures c.in_ok-close.ensures.moved closed,
            below_extent c.requires.trying lacks c.with-reached.ensures c.in_ok-close.ensures.moved closed c.args.lists.now.extent c.requires.extent,
          ),
        ),
      ),
    )

pub visit-requires : goal.visit-requires
visit-requires g c = (
  omega arith,
  (
    omega arith,
    (
      omega (arith, c.width-width.ensures.words),
      (
        below_visit c.requires.trying c.requires.lacks c.with-reached.ensures
            c.in_ok-close.ensures.moved (c.in_ok-close.ensures.closure c.if-not-branch.false),
        c.closure_among-closed.ensures,
      ),
    ),
  ),
)

-- the least set with attribute i was visited, and nothing is left behind it

pub returns-in-None-clause-done : goal.returns-in-None-clause-done
returns-in-None-clause-done g c = below_told c.requires.trying c.requires.lacks c.with-reached.ensures c.in_ok-close.ensures.moved
    (c.in_ok-close.ensures.closure c.if-not-branch.false) _ None (rw c.in-None.is at c.in_ok-child.ensures.done)

pub returns-in-None-clause-kept : goal.returns-in-None-clause-kept
returns-in-None-clause-kept g c =
    let J = c.args.found.now.list.members in
    let M = c.visit.new.found.list.members in
    let list : c.close.new.found.list ≡ c.args.found.now.list = c.in_ok-close.ensures.moved.list in
    let more : IsLonger J M = subst (λ (L : RuleList). IsLonger L.members M) list c.in_ok-child.ensures.more in
    let reached = subst (λ X. IsBounded J X c.close.new.reached) c.with-reached.ensures c.in_ok-close.ensures.bounded in
    c.note-in-None.ensures M (bounded_more J M _ _ _ more reached c.in_ok-child.ensures.bounded)
    (forced_more J M c.args.a.now c.args.lists.now.forced.items more c.requires.forced)

-- more is left behind an intent

pub returns-in-Some-clause-below : goal.returns-in-Some-clause-below
returns-in-Some-clause-below g c = rw c.in-Some.is at c.in_ok-child.ensures.below

pub returns-in-Some-clause-extent : goal.returns-in-Some-clause-extent
returns-in-Some-clause-extent g c =
    let closed = c.in_ok-close.ensures.closure c.if-not-branch.false in
    let lacks = c.requires.lacks in
    told_extent c.args.indexed.now c.close.new.reached c.args.i c.args.lists.now.extent (Some c.in-Some.intent)
    (below_extent c.requires.trying lacks c.with-reached.ensures c.in_ok-close.ensures.moved closed c.args.lists.now.extent c.requires.extent)
    (rw c.in-Some.is at c.in_ok-child.ensures.larger) (rw c.in-Some.is at c.in_ok-child.ensures.shared)

pub returns-in-Some-clause-done : goal.returns-in-Some-clause-done
returns-in-Some-clause-done g c = below_told c.requires.trying c.requires.lacks c.with-reached.ensures c.in_ok-close.ensures.moved
    (c.in_ok-close.ensures.closure c.if-not-branch.false) _ (Some c.in-Some.intent) (rw c.in-Some.is at c.in_ok-child.ensures.done)

pub returns-in-Some-clause-kept : goal.returns-in-Some-clause-kept
returns-in-Some-clause-kept g c =
    let J = c.args.found.now.list.members in
    let M = c.visit.new.found.list.members in
    let list : c.close.new.found.list ≡ c.args.found.now.list = c.in_ok-close.ensures.moved.list in
    let more : IsLonger J M = subst (λ (L : RuleList). IsLonger L.members M) list c.in_ok-child.ensures.more in
    forced_more J M c.args.a.now c.args.lists.now.forced.items more c.requires.forced

pub returns-in-Some-clause-passed : goal.returns-in-Some-clause-passed
returns-in-Some-clause-passed g c =
    let closed = c.in_ok-close.ensures.closure c.if-not-branch.false in
    told_forced c.visit.new.found.list.members c.args.a.now c.close.new.reached c.args.lists.now.forced.items (Some c.in-Some.intent)
    (returns-in-Some-clause-kept g c)
    (below_up c.args.a.now c.with-reached.result c.close.new.reached c.args.i c.args.found.now.list.members c.with-reached.ensures
    closed.closure) (rw c.in-Some.is at c.in_ok-child.ensures.larger)
