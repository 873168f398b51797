use Rattle.std.proofs.Common.{◌∙◌, refl, sym, subst, arith}
use Rattle.implication_closure.specs.Closing.{IsClosure}
use Rattle.next_level.proofs.LevelWalkLemmas.{among_start, none_among, left_can_close, left_above, left_entered}
use Rattle.next_level.proofs.BranchLemmas.{root_wide, branch_parts, branch_taken, branch_none, branch_trying, branch_differs, branch_larger}
use Rattle.next_level.proofs.BranchLemmas.{branch_entered, branch_among, branch_done}
use Rattle.next_level.specs.Branches.{in_branch}
use Rattle.next_level.proofs.ConcernLemmas.{concerning_listed, concerning_among}
use Rattle.next_level.proofs.branches.LevelWalk.open_sets_in_branch.Goals as goal

pub returns-then-has-clause-listed : goal.returns-then-has-clause-listed
returns-then-has-clause-listed g c =
    let self = c.args.self.now in
    let wide = root_wide self.root in
    branch_taken self.least c.args.i (omega (arith, wide, c.requires)) self.list.members self.indexed c.new-seen.result.bound
    c.new-seen.result.members.items
    (sym c.has.ensures ∙ c.if-has.true) c.new-seen.ensures.members

pub returns-then-skips-clause-listed : goal.returns-then-skips-clause-listed
returns-then-skips-clause-listed g c =
    let self = c.args.self.now in
    let wide = root_wide self.root in
    let J = self.list.members in
    let whole = self.among.whole in
    let sets = self.among.sets.items in
    branch_none self.least c.args.i (omega (arith, wide, c.requires)) J self.indexed c.new-seen.result.bound
    c.new-seen.result.members.items
    (λ X x s has. none_among J self.indexed self.least 0 c.args.i whole sets
    (among_start J self.indexed self.least 0 whole sets self.all_among) (omega arith)
    (sym c.has.ensures ∙ c.if-has.false) (sym c.skips.ensures ∙ c.if-skips.true) X x has) c.new-seen.ensures.members

pub close-requires : goal.close-requires
close-requires g c =
    let rules = c.in_ok-rules.ensures in
    let root = rules.inside 0 (omega arith) in
    let lacks = sym c.has.ensures ∙ c.if-has.false in (
      omega arith,
      (
        omega (arith, c.width-width.ensures.words),
        left_can_close (branch_trying root c.args.i c.requires lacks 0) lacks c.with-reached.ensures,
      ),
    )

pub returns-then-not-branch-clause-listed : goal.returns-then-not-branch-clause-listed
returns-then-not-branch-clause-listed g c =
    let rules = c.in_ok-rules.ensures in
    let root = rules.inside 0 (omega arith) in
    let lacks = sym c.has.ensures ∙ c.if-has.false in
    concerning_listed c.args.self.now.root c.args.i (in_branch c.args.i c.args.self.now.least)
    (λ X up p. (branch_parts c.args.self.now.least c.args.i (omega (arith, root_wide c.args.self.now.root, c.requires)) X p).1)
    c.in_ok-rules.rules.list rules.list _ _
    (branch_differs root c.args.i c.requires lacks c.new-seen.result.bound c.with-reached.result c.new-seen.result.members.items
    c.with-reached.ensures
    (c.in_ok-close.ensures.differs c.if-not-branch.true) c.new-seen.ensures.members)

pub returns-then-size-limits-clause-listed : goal.returns-then-size-limits-clause-listed
returns-then-size-limits-clause-listed g c =
    let rules = c.in_ok-rules.ensures in
    let root = rules.inside 0 (omega arith) in
    let lacks = sym c.has.ensures ∙ c.if-has.false in
    let closed = c.in_ok-close.ensures.closure c.if-not-branch.false in
    let closure = subst (λ X. IsClosure c.in_ok-rules.rules.list.members X c.close.new.reached) c.with-reached.ensures closed.closure in
    concerning_listed c.args.self.now.root c.args.i (in_branch c.args.i c.args.self.now.least)
    (λ X up p. (branch_parts c.args.self.now.least c.args.i (omega (arith, root_wide c.args.self.now.root, c.requires)) X p).1)
    c.in_ok-rules.rules.list rules.list _ _
    (branch_larger root c.args.i c.requires lacks c.close.new.reached closure c.new-seen.result.bound c.new-seen.result.members.items
    (omega (arith, c.size.ensures.size, c.if-size-limits.true, c.new-seen.ensures.bound)) c.new-seen.ensures.members)

pub child_among-requires : goal.child_among-requires
child_among-requires g c =
    let self = c.args.self.now in
    let rules = c.in_ok-rules.ensures in
    let root = rules.inside 0 (omega arith) in
    let lacks = sym c.has.ensures ∙ c.if-has.false in
    let closed = c.in_ok-close.ensures.closure c.if-not-branch.false in
    let trying = branch_trying root c.args.i c.requires lacks 0 in
    let moved = c.in_ok-close.ensures.moved in
    let among = concerning_among self.root c.args.i c.close.new.found.list
    (moved.list ∙ rules.list) self.among.whole self.among.sets.items self.all_among in (
      omega arith,
      (
        omega arith,
        (
          omega (arith, c.width-width.ensures.words),
          (
            omega arith,
            (
              c.requires,
              (
                root_wide self.root,
                (among, (lacks, (left_above trying lacks c.with-reached.ensures moved closed, closed.agree))),
              ),
            ),
          ),
        ),
      ),
    )

pub visit_all-requires : goal.visit_all-requires
visit_all-requires g c =
    let self = c.args.self.now in
    let rules = c.in_ok-rules.ensures in
    let root = rules.inside 0 (omega arith) in
    let lacks = sym c.has.ensures ∙ c.if-has.false in
    let closed = c.in_ok-close.ensures.closure c.if-not-branch.false in
    let closure = subst (λ X. IsClosure c.in_ok-rules.rules.list.members X c.close.new.reached) c.with-reached.ensures closed.closure in
    let moved = c.in_ok-close.ensures.moved in
    let at = (left_entered (branch_trying root c.args.i c.requires lacks 0) lacks c.with-reached.ensures moved closed).at in
    let put = c.in_ok-push_to_wait.ensures in
    let seen = c.new-seen.result in
    let entered = branch_entered root c.args.i c.requires lacks c.close.new.reached closure closed.agree _ refl refl at moved.list
    c.push_to_wait.new.self put.list put.put seen.bound seen.members.items c.new-seen.ensures.members in
    let among = branch_among root c.args.i c.requires lacks c.close.new.reached closure closed.agree _ refl refl at moved.list
    c.push_to_wait.new.self put.list put.put
    c.in_ok-part.part.whole c.in_ok-part.part.sets.items c.in_ok-part.ensures in (
      omega arith,
      (
        omega arith,
        (
          omega arith,
          (
            omega (arith, c.width-width.ensures.words),
            (omega arith, (entered, (omega (arith, c.size.ensures.size, c.if-size-limits.false, c.new-seen.ensures.bound), among))),
          ),
        ),
      ),
    )

pub returns-clause-listed : goal.returns-clause-listed
returns-clause-listed g c =
    let rules = c.in_ok-rules.ensures in
    let root = rules.inside 0 (omega arith) in
    let lacks = sym c.has.ensures ∙ c.if-has.false in
    let closed = c.in_ok-close.ensures.closure c.if-not-branch.false in
    let closure = subst (λ X. IsClosure c.in_ok-rules.rules.list.members X c.close.new.reached) c.with-reached.ensures closed.closure in
    let moved = c.in_ok-close.ensures.moved in
    let at = (left_entered (branch_trying root c.args.i c.requires lacks 0) lacks c.with-reached.ensures moved closed).at in
    let put = c.in_ok-push_to_wait.ensures in
    let listed = c.in_ok-visit_all.ensures.listed in
    concerning_listed c.args.self.now.root c.args.i (in_branch c.args.i c.args.self.now.least)
    (λ X up p. (branch_parts c.args.self.now.least c.args.i (omega (arith, root_wide c.args.self.now.root, c.requires)) X p).1)
    c.in_ok-rules.rules.list rules.list _ _
    (branch_done root c.args.i c.requires lacks c.close.new.reached closure closed.agree _ refl refl at moved.list
    c.push_to_wait.new.self put.list put.put
    c.visit_all.new.seen.bound c.visit_all.new.seen.members.items c.visit_all.new.rules.list listed.list listed.listed)
