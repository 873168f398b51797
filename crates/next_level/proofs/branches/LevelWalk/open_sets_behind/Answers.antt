use Rattle.std.proofs.Common.{◌∙◌, sym, subst, arith}
use Rattle.next_level.specs.Among.{AreAmong}
use Rattle.lectic_basis.specs.Trees.{up_to}
use Rattle.lectic_basis.proofs.PlaceLemmas.{up_to_agree, within_not_before}
use Rattle.next_level.proofs.BranchLemmas.{root_entered}
use Rattle.next_level.proofs.ConcernLemmas.{concerning_listed, concerning_among}
use Rattle.next_level.proofs.branches.LevelWalk.open_sets_behind.Goals as goal

pub visit_all-requires : goal.visit_all-requires
visit_all-requires g c =
    let self = c.args.self.now in
    let seen = c.new-seen.result in
    let rules = c.in_ok-rules.ensures in
    let entered = root_entered (rules.inside c.args.from c.requires.inside)
    (rules.inside 0 (omega arith)) seen.bound seen.members.items c.new-seen.ensures.members in
    let among = concerning_among self.root c.args.from c.in_ok-rules.rules.list rules.list self.among.whole self.among.sets.items
    self.all_among in (
      omega arith,
      (
        omega arith,
        (
          omega arith,
          (
            omega (arith, c.width-width.ensures.words),
            (
              omega arith,
              (
                entered,
                (
                  omega (arith, c.requires.small, c.new-seen.ensures.bound),
                  subst (λ b. AreAmong c.in_ok-rules.rules.list.members self.indexed self.least c.args.from b
                      c.in_ok-among.among.sets.items)
                      (sym c.in_ok-among.ensures.0) (subst (λ Xs. AreAmong c.in_ok-rules.rules.list.members self.indexed self.least
                      c.args.from
                      self.among.whole Xs) (sym c.in_ok-among.ensures.1) among),
                ),
              ),
            ),
          ),
        ),
      ),
    )

pub returns-clause-listed : goal.returns-clause-listed
returns-clause-listed g c =
    let self = c.args.self.now in
    let listed = c.in_ok-visit_all.ensures.listed in
    concerning_listed self.root c.args.from (up_to c.args.from self.least)
    (λ X up p. up_to_agree c.args.from self.least X p (within_not_before c.args.from self.least X up))
    c.visit_all.new.rules.list (listed.list ∙ c.in_ok-rules.ensures.list) c.visit_all.new.seen.bound c.visit_all.new.seen.members.items
    listed.listed
