use Rattle.std.proofs.Common.{◌≡◌, ◌∙◌, subst, arith}
use Rattle.implication_closure.specs.Closing.{RuleList}
use Rattle.next_level.specs.NextLevel.{open_where, everything}
use Rattle.next_level.proofs.NextLevelLemmas.{members_wide, told_next, told_ahead}
use Rattle.next_level.proofs.find_next_in_words.Goals as goal

pub least_of-requires : goal.least_of-requires
least_of-requires g c =
    let same = c.in_ok-walk.ensures.indexed in
    let seen = c.in_ok-seen.seen in
    let listed = subst (λ (L : RuleList). seen.members.items ≡ open_where L.members c.in_ok-walk.walk.indexed seen.bound everything)
    c.in_ok-walk.ensures.list c.in_ok-seen.ensures.listed in (
      omega arith,
      (
        c.requires.words,
        (
          omega (arith, c.width.ensures.narrow),
          members_wide c.args.rules.now.members c.args.rows.now c.in_ok-walk.walk.indexed seen.bound seen.members.items same listed
              c.width.result c.width.ensures.width,
        ),
      ),
    )

pub returns : goal.returns
returns g c =
    let same = c.in_ok-walk.ensures.indexed in
    let J = c.args.rules.now.members in
    let K = c.args.rows.now in
    let seen = c.in_ok-seen.seen in
    let opened = c.in_ok-opened.opened in
    let listed = subst (λ (L : RuleList). seen.members.items ≡ open_where L.members c.in_ok-walk.walk.indexed seen.bound everything)
    c.in_ok-walk.ensures.list c.in_ok-seen.ensures.listed in
    record {
      next = λ known found reached is below bounded. told_next J K c.in_ok-walk.walk.indexed seen.bound seen.members.items same listed
          c.width.result c.width.ensures.width opened.level.size
          c.in_ok-seen.ensures.all c.in_ok-opened.ensures.size opened.level.members.items c.in_ok-opened.ensures.members known found reached
          is below bounded;
      ahead = told_ahead J K c.in_ok-walk.walk.indexed seen.bound seen.members.items same listed c.width.result c.width.ensures.width
          opened.level.size
          opened.ahead.whole opened.ahead.sets.rows c.in_ok-opened.ensures.ahead;
      ahead_wide = c.in_ok-opened.ensures.ahead_wide ∙ c.width.ensures.width;
    }
