use Rattle.std.proofs.Common.{◌≡◌, ◌∙◌, true, sym, ap, subst, arith}
use Rattle.fca_model.specs.Implications.{respects_all}
use Rattle.implication_closure.specs.Closing.{RuleList}
use Rattle.lectic_basis.specs.Watches.{IsFiled, IsGood}
use Rattle.next_level.proofs.BranchLemmas.{root_at, root_wide}
use Rattle.next_level.proofs.ConcernLemmas.{concerning_root}
use Rattle.next_level.proofs.branches.LevelWalk.rules_from.Goals as goal

pub of_narrow-requires : goal.of_narrow-requires
of_narrow-requires g c =
    let self = c.args.self.now in
    let list = c.in_ok-list.ensures in
    let root = concerning_root self.root c.args.from in (
      omega arith,
      (
        omega (arith, c.width-width.ensures.words),
        (
          omega arith,
          (
            root_wide root ∙ sym root.width ∙ ap (λ (L : RuleList). L.width) (sym list),
            subst (λ (L : RuleList). respects_all L.members self.least ≡ true) (sym list) root.closure.respecting,
          ),
        ),
      ),
    )

pub returns-clause-inside : goal.returns-clause-inside
returns-clause-inside g c =
    let self = c.args.self.now in
    let list = c.in_ok-list.ensures in
    let rules = c.in_ok-rules.ensures in
    let buckets = c.in_ok-rules.rules.buckets in
    root_at (concerning_root self.root c.args.from) (rules.list ∙ list)
    (subst (λ (L : RuleList). IsFiled L.width L.members buckets) list rules.filed)
    (subst (λ (L : RuleList). IsGood L.members buckets self.least) list rules.good)
