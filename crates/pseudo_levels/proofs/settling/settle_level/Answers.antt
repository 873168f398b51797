use Rattle.std.proofs.Common.{◌≡◌, ◌∙◌, [], ap, sym, subst, length, true, ◌==◌}
use Rattle.std.proofs.lemmas.Result.{IfOk-weaker}
use Rattle.std.specs.List.{list_all}
use Rattle.fca_model.specs.Sets.{Set, size}
use Rattle.fca_model.proofs.ListLemmas.{filter_passes, list_all-filter_kept}
use Rattle.pseudo_levels.specs.Search.{AreWide, Grows, IsOpened, members_of}
use Rattle.pseudo_levels.proofs.LevelLemmas.{level_opens}
use Rattle.pseudo_levels.proofs.settling.settle_level.Goals as goal

pub settle_all-requires-clause-wide : goal.settle_all-requires-clause-wide
settle_all-requires-clause-wide c =
    subst (λ Zs. AreWide c.args.found.now.width Zs) (sym c.requires.sets)
    (list_all-filter_kept (λ (X : Set). length X == c.args.found.now.width)
    (λ (X : Set). size X == c.args.k) c.args.candidates.now c.requires.wide)

pub settle_all-requires-clause-sizes : goal.settle_all-requires-clause-sizes
settle_all-requires-clause-sizes c =
    subst (λ Zs. list_all (λ (X : Set). size X == c.args.k) Zs ≡ true) (sym c.requires.sets)
    (filter_passes (λ (X : Set). size X == c.args.k) c.args.candidates.now)

pub returns-clause-opened : goal.returns-clause-opened
returns-clause-opened c K e below leads answers =
    let found = c.args.found.now.members in
    let new = c.settle_all.new.candidates in
    IfOk-weaker c.members.result (λ members. members.items ≡ members_of c.args.answers.now)
    (λ members. IsOpened [] K c.args.k found members.items new)
    (λ members is. level_opens [] K c.args.k found below c.args.candidates.now new c.args.sets.now members.items leads
    (subst (λ n. AreWide n c.args.candidates.now) (sym e) c.requires.wide) c.requires.sets c.requires.ordered
    (c.in_ok-settle_all.ensures.settled K e answers) (subst (λ n. Grows n c.args.candidates.now new) (sym e) c.settle_all.ensures.grows)
    (is ∙ ap members_of answers)) c.members.ensures
