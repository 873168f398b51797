use Rattle.std.proofs.Common.{◌∙◌, [], ap, sym, map}
use Rattle.pseudo_levels.specs.Search.{judged}
use Rattle.pseudo_levels.proofs.next_members.Goals as goal

pub returns-clause-opened : goal.returns-clause-opened
returns-clause-opened g c below leads =
    let found = c.args.found.now.members in
    let answers = c.deref-3.ensures.value ∙ c.in_ok-answers.ensures
    ∙ ap (map (judged [] c.args.rows.now found)) (c.deref.ensures.value ∙ sym c.deref-2.ensures.value) in
    c.settle_level.ensures.opened c.args.rows.now (sym c.requires.width) below leads answers
