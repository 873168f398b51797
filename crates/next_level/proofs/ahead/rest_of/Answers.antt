use Rattle.std.proofs.Common.{ap, ltb, sym, subst, ◌∙◌, arith}
use Rattle.fca_model.specs.Sets.{size}
use Rattle.fca_model.proofs.ListLemmas.{list_all-filter_kept}
use Rattle.fca_model.specs.Implications.{premises}
use Rattle.implication_closure.specs.Closing.{HaveWidth, has_width}
use Rattle.next_level.proofs.ahead.rest_of.Goals as goal

pub premises_of-requires : goal.premises_of-requires
premises_of-requires g c =
    let even = subst (λ xs. HaveWidth c.args.width xs) (sym (c.deref.ensures.value ∙ c.in_ok-rest.ensures))
    (list_all-filter_kept (has_width c.args.width) (λ i. ltb c.args.premise_size (size i.premise)) c.args.members.now c.requires.even) in
    (omega (arith, c.requires.words), (c.requires.words, (c.requires.narrow, even)))

pub returns-clause-rest : goal.returns-clause-rest
returns-clause-rest g c e = c.in_ok-sets.ensures
    ∙ ap (λ xs. record { width = c.args.width; rows = premises xs }) (c.deref.ensures.value ∙ c.in_ok-rest.ensures)
