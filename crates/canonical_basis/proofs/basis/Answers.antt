use Rattle.std.proofs.Common.{◌≡◌, ◌++◌, [], true, refl, sym, ap, ◌∙◌, subst}
use Rattle.std.proofs.lemmas.Result.{IfOk-weaker}
use Rattle.std.specs.List.{list_all}
use Rattle.fca_model.specs.Implications.{holds}
use Rattle.fca_model.specs.Pseudo.{basis_known}
use Rattle.implication_closure.specs.Closing.{RuleList}
use Rattle.pseudo_levels.specs.LeastBasis.{IsLeastBasis}
use Rattle.canonical_basis.proofs.OrderLemmas.{rule_list, basis_is_least, of_nothing}
use Rattle.canonical_basis.proofs.basis.Goals as goal

pub known_with_basis-requires-clause-wide : goal.known_with_basis-requires-clause-wide
known_with_basis-requires-clause-wide g c = ap (λ (L : RuleList). L.width) c.in_ok-nothing.ensures ∙ c.width.ensures.width

pub known_with_basis-requires-clause-holds : goal.known_with_basis-requires-clause-holds
known_with_basis-requires-clause-holds g c = subst (λ (L : RuleList). list_all (holds c.args.rows.now) L.members ≡ true)
    (sym c.in_ok-nothing.ensures) refl

pub returns-clause-members : goal.returns-clause-members
returns-clause-members g c =
    let K = c.args.rows.now in
    let nothing : RuleList = c.in_ok-nothing.nothing in
    IfOk-weaker c.known_with_basis.result (λ list. list ≡ rule_list K.width (nothing.members ++ basis_known nothing.members K))
    (λ list. list ≡ rule_list K.width (basis_known [] K))
    (λ list e. of_nothing K list nothing (c.in_ok-nothing.ensures ∙ ap (λ n. rule_list n []) c.width.ensures.width) e)
    c.known_with_basis.ensures

pub returns-clause-least : goal.returns-clause-least
returns-clause-least g c =
    let K = c.args.rows.now in
    IfOk-weaker c.known_with_basis.result (λ list. list ≡ rule_list K.width (basis_known [] K))
    (λ (list : RuleList). IsLeastBasis K list.members) (basis_is_least K) (returns-clause-members g c)
