use Rattle.std.proofs.Common.{◌≡◌, [], ap, sym, subst, map, true}
use Rattle.std.proofs.lemmas.Result.{IfOk-weaker}
use Rattle.fca_model.specs.Context.{closure}
use Rattle.fca_model.specs.Implications.{rule, equivalent}
use Rattle.fca_model.specs.Pseudo.{basis_known}
use Rattle.implication_closure.specs.Closing.{RuleList}
use Rattle.pseudo_levels.specs.LeastBasis.{IsLeastBasis}
use Rattle.canonical_basis.specs.Reduced.{context_of}
use Rattle.canonical_basis.proofs.OrderLemmas.{rule_list, closing_wide, closing_is, basis_is_least}
use Rattle.canonical_basis.proofs.basis_of_list.Goals as goal

pub close_in_list-requires : goal.close_in_list-requires
close_in_list-requires g c =
    closing_wide (context_of c.args.list.now) c.in_ok-reduced.reduced.members c.as_slice.result.now c.in_ok-premises.premises.items
    c.deref.result.now
    c.in_ok-reduced.ensures.members c.as_slice.ensures.members c.deref.ensures.value c.in_ok-premises.ensures.ordered
    c.in_ok-premises.ensures.members

pub returns-clause-members : goal.returns-clause-members
returns-clause-members g c =
    let K = context_of c.args.list.now in
    IfOk-weaker c.close_in_list.result (λ list. list ≡ rule_list K.width (map (λ P. rule P (closure K P)) c.deref.result.now))
    (λ list. list ≡ rule_list K.width (basis_known [] K))
    (closing_is K c.in_ok-reduced.reduced.members c.as_slice.result.now c.in_ok-premises.premises.items c.deref.result.now
    c.in_ok-reduced.ensures.members c.as_slice.ensures.members c.deref.ensures.value c.in_ok-premises.ensures.ordered
    c.in_ok-premises.ensures.members)
    c.close_in_list.ensures

pub returns-clause-least : goal.returns-clause-least
returns-clause-least g c =
    let K = context_of c.args.list.now in
    IfOk-weaker c.close_in_list.result (λ list. list ≡ rule_list K.width (basis_known [] K))
    (λ (list : RuleList). IsLeastBasis K list.members) (basis_is_least K) (returns-clause-members g c)

pub returns-clause-equivalent : goal.returns-clause-equivalent
returns-clause-equivalent g c =
    let L = c.args.list.now in
    IfOk-weaker c.close_in_list.result (λ list. list ≡ rule_list L.width (basis_known [] (context_of L)))
    (λ (list : RuleList). equivalent L.width list.members L.members ≡ true)
    (λ list e. subst (λ ms. equivalent L.width ms L.members ≡ true)
    (sym (ap (λ (l : RuleList). l.members) e)) c.in_ok-reduced.ensures.equivalent) (returns-clause-members g c)
