use Rattle.std.proofs.Common.{◌≡◌, ◌∙◌, List, map, ap, sym, subst}
use Rattle.std.proofs.lemmas.Result.{IfOk-weaker}
use Rattle.fca_model.specs.Sets.{Set}
use Rattle.fca_model.specs.Context.{closure}
use Rattle.fca_model.specs.Implications.{rule, premises}
use Rattle.implication_closure.specs.Closing.{RuleList}
use Rattle.pseudo_levels.specs.Search.{AreWide}
use Rattle.canonical_basis.specs.Reduced.{context_of}
use Rattle.canonical_basis.proofs.ListLemmas.{premises_wide}
use Rattle.canonical_basis.proofs.ordering.close_premises.Goals as goal

pub close_in_list-requires : goal.close_in_list-requires
close_in_list-requires c = subst (λ Zs. AreWide c.args.list.now.width Zs) (sym (c.deref.ensures.value ∙ c.in_ok-premises.ensures))
    (premises_wide c.args.list.now.width c.as_slice.result.now c.as_slice.ensures.even)

pub returns : goal.returns
returns c =
    let L : RuleList = c.args.list.now in
    let closed : List Set → RuleList = λ Ps. record { width = L.width; members = map (λ P. rule P (closure (context_of L) P)) Ps } in
    let all : c.deref.result.now ≡ premises L.members = c.deref.ensures.value ∙ c.in_ok-premises.ensures
    ∙ ap premises c.as_slice.ensures.members in
    IfOk-weaker c.close_in_list.result (λ l. l ≡ closed c.deref.result.now) (λ l. l ≡ closed (premises L.members))
    (λ l e. e ∙ ap closed all) c.close_in_list.ensures
