use Rattle.std.proofs.Common.{◌≡◌, ◌∙◌, IfOk, List, All, true, length, ap, sym, subst}
use Rattle.std.proofs.lemmas.Result.{IfOk-weaker}
use Rattle.std.specs.List.{list_all}
use Rattle.fca_model.specs.Sets.{Set}
use Rattle.fca_model.specs.Implications.{Rule, holds, follows}
use Rattle.implication_closure.specs.Closing.{RuleList}
use Rattle.direct_basis.specs.Direct.{direct}
use Rattle.direct_basis.proofs.DirectLemmas.{direct_holds, direct_follows}
use Rattle.direct_basis.proofs.LevelLemmas.{proper_wide, direct_is}
use Rattle.direct_basis.proofs.proper_premises.Goals as goal

pub close_in_rows-requires : goal.close_in_rows-requires
close_in_rows-requires c =
    let K = c.args.rows.now in
    subst (λ (Xs : List Set). All (λ P. length P ≡ K.width) Xs) (sym (c.deref.ensures.value ∙ c.in_ok-premises.ensures)) (proper_wide K)

pub returns-clause-members : goal.returns-clause-members
returns-clause-members c =
    let K = c.args.rows.now in
    let is = direct_is K c.deref.result.now (c.deref.ensures.value ∙ c.in_ok-premises.ensures) in
    subst (λ (members : List Rule). IfOk c.close_in_rows.result (λ (list : RuleList). list ≡ record { width = K.width; members = members }))
    is c.close_in_rows.ensures

pub returns-clause-holds : goal.returns-clause-holds
returns-clause-holds c =
    let K = c.args.rows.now in
    IfOk-weaker c.close_in_rows.result (λ (list : RuleList). list ≡ record { width = K.width; members = direct K })
    (λ (list : RuleList). list_all (holds K) list.members ≡ true)
    (λ list e. ap (λ (l : RuleList). list_all (holds K) l.members) e ∙ direct_holds K) (returns-clause-members c)

pub returns-clause-follows : goal.returns-clause-follows
returns-clause-follows c =
    let K = c.args.rows.now in
    IfOk-weaker c.close_in_rows.result (λ (list : RuleList). list ≡ record { width = K.width; members = direct K })
    (λ (list : RuleList). (i : Rule) → length i.premise ≡ K.width → holds K i ≡ follows K.width list.members i)
    (λ list e i w. direct_follows K i w ∙ ap (λ (l : RuleList). follows K.width l.members i) (sym e)) (returns-clause-members c)
