use Rattle.std.proofs.Common.{◌∙◌, [], refl, ap, sym, subst}
use Rattle.fca_model.specs.Pseudo.{basis_known}
use Rattle.implication_closure.specs.Closing.{RuleList}
use Rattle.canonical_basis.specs.Reduced.{context_of, IsReduced}
use Rattle.canonical_basis.proofs.ListLemmas.{basis_equivalent}
use Rattle.canonical_basis.proofs.ReduceLemmas.{reduce_start, reduced_members}
use Rattle.canonical_basis.proofs.reducing.reduce_list.Goals as goal

pub returns-clause-members : goal.returns-clause-members
returns-clause-members c =
    let L = c.args.list.now in
    let K = context_of L in
    let full = c.as_slice.ensures.members ∙ ap (λ (l : RuleList). l.members) c.in_ok-full.ensures in
    let none = ap (λ (l : RuleList). l.members) c.in_ok-reduced.ensures in
    let wide = c.width.ensures.width in
    let start = subst (λ js. IsReduced K js c.as_slice.result.now) (sym none)
    (subst (λ js. IsReduced K [] js) (sym full) (reduce_start L c.width.ensures.even)) in
    reduced_members K c.reduce_all.new.reduced.members
    (c.in_ok-reduce_all.ensures K (sym (ap (λ (l : RuleList). l.width) c.in_ok-reduced.ensures ∙ wide)) start)

pub returns-clause-equivalent : goal.returns-clause-equivalent
returns-clause-equivalent c =
    let L = c.args.list.now in
    basis_equivalent L c.width.ensures.even (basis_known [] (context_of L)) refl
