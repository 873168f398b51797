use Rattle.std.proofs.Common.{◌∙◌, ap, sym, subst}
use Rattle.implication_closure.specs.Closing.{RuleList, IsClosure}
use Rattle.canonical_basis.specs.Reduced.{IsReduced}
use Rattle.canonical_basis.proofs.ReduceLemmas.{reduced_push, reduced_drop}
use Rattle.canonical_basis.proofs.reducing.reduce.Goals as goal
use Rattle.canonical_basis.proofs.reducing.reduce.Goals.{then-not-within+in_ok-push, else-not-within}

pub returns-clause-reduced : goal.returns-clause-reduced
returns-clause-reduced c = λ K e r.
    let done = c.args.reduced.now.members in
    let rest = c.args.rest.now in
    let i = c.args.member.now in
    let A = c.naive_closure-premise.result in
    let grown = subst (λ js. IsClosure js i.premise A)
    (ap (λ (l : RuleList). l.members) c.in_ok-others.ensures) c.naive_closure-premise.ensures in
    elim c.if-not-within.branch [
      | then-not-within+in_ok-push w ↦ subst (λ js. IsReduced K js rest)
          (sym (ap (λ (l : RuleList). l.members) (w.reduced-is ∙ w.in_ok-push.ensures.ok)))
          (reduced_push K done rest i A r grown (sym c.within.ensures ∙ w.if-not-within.true))
      | else-not-within w ↦ subst (λ js. IsReduced K js rest) (sym (ap (λ (l : RuleList). l.members) w.reduced-is))
          (reduced_drop K done rest i A r grown (sym c.within.ensures ∙ w.if-not-within.false))
    ]
