use Rattle.std.proofs.Common.{◌∙◌, ◌+◌, ◌∷◌, ap, sym, subst, drop}
use Rattle.std.proofs.lemmas.List.{drop_more}
use Rattle.implication_closure.specs.Closing.{HaveWidth}
use Rattle.canonical_basis.specs.Reduced.{IsReduced}
use Rattle.canonical_basis.proofs.ReduceLemmas.{rest_is, rest_wide}
use Rattle.canonical_basis.proofs.reducing.reduce_all.Goals as goal

pub reduce-requires-clause-rest : goal.reduce-requires-clause-rest
reduce-requires-clause-rest c =
    let ms = c.args.members.now in
    let k = c.loop-i.i + 1 in
    subst (λ js. HaveWidth c.loop-i.reduced.width js) (sym (rest_is ms k))
    (rest_wide c.loop-i.reduced.width ms k (subst (λ n. HaveWidth n ms) (sym c.loop-i.invariant.width) c.requires))

pub loop-i-preserved : goal.loop-i-preserved
loop-i-preserved c =
    let ms = c.args.members.now in
    let k = c.loop-i.i in
    let i = c.index-members-i.result in
    record {
      width = c.reduce.ensures.width ∙ c.loop-i.invariant.width;
      reduced = λ K e r.
          let before = subst (λ js. IsReduced K c.loop-i.reduced.members js)
          (drop_more ms k i c.loop-i-test.true ∙ ap (λ j. j ∷ drop (k + 1) ms) (sym c.index-members-i.is))
          (c.loop-i.invariant.reduced K e r) in
          subst (λ js. IsReduced K c.reduce.new.reduced.members js) (rest_is ms (k + 1))
          (c.in_ok-reduce.ensures.reduced K (e ∙ sym c.loop-i.invariant.width)
          (subst (λ js. IsReduced K c.loop-i.reduced.members (i ∷ js)) (sym (rest_is ms (k + 1))) before));
    }
