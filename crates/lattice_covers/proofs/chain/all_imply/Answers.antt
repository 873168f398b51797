use Rattle.std.proofs.Common.{◌≡◌, ◌<◌, ◌∙◌, true, false, List, [], length, get_or, sym, ap, subst, arith, inl, inr}
use Rattle.std.proofs.lemmas.Bool.{cases_eq}
use Rattle.std.proofs.lemmas.List.{get_or_default}
use Rattle.fca_model.specs.Sets.{Set}
use Rattle.fca_model.specs.Context.{Context}
use Rattle.fca_model.proofs.ListLemmas.{implies_at}
use Rattle.lattice_covers.proofs.chain.all_imply.Goals as goal

pub loop-row-preserved : goal.loop-row-preserved
loop-row-preserved g c =
    let K : Context = c.args.rows.now in
    let i = c.args.i in
    let j = c.args.j in
    let k = c.loop-row.row-index in
    let R : Set = c.row-item.result in
    let rows = c.as_slice-row-items.ensures.rows in
    let inside : k < length K.rows = subst (λ (Rs : List Set). k < length Rs) rows c.loop-row-test.true in
    let there : R ≡ get_or K.rows k [] = c.row-item.is ∙ ap (λ (Rs : List Set). get_or Rs k R) rows ∙ get_or_default K.rows k R [] inside in
    let here : get_or R i false ≡ true → get_or R j false ≡ true =
    implies_at (get_or R i false) (get_or R j false) (sym c.has_if.ensures ∙ c.if-not-has_if.false) in
    record {
      imply = λ m l. elim (cases_eq m k) [
        | inl last ↦ subst (λ n. get_or (get_or K.rows n []) i false ≡ true → get_or (get_or K.rows n []) j false ≡ true) (sym last)
            (subst (λ (X : Set). get_or X i false ≡ true → get_or X j false ≡ true) there here)
        | inr other ↦ c.loop-row.invariant.imply m (omega (arith, l, other))
      ];
    }

pub returns : goal.returns
returns g c = λ t m l. c.loop-row.invariant.imply m
    (omega (arith, l, c.loop-row-test.false, ap (λ (Rs : List Set). length Rs) c.as_slice-row-items.ensures.rows))
