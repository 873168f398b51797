use Rattle.std.proofs.Common.{◌≡◌, ℕ, ◌<◌, ◌∙◌, [], true, false, refl, length, get_or, set, sym, ap, subst, arith}
use Rattle.std.proofs.lemmas.List.{get_or_default}
use Rattle.fca_model.specs.Sets.{Set, within}
use Rattle.fca_model.specs.Context.{Context, closure}
use Rattle.fca_model.proofs.SetLemmas.{within_refl}
use Rattle.extent_places.specs.Objects.{HasObjects, alone}
use Rattle.lattice_covers.specs.declared.chain.FewRows.{FewRows}
use Rattle.lattice_covers.specs.declared.chain.RowsAbove.{RowsAbove}
use Rattle.extent_places.specs.Objects.{rows_above}
use Rattle.lattice_covers.specs.Neighbours.{AreRowsAbove, AreKept}
use Rattle.extent_places.proofs.AboveLemmas.{closure_above}
use Rattle.lattice_covers.proofs.ChainLemmas.{with_kept}
use Rattle.extent_places.proofs.ObjectLemmas.{closure_has, within-column, having_above}
use Rattle.lattice_covers.proofs.chain.implies.Goals as goal

pub returns-in-Many : goal.returns-in-Many
returns-in-Many g c = λ t.
    let K : Context = c.args.rows.now in
    let A : Set = c.args.link.now.intent in
    let i = c.args.i in
    let j = c.args.j in
    let M : Context = c.in-Many.above in
    let above : M ≡ rows_above K A = subst (λ (X : RowsAbove g.row.W). AreRowsAbove K A X) c.in-Many.is c.requires.link.above in
    let width : M.width ≡ K.width = ap (λ (X : Context). X.width) above in
    let having : (k : ℕ) → k < length M.rows → within (set A i true) (get_or M.rows k []) ≡ get_or (get_or M.rows k []) i false =
    subst (λ (X : Context). (k : ℕ) → k < length X.rows → within (set A i true) (get_or X.rows k []) ≡ get_or (get_or X.rows k []) i false)
    (sym above)
    (λ k l. having_above K A i k c.requires.premise c.requires.wide l) in
    subst (λ (D : Set). get_or D j false ≡ true) (closure_above K A A i (within_refl A) (omega (arith, c.requires.wide, c.requires.premise))
    (set A i true) refl M above)
    (closure_has M (set A i true) j (omega (arith, width, c.requires.conclusion))
    (λ k l w. c.all_imply.ensures t k l (sym (having k l) ∙ w)))

pub objects_with-having-requires : goal.objects_with-having-requires
objects_with-having-requires g c =
    let K : Context = c.args.rows.now in
    let A : Set = c.args.link.now.intent in
    let kept : FewRows g.row.W = c.as_ref-kept.result.now in
    let there : AreKept K A kept c.in-Few.objects =
    subst (λ (s : FewRows g.row.W). AreKept K A s c.in-Few.objects) (sym c.as_ref-kept.ensures)
    (subst (λ (X : RowsAbove g.row.W). AreRowsAbove K A X) c.in-Few.is c.requires.link.above) in (
      omega arith,
      (
        omega (arith, c.width-width.ensures.words),
        with_kept K A kept c.in-Few.objects c.args.i there c.requires.wide c.requires.premise c.deref.result.now c.deref.ensures.value,
      ),
    )

pub returns-in-Few : goal.returns-in-Few
returns-in-Few g c = λ t.
    let K : Context = c.args.rows.now in
    let A : Set = c.args.link.now.intent in
    let i = c.args.i in
    let j = c.args.j in
    let kept : FewRows g.row.W = c.as_ref-kept.result.now in
    let there : AreKept K A kept c.in-Few.objects =
    subst (λ (s : FewRows g.row.W). AreKept K A s c.in-Few.objects) (sym c.as_ref-kept.ensures)
    (subst (λ (X : RowsAbove g.row.W). AreRowsAbove K A X) c.in-Few.is c.requires.link.above) in
    let width : kept.rows.width ≡ K.width = ap (λ (X : Context). X.width) there.rows in
    let inside : j < kept.rows.width = omega (arith, width, c.requires.conclusion) in
    let column : c.index.result.now ≡ get_or kept.columns.items j [] =
    c.index.ensures ∙ get_or_default kept.columns.items j c.index.result.now [] (omega (arith, inside, there.columns.wide)) in
    let seen : within c.objects_with-having.result c.index.result.now ≡ get_or (closure kept.rows (set A i true)) j false =
    within-column kept.rows (set A i true) c.objects_with-having.result c.index.result.now j inside c.objects_with-having.ensures
    (subst (HasObjects kept.rows (alone kept.rows j)) (sym column) (there.columns.each j inside)) in
    subst (λ (D : Set). get_or D j false ≡ true) (closure_above K there.least A i there.part
    (omega (arith, c.requires.wide, c.requires.premise)) (set A i true) refl kept.rows there.rows)
    (sym seen ∙ sym c.have_all.ensures ∙ t)
