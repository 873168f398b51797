use Rattle.std.proofs.Common.{◌≡◌, ℕ, ◌<◌, ◌∙◌, [], true, false, length, get_or, set, sym, ap, subst, length-set, arith}
use Rattle.fca_model.specs.Sets.{Set, within}
use Rattle.fca_model.specs.Context.{Context}
use Rattle.fca_model.proofs.SetLemmas.{within_refl}
use Rattle.extent_places.specs.Objects.{HasObjects, AreColumns}
use Rattle.lattice_covers.specs.declared.chain.FewRows.{FewRows}
use Rattle.lattice_covers.specs.declared.chain.RowsAbove.{RowsAbove}
use Rattle.extent_places.specs.Objects.{rows_above}
use Rattle.lattice_covers.specs.Neighbours.{AreRowsAbove, AreKept}
use Rattle.extent_places.proofs.AboveLemmas.{closure_above}
use Rattle.lattice_covers.proofs.ChainLemmas.{with_kept}
use Rattle.extent_places.proofs.ObjectLemmas.{having_above}
use Rattle.lattice_covers.proofs.chain.closure_with.Goals as goal

pub returns-in-Many : goal.returns-in-Many
returns-in-Many g c =
    let K : Context = c.args.rows.now in
    let A : Set = c.args.link.now.intent in
    c.closure_in.ensures ∙ closure_above K A A c.args.i (within_refl A)
    (omega (arith, c.requires.wide, c.requires.inside)) c.with-larger.result c.with-larger.ensures c.in-Many.above
    (subst (λ (X : RowsAbove g.row.W). AreRowsAbove K A X) c.in-Many.is c.requires.link.above)

pub objects_with-having-requires : goal.objects_with-having-requires
objects_with-having-requires g c =
    let K : Context = c.args.rows.now in
    let A : Set = c.args.link.now.intent in
    let kept : FewRows g.row.W = c.as_ref-kept.result.now in
    let there : AreKept K A kept c.in-Few.objects =
    subst (λ (s : FewRows g.row.W). AreKept K A s c.in-Few.objects) (sym c.as_ref-kept.ensures)
    (subst (λ (X : RowsAbove g.row.W). AreRowsAbove K A X) c.in-Few.is c.requires.link.above) in (
      omega arith,
      (
        omega (arith, c.width-width.ensures.words),
        with_kept K A kept c.in-Few.objects c.args.i there c.requires.wide c.requires.inside c.deref.result.now c.deref.ensures.value,
      ),
    )

pub closure_of-requires : goal.closure_of-requires
closure_of-requires g c =
    let K : Context = c.args.rows.now in
    let A : Set = c.args.link.now.intent in
    let kept : FewRows g.row.W = c.as_ref-kept.result.now in
    let there : AreKept K A kept c.in-Few.objects =
    subst (λ (s : FewRows g.row.W). AreKept K A s c.in-Few.objects) (sym c.as_ref-kept.ensures)
    (subst (λ (X : RowsAbove g.row.W). AreRowsAbove K A X) c.in-Few.is c.requires.link.above) in
    let width : kept.rows.width ≡ K.width = ap (λ (X : Context). X.width) there.rows in (
      omega arith,
      (
        omega (arith, c.width-width.ensures.words),
        (
          subst (AreColumns kept.rows) (sym c.deref-in-Few.ensures.value) there.columns,
          (
            subst (λ (B : Set). HasObjects kept.rows B c.objects_with-having.result)
                (sym c.with-larger.ensures) c.objects_with-having.ensures,
            ap length c.with-larger.ensures ∙ length-set A c.args.i true ∙ (c.requires.wide ∙ sym width),
          ),
        ),
      ),
    )

pub returns-in-Few : goal.returns-in-Few
returns-in-Few g c =
    let K : Context = c.args.rows.now in
    let A : Set = c.args.link.now.intent in
    let there : AreKept K A c.in-Few.shared.value c.in-Few.objects =
    subst (λ (X : RowsAbove g.row.W). AreRowsAbove K A X) c.in-Few.is c.requires.link.above in
    c.closure_of.ensures ∙ closure_above K there.least A c.args.i there.part
    (omega (arith, c.requires.wide, c.requires.inside)) c.with-larger.result c.with-larger.ensures c.as_ref-kept.result.now.rows
    (ap (λ (s : FewRows g.row.W). s.rows) c.as_ref-kept.ensures ∙ there.rows)

pub closure_in-requires : goal.closure_in-requires
closure_in-requires g c =
    let K : Context = c.args.rows.now in
    let A : Set = c.args.link.now.intent in
    let i = c.args.i in
    let above : c.in-Many.above ≡ rows_above K A =
    subst (λ (X : RowsAbove g.row.W). AreRowsAbove K A X) c.in-Many.is c.requires.link.above in
    let width : c.in-Many.above.width ≡ K.width = ap (λ (X : Context). X.width) above in (
      omega arith,
      (
        omega (arith, c.width-width.ensures.words),
        (
          omega (arith, width, c.requires.inside),
          subst (λ (B : Set). (k : ℕ) → k < length c.in-Many.above.rows
              → within B (get_or c.in-Many.above.rows k []) ≡ get_or (get_or c.in-Many.above.rows k []) i false) (sym c.with-larger.ensures)
              (subst (λ (X : Context). (k : ℕ) → k < length X.rows
              → within (set A i true) (get_or X.rows k []) ≡ get_or (get_or X.rows k []) i false) (sym above)
              (λ k l. having_above K A i k c.requires.inside c.requires.wide l)),
        ),
      ),
    )
