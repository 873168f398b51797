use Rattle.std.proofs.Common.{◌≡◌, ◌∙◌, sym, ap, subst, arith}
use Rattle.fca_model.specs.Sets.{Set}
use Rattle.fca_model.specs.Context.{Context}
use Rattle.fca_model.proofs.SetLemmas.{within_trans}
use Rattle.extent_places.specs.Objects.{HasObjects}
use Rattle.lattice_covers.specs.declared.chain.RowsAbove.{RowsAbove}
use Rattle.lattice_covers.specs.declared.chain.FewRows.{FewRows}
use Rattle.extent_places.specs.Objects.{rows_above}
use Rattle.lattice_covers.specs.Neighbours.{AreRowsAbove, AreKept}
use Rattle.extent_places.proofs.AboveLemmas.{rows_above-rows_above}
use Rattle.lattice_covers.proofs.chain.rows_among.Goals as goal

pub keep_rows-requires : goal.keep_rows-requires
keep_rows-requires g c =
    let K : Context = c.args.rows.now in
    let L : Set = c.args.link.now.intent in
    let A : Set = c.args.a.now in
    let there : c.in-Many.above ≡ rows_above K L =
    subst (λ (X : RowsAbove g.row.W). AreRowsAbove K L X) c.in-Many.is c.requires.link.above in (
      omega (arith, c.width-width.ensures.words),
      (
        omega arith,
        (
          omega arith,
          c.in_ok-larger_rows-in-Many.ensures ∙ ap (λ X. rows_above X A) there
              ∙ rows_above-rows_above K L A c.requires.larger,
        ),
      ),
    )

pub returns-in_ok-clone-in-Few : goal.returns-in_ok-clone-in-Few
returns-in_ok-clone-in-Few g c =
    let K : Context = c.args.rows.now in
    let L : Set = c.args.link.now.intent in
    let A : Set = c.args.a.now in
    let there : AreKept K L c.in-Few.kept.value c.in-Few.objects =
    subst (λ (X : RowsAbove g.row.W). AreRowsAbove K L X) c.in-Few.is c.requires.link.above in
    subst (λ (kept : FewRows g.row.W). AreKept K A kept c.objects_above-fewer.result) (sym c.in_ok-clone-in-Few.ensures.cases)
    (record {
      least = there.least;
      part = within_trans there.least L A there.part c.requires.larger;
      rows = there.rows;
      few = there.few;
      columns = there.columns;
      objects = subst (λ (kept : FewRows g.row.W). HasObjects kept.rows A c.objects_above-fewer.result) c.deref.ensures
          c.objects_above-fewer.ensures;
    })
