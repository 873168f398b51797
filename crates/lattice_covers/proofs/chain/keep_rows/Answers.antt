use Rattle.std.proofs.Common.{◌∙◌, sym, ap, subst, arith}
use Rattle.std.specs.List.{list_all}
use Rattle.fca_model.specs.Sets.{Set, within, full}
use Rattle.fca_model.specs.Context.{Context}
use Rattle.fca_model.proofs.SetLemmas.{within_refl}
use Rattle.lattice_covers.specs.declared.chain.FewRows.{FewRows}
use Rattle.lattice_covers.specs.Neighbours.{AreKept}
use Rattle.extent_places.proofs.ObjectLemmas.{has_all, all_kept}
use Rattle.lattice_covers.proofs.chain.keep_rows.Goals as goal

pub returns : goal.returns
returns g c =
    let K : Context = c.args.rows.now in
    let A : Set = c.args.a.now in
    subst (λ (kept : FewRows g.row.W). AreKept K A kept c.full-objects.result) (sym c.in_ok-kept.ensures.ok)
    (record {
      least = A;
      part = within_refl A;
      rows = c.requires;
      few = omega (arith, c.if-count-gt-FEW_OBJECTS.false, c.len-count.ensures);
      columns = c.in_ok-columns.ensures;
      objects = has_all c.args.above A c.full-objects.result
          (ap (λ (M : Context). list_all (within A) M.rows) c.requires ∙ all_kept (within A) K.rows)
          (c.full-objects.ensures ∙ ap full c.len-count.ensures);
    })
