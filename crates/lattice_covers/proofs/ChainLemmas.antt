-- Few rows that are kept.
use Rattle.std.proofs.Common.{◌≡◌, ℕ, ◌<◌, List, length, sym, ap, ◌∙◌, subst, arith}
use Rattle.fca_model.specs.Sets.{Set}
use Rattle.fca_model.specs.Context.{Context}
use Rattle.extent_places.specs.Objects.{AreColumns, HasObjects}
use Rattle.lattice_covers.specs.declared.chain.FewRows.{FewRows}
use Rattle.lattice_covers.specs.Neighbours.{AreKept}

-- what `objects_with` requires for A and i
pub with_kept : (K : Context) (A : Set) {W : ℕ} (kept : FewRows W) (S : Set) (i : ℕ) → AreKept K A kept S → length A ≡ K.width → i < K.width
    → (Cs : List Set) → Cs ≡ kept.columns.items
    → AreColumns kept.rows Cs × (HasObjects kept.rows A S × ((length A ≡ kept.rows.width) × (i < kept.rows.width)))
with_kept K A kept S i there wide inside Cs is =
    let width : kept.rows.width ≡ K.width = ap (λ (X : Context). X.width) there.rows in
    (subst (AreColumns kept.rows) (sym is) there.columns, (there.objects, (wide ∙ sym width, omega (arith, width, inside))))
