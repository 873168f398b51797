-- The rows that contain A are among those that contain a part L of A, and they give the closures of what contains A.
use Rattle.std.proofs.Common.{◌≡◌, ℕ, ◌<◌, true, false, ◌&&◌, cond, List, [], ◌∷◌, length, get_or, set, filter, refl, sym, ap, ap₂, ◌∙◌}
use Rattle.std.proofs.Common.{subst, inl, inr, get_or-set_same, get_or-set_other}
use Rattle.std.proofs.lemmas.Bool.{and_parts, and_from, cases_eq}
use Rattle.fca_model.specs.Sets.{Set, within}
use Rattle.fca_model.specs.Context.{Context, closure}
use Rattle.fca_model.proofs.SetLemmas.{within_trans, within_from_places}
use Rattle.fca_model.proofs.ListLemmas.{bool_iff, filter-filter}
use Rattle.lectic_concepts.proofs.BranchLemmas.{closure_among}
use Rattle.fca_model.proofs.ClosureLemmas.{closure_extensive}
use Rattle.extent_places.specs.Objects.{HasObjects, rows_above}
use Rattle.extent_places.proofs.ObjectLemmas.{row, closure_in_row}

pub rows_above-rows_above : (K : Context) (L A : Set) → within L A ≡ true → rows_above (rows_above K L) A ≡ rows_above K A
rows_above-rows_above K L A h = ap (λ (Rs : List Set). record { width = K.width; rows = Rs })
    (filter-filter (within A) (within L) K.rows ∙ same_rows K.rows)
  where
    same_rows : (Rs : List Set) → filter (λ R. within L R && within A R) Rs ≡ filter (within A) Rs
    same_rows [] = refl
    same_rows (R ∷ Rs) = ap₂ (λ b Zs. cond b (R ∷ Zs) Zs)
        (bool_iff (within L R && within A R) (within A R) (λ t. (and_parts (within L R) (within A R) t).1)
        (λ t. and_from (within L R) (within A R) (within_trans L A R h t) t)) (same_rows Rs)

-- the rows that contain a part L of A give the closures of A with one attribute more
pub closure_above : (K : Context) (L A : Set) (i : ℕ) → within L A ≡ true → i < length A → (B : Set) → B ≡ set A i true → (above : Context)
    → above ≡ rows_above K L
    → closure above B ≡ closure K (set A i true)
closure_above K L A i part inside B b above is =
    ap (λ X. closure X B) is ∙ closure_among K L B
    (subst (λ X. within L X ≡ true) (sym b) (within_trans L A (set A i true) part
    (within_from_places A (set A i true) (λ j l t. elim (cases_eq j i) [
      | inl here ↦ ap (λ x. get_or (set A i true) x false) here ∙ get_or-set_same A i true false inside
      | inr other ↦ get_or-set_other A i j true false other ∙ t
    ])))) ∙ ap (closure K) b

-- the closure of A has the objects of A
pub objects-closure : (K : Context) (A S : Set) → length A ≡ K.width → HasObjects K A S → HasObjects K (closure K A) S
objects-closure K A S wide s = record {
  long = s.long;
  each = λ g l. s.each g l ∙ bool_iff (within A (row K g)) (within (closure K A) (row K g)) (closure_in_row K A g l)
      (within_trans A (closure K A) (row K g) (closure_extensive K A wide));
}
