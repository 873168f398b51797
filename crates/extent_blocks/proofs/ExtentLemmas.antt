-- Extents of larger sets: sets between a set and its closure have the same rows.
use Rattle.std.proofs.Common.{◌≡◌, ℕ, ◌<◌, true, false, ◌&&◌, List, length, set, ap, ◌∙◌, ltb}
use Rattle.std.proofs.lemmas.Bool.{and_parts, and_from}
use Rattle.std.proofs.lemmas.List.{get_or-set_same}
use Rattle.fca_model.specs.Sets.{Set, within}
use Rattle.fca_model.specs.Context.{Context, closure}
use Rattle.fca_model.proofs.ListLemmas.{bool_iff}
use Rattle.fca_model.proofs.SetLemmas.{within_trans, within_at_place, set_within}
use Rattle.extent_blocks.specs.Blocks.{NumberedBlock, IsExtent, IsExtentWith, in_blocks, row_at, contains_at, has_at}
use Rattle.extent_blocks.proofs.ClosureSteps.{row_above}

-- a larger set within the closure has the same rows
pub same_rows : (K : Context) (X D : Set) → within X D ≡ true → within D (closure K X) ≡ true → (g : ℕ)
    → contains_at K X g ≡ contains_at K D g
same_rows K X D up shared g = bool_iff (contains_at K X g) (contains_at K D g)
    (λ t. and_from (ltb g (length K.rows)) (within D (row_at K g)) (and_parts (ltb g (length K.rows)) (within X (row_at K g)) t).0
    (within_trans D (closure K X) (row_at K g) shared (row_above K X g t)))
    (λ t. let p = and_parts (ltb g (length K.rows)) (within D (row_at K g)) t in
    and_from (ltb g (length K.rows)) (within X (row_at K g)) p.0 (within_trans X D (row_at K g) up p.1))

-- one attribute more
pub contains_with : (K : Context) (A : Set) (i : ℕ) → i < length A → within A (set A i true) ≡ true → (g : ℕ)
    → (contains_at K A g && has_at K i g) ≡ contains_at K (set A i true) g
contains_with K A i inside up g = bool_iff (contains_at K A g && has_at K i g) (contains_at K (set A i true) g)
    (λ t. let p = and_parts (contains_at K A g) (has_at K i g) t in
    let q = and_parts (ltb g (length K.rows)) (within A (row_at K g)) p.0 in
    and_from (ltb g (length K.rows)) (within (set A i true) (row_at K g)) q.0 (set_within A (row_at K g) i q.1 p.1))
    (λ t. let q = and_parts (ltb g (length K.rows)) (within (set A i true) (row_at K g)) t in
    and_from (contains_at K A g) (has_at K i g)
    (and_from (ltb g (length K.rows)) (within A (row_at K g)) q.0 (within_trans A (set A i true) (row_at K g) up q.1))
    (within_at_place (set A i true) (row_at K g) q.1 i (get_or-set_same A i true false inside)))

-- the extent of what contains A and i, and lies within the closure
pub extent_larger : (K : Context) (A D : Set) (i : ℕ) (Ps : List NumberedBlock) → IsExtent K A Ps → i < length A → within A (set A i true) ≡ true
    → within (set A i true) D ≡ true → within D (closure K (set A i true)) ≡ true → IsExtentWith K D i Ps
extent_larger K A D i Ps extent inside up above shared g =
    ap (λ b. b && has_at K i g) (extent g) ∙ contains_with K A i inside up g ∙ same_rows K (set A i true) D above shared g

pub extent_shared : (K : Context) (D B : Set) (i : ℕ) (Ps : List NumberedBlock) → IsExtentWith K D i Ps → within D B ≡ true
    → within B (closure K D) ≡ true → IsExtentWith K B i Ps
extent_shared K D B i Ps extent up shared g = extent g ∙ same_rows K D B up shared g

-- the places that are left
pub extent_left : (K : Context) (B : Set) (i : ℕ) (Ps Qs : List NumberedBlock) → IsExtentWith K B i Ps
    → ((g : ℕ) → in_blocks Qs g ≡ (in_blocks Ps g && has_at K i g)) → IsExtent K B Qs
extent_left K B i Ps Qs extent left g = left g ∙ extent g
