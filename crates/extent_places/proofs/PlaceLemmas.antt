-- The places of an extent, the rows there, and the places that are left of them for a larger set.
use Rattle.std.proofs.Common.{◌≡◌, ℕ, zero, suc, ◌+◌, ◌<◌, Bool, true, false, cond, Some, None, List, [], ◌∷◌, ◌++◌, All, Option, length}
use Rattle.std.proofs.Common.{map, filter, drop, get_or, set, slice_get, refl, sym, ap, ap₂, ◌∙◌, subst, arith, append_assoc, inl, inr}
use Rattle.std.proofs.Common.{get_or-set_same, get_or-set_other, length-set}
use Rattle.std.proofs.lemmas.Bool.{false≢true, and_parts, and_from, cases_eq}
use Rattle.std.proofs.lemmas.Option.{get_or_from_slice_get}
use Rattle.std.proofs.lemmas.List.{get_or_at, length-map, length_push, get_or_read, at_drop_more, drop-map, get_or-map}
use Rattle.std.specs.Prelude.{fold}
use Rattle.std.proofs.lemmas.List.Elements.{All-nil, All-cons, All-head, All-tail}
use Rattle.std.proofs.lemmas.List.Sums.{AllPass-from_list_all}
use Rattle.std.specs.List.{list_all}
use Rattle.fca_model.specs.Sets.{Set, meet, full, within}
use Rattle.fca_model.specs.Context.{Context, closure, extent, extent_from}
use Rattle.fca_model.specs.Implications.{rule, respects}
use Rattle.fca_model.proofs.SetLemmas.{within_refl, within_trans, within_from_places, within_at_place, set_within, within_antisymm}
use Rattle.fca_model.proofs.SetLemmas.{within_full}
use Rattle.fca_model.proofs.ListLemmas.{bool_iff, filter_agree_on, filter_passes, filter_all}
use Rattle.attr_bits.proofs.LargerLemmas.{met_all}
use Rattle.fca_model.proofs.ClosureLemmas.{closure_extensive, closure_in_rows, respects_at, length-closure, length-meets, within-meets}
use Rattle.lectic_concepts.specs.Concepts.{is_above}
use Rattle.lectic_concepts.proofs.ExtentLemmas.{filter-extent}
use Rattle.extent_places.specs.Places.{row_at, has_at, rows_at, column}

-- ---- places are those of rows

inside_step : (i n : ℕ) (b : Bool) (ps : List ℕ) → i < n → All (λ p. p < n) ps → All (λ p. p < n) (cond b (i ∷ ps) ps)
inside_step i n true ps here rest = All-cons (λ p. p < n) i ps here rest
inside_step i n false ps here rest = rest

extent_from-inside : (i n : ℕ) (Rs : List Set) (A : Set) → i + length Rs ≡ n → All (λ p. p < n) (extent_from i Rs A)
extent_from-inside i n [] A e = All-nil (λ p. p < n)
extent_from-inside i n (R ∷ Rs) A e = inside_step i n (within A R) (extent_from (i + 1) Rs A) (omega (arith, e))
    (extent_from-inside (i + 1) n Rs A (omega (arith, e)))

pub extent_inside : (K : Context) (A : Set) → All (λ p. p < length K.rows) (extent K A)
extent_inside K A = extent_from-inside 0 (length K.rows) K.rows A (omega arith)

-- ---- the rows at the places of an extent are those that contain the set

rows_step : (f : ℕ → Set) (i : ℕ) (R : Set) (b : Bool) (ps : List ℕ) (Qs : List Set) → f i ≡ R → map f ps ≡ Qs
    → map f (cond b (i ∷ ps) ps) ≡ cond b (R ∷ Qs) Qs
rows_step f i R true ps Qs here rest = ap₂ (λ x xs. x ∷ xs) here rest
rows_step f i R false ps Qs here rest = rest

rows_at-extent_from : (A : Set) (done Rs : List Set) → rows_at (done ++ Rs) (extent_from (length done) Rs A) ≡ filter (within A) Rs
rows_at-extent_from A done [] = refl
rows_at-extent_from A done (R ∷ Rs) =
    rows_step (row_at (done ++ R ∷ Rs)) (length done) R (within A R) (extent_from (length done + 1) Rs A) (filter (within A) Rs)
    (get_or_at done R Rs [] (length done) refl)
    (subst (λ k. rows_at (done ++ R ∷ Rs) (extent_from k Rs A) ≡ filter (within A) Rs) (length_push done R)
    (subst (λ Zs. rows_at Zs (extent_from (length (done ++ R ∷ [])) Rs A) ≡ filter (within A) Rs) (append_assoc done (R ∷ []) Rs)
    (rows_at-extent_from A (done ++ R ∷ []) Rs)))

pub rows_at-extent : (K : Context) (A : Set) → rows_at K.rows (extent K A) ≡ filter (within A) K.rows
rows_at-extent K A = rows_at-extent_from A [] K.rows

-- ---- one attribute more

-- what contains A contains A with i where it has i
pub within-with : (A R : Set) (i : ℕ) → i < length A → within A R ≡ true → within (set A i true) R ≡ get_or R i false
within-with A R i inside h = bool_iff (within (set A i true) R) (get_or R i false)
    (λ t. within_at_place (set A i true) R t i (get_or-set_same A i true false inside))
    (λ t. set_within A R i h t)

with_at : (Rs : List Set) (A : Set) (i : ℕ) → i < length A → (p : ℕ) → is_above A (slice_get Rs p) ≡ true
    → has_at Rs i p ≡ is_above (set A i true) (slice_get Rs p)
with_at Rs A i inside p h = cases (slice_get Rs p) refl h
  where
    cases : (r : Option Set) → slice_get Rs p ≡ r → is_above A r ≡ true → has_at Rs i p ≡ is_above (set A i true) r
    cases None e t = absurd (false≢true t)
    cases (Some R) e t = ap (λ Q. get_or Q i false) (get_or_from_slice_get Rs p R [] e) ∙ sym (within-with A R i inside t)

larger : (A : Set) (i : ℕ) → i < length A → within A (set A i true) ≡ true
larger A i inside = within_from_places A (set A i true) (λ j l t. elim (cases_eq j i) [
  | inl here ↦ ap (λ k. get_or (set A i true) k false) here ∙ get_or-set_same A i true false inside
  | inr other ↦ get_or-set_other A i j true false other ∙ t
])

-- of the objects of A those of A with i are those that have i
pub extent_with : (K : Context) (A : Set) (i : ℕ) → i < length A → filter (has_at K.rows i) (extent K A) ≡ extent K (set A i true)
extent_with K A i inside =
    let all : list_all (λ p. is_above A (slice_get K.rows p)) (extent K A) ≡ true =
    subst (λ ps. list_all (λ p. is_above A (slice_get K.rows p)) ps ≡ true) (filter-extent K A A (within_refl A))
    (filter_passes (λ p. is_above A (slice_get K.rows p)) (extent K A)) in
    filter_agree_on (λ p. is_above A (slice_get K.rows p)) (has_at K.rows i) (λ p. is_above (set A i true) (slice_get K.rows p))
    (λ p h. with_at K.rows A i inside p h) (extent K A) all
    ∙ filter-extent K A (set A i true) (larger A i inside)

-- ---- the closure has the same objects

same_rows : (A C : Set) (i : ℕ) (Rs : List Set) → within A C ≡ true → list_all (λ R. respects R (rule A C)) Rs ≡ true
    → extent_from i Rs C ≡ extent_from i Rs A
same_rows A C i [] h all = refl
same_rows A C i (R ∷ Rs) h all =
    let parts = and_parts (respects R (rule A C)) (list_all (λ Q. respects Q (rule A C)) Rs) all in
    ap₂ (λ b ps. cond b (i ∷ ps) ps)
    (bool_iff (within C R) (within A R) (λ t. within_trans A C R h t) (λ t. respects_at R (rule A C) parts.0 t))
    (same_rows A C (i + 1) Rs h parts.1)

pub extent-closure : (K : Context) (A : Set) → length A ≡ K.width → extent K (closure K A) ≡ extent K A
extent-closure K A wide = same_rows A (closure K A) 0 K.rows (closure_extensive K A wide) (closure_in_rows K A)

-- ---- the meet of rows at places

list_all-drop : (p : Set → Bool) (k : ℕ) (Rs : List Set) → list_all p Rs ≡ true → list_all p (drop k Rs) ≡ true
list_all-drop p zero Rs h = h
list_all-drop p (suc k) [] h = refl
list_all-drop p (suc k) (R ∷ Rs) h = list_all-drop p k Rs (and_parts (p R) (list_all p Rs) h).1

-- the next row
pub met_more : (Rs : List Set) (places : List ℕ) (k : ℕ) (M N X total : Set) → k < length places → get_or places k 0 < length Rs
    → X ≡ get_or Rs (get_or places k 0) X → N ≡ meet M X
    → fold meet M (rows_at Rs (drop k places)) ≡ total → fold meet N (rows_at Rs (drop (k + 1) places)) ≡ total
met_more Rs places k M N X total more inside is met h =
    let rest : List Set = rows_at Rs (drop (k + 1) places) in
    ap (λ Z. fold meet Z rest) (met ∙ ap (meet M) (get_or_read Rs (get_or places k 0) X inside is []))
    ∙ sym (at_drop_more (λ ps. fold meet M (rows_at Rs ps)) places k 0 more) ∙ h

-- a meet that begins with one of the rows
pub met_from_row : (K : Context) (A : Set) (places : List ℕ) (k : ℕ) (R : Set) → places ≡ extent K A → k < length places
    → R ≡ row_at K.rows (get_or places k 0) → length R ≡ K.width → fold meet R (rows_at K.rows places) ≡ closure K A
met_from_row K A places k R is inside row wide =
    let Fs : List Set = filter (within A) K.rows in
    let C : Set = closure K A in
    let F : Set = fold meet R Fs in
    let whole : rows_at K.rows places ≡ Fs = ap (rows_at K.rows) is ∙ rows_at-extent K A in
    let long : length (rows_at K.rows places) ≡ length places = length-map places (row_at K.rows) in
    let here : R ≡ get_or Fs k [] = row ∙ sym (get_or-map (row_at K.rows) places k 0 [] inside) ∙ ap (λ Qs. get_or Qs k []) whole in
    let above : list_all (within C) Fs ≡ true =
    (and_parts (within C (full K.width)) (list_all (within C) Fs) (sym (within-meets C (full K.width) Fs) ∙ within_refl C)).1 in
    let first : within C R ≡ true =
    subst (λ X. within C X ≡ true) (sym here)
    (AllPass-from_list_all (within C) Fs above k [] (omega (arith, inside, long, ap length whole))) in
    let parts = and_parts (within F R) (list_all (within F) Fs) (sym (within-meets F R Fs) ∙ within_refl F) in
    let size : length F ≡ K.width = length-meets R Fs ∙ wide in
    ap (fold meet R) whole
    ∙ within_antisymm F C (size ∙ sym (length-closure K A))
    (within-meets F (full K.width) Fs
    ∙ and_from (within F (full K.width)) (list_all (within F) Fs) (within_full K.width F size) parts.1)
    (within-meets C R Fs ∙ and_from (within C R) (list_all (within C) Fs) first above)

-- rows that contain A change nothing of what lies within A
pub met_enough : (K : Context) (A : Set) (places : List ℕ) (k : ℕ) (N total : Set) → places ≡ extent K A → within N A ≡ true
    → fold meet N (rows_at K.rows (drop k places)) ≡ total → N ≡ total
met_enough K A places k N total is inside h =
    let whole : rows_at K.rows places ≡ filter (within A) K.rows = ap (rows_at K.rows) is ∙ rows_at-extent K A in
    let all : list_all (within A) (drop k (rows_at K.rows places)) ≡ true =
    list_all-drop (within A) k (rows_at K.rows places)
    (subst (λ Qs. list_all (within A) Qs ≡ true) (sym whole) (filter_passes (within A) K.rows)) in
    sym (met_all A N inside (drop k (rows_at K.rows places)))
    ∙ ap (fold meet N) (filter_all (within A) (drop k (rows_at K.rows places)) all)
    ∙ ap (fold meet N) (drop-map (row_at K.rows) k places) ∙ h

-- each place of an extent is that of a row
pub all_placed : (K J : Context) (A : Set) (places : List ℕ) → J ≡ K → places ≡ extent K A → All (λ p. p < length J.rows) places
all_placed K J A places same is = subst (λ (X : Context). All (λ p. p < length X.rows) places) (sym same)
    (subst (All (λ p. p < length K.rows)) (sym is) (extent_inside K A))

-- the places that were kept are those of the objects of A with i
pub kept_with : (K J : Context) (A B : Set) (i : ℕ) (places found : List ℕ) → J ≡ K → places ≡ extent K A → i < length A → B ≡ set A i true
    → found ≡ filter (has_at J.rows i) places → found ≡ extent J B
kept_with K J A B i places found same is inside with_it kept =
    kept ∙ ap (λ (X : Context). filter (has_at X.rows i) places) same ∙ ap (filter (has_at K.rows i)) is ∙ extent_with K A i inside
    ∙ ap₂ (λ (X : Context) (C : Set). extent X C) (sym same) (sym with_it)

-- and those of the closure
pub kept_closed : (K : Context) (A D : Set) (i : ℕ) (found : List ℕ) → length A ≡ K.width → found ≡ extent K (set A i true)
    → D ≡ closure K (set A i true) → found ≡ extent K D
kept_closed K A D i found wide kept is = kept ∙ sym (extent-closure K (set A i true) (length-set A i true ∙ wide)) ∙ ap (extent K) (sym is)

-- ---- columns

-- the places of a column are those of the rows that have the attribute
agree : (p q : ℕ → Bool) (n : ℕ) → ((x : ℕ) → x < n → p x ≡ q x) → (xs : List ℕ) → All (λ x. x < n) xs → filter p xs ≡ filter q xs
agree p q n h [] inside = refl
agree p q n h (x ∷ xs) inside =
    ap₂ (λ b ys. cond b (x ∷ ys) ys) (h x (All-head (λ y. y < n) x xs inside)) (agree p q n h xs (All-tail (λ y. y < n) x xs inside))

pub column-places : (Rs : List Set) (i : ℕ) (ps : List ℕ) → All (λ p. p < length Rs) ps
    → filter (λ p. get_or (column Rs i) p false) ps ≡ filter (has_at Rs i) ps
column-places Rs i ps inside = agree (λ p. get_or (column Rs i) p false) (has_at Rs i) (length Rs)
    (λ p l. get_or-map (λ X. get_or X i false) Rs p [] false l) ps inside

pub column_kept : (K J : Context) (A C : Set) (i : ℕ) (places found : List ℕ) → J ≡ K → places ≡ extent K A → C ≡ column K.rows i
    → found ≡ filter (λ p. get_or C p false) places → found ≡ filter (has_at J.rows i) places
column_kept K J A C i places found same is there kept =
    kept ∙ ap (λ (X : Set). filter (λ p. get_or X p false) places) there ∙ column-places K.rows i places (all_placed K K A places refl is)
    ∙ ap (λ (X : Context). filter (has_at X.rows i) places) (sym same)
