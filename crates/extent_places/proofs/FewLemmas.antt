-- Few objects set apart: their places, and what a closure has of them.
use Rattle.std.proofs.Common.{◌≡◌, ℕ, zero, suc, ◌+◌, ◌-◌, ◌<◌, ◌≤◌, Bool, true, false, cond, List, [], ◌∷◌, ◌++◌, length, filter, drop}
use Rattle.std.proofs.Common.{take, get_or, set, refl, sym, ap, ap₂, ◌∙◌, subst, arith, inl, inr, length-set}
use Rattle.std.proofs.lemmas.Bool.{false≢true, cases_Bool}
use Rattle.std.proofs.lemmas.List.{length-map, take_all, take_more}
use Rattle.fca_model.specs.Sets.{Set, within, full, IsNextMember}
use Rattle.fca_model.specs.Context.{Context, closure, extent, extent_from}
use Rattle.fca_model.proofs.SetLemmas.{within_trans, within_refl}
use Rattle.lectic_concepts.proofs.IntentLemmas.{within_with}
use Rattle.extent_places.specs.Objects.{HasObjects, AreColumns, rows_above}
use Rattle.extent_places.proofs.ObjectLemmas.{has_all, all_kept}
use Rattle.extent_places.proofs.AboveLemmas.{closure_above, objects-closure}
use Rattle.extent_places.specs.declared.few.FewObjects.{FewObjects}
use Rattle.extent_places.specs.Few.{AreFew, chosen}
use Rattle.extent_places.specs.Places.{rows_at}
use Rattle.extent_places.proofs.PlaceLemmas.{rows_at-extent}

-- ---- places that are chosen

-- of the places of the rows that contain a part of A, those of the rows that contain A are the extent
chosen-extent_from : (L A : Set) → within L A ≡ true → (i : ℕ) (Rs : List Set) (S : Set) → length S ≡ length (filter (within L) Rs)
    → ((g : ℕ) → g < length (filter (within L) Rs) → get_or S g false ≡ within A (get_or (filter (within L) Rs) g []))
    → chosen S (extent_from i Rs L) ≡ extent_from i Rs A
chosen-extent_from L A h i [] [] long each = refl
chosen-extent_from L A h i [] (s ∷ S) long each = refl
chosen-extent_from L A h i (R ∷ Rs) S long each = by_first (chosen-extent_from L A h (i + 1) Rs) (within L R) refl S long each
  where
    rest : Set → List ℕ
    rest B = extent_from (i + 1) Rs B

    by_first : ((S : Set) → length S ≡ length (filter (within L) Rs)
        → ((g : ℕ) → g < length (filter (within L) Rs) → get_or S g false ≡ within A (get_or (filter (within L) Rs) g []))
        → chosen S (rest L) ≡ rest A)
        → (b : Bool) → within L R ≡ b → (S : Set) → length S ≡ length (cond b (R ∷ filter (within L) Rs) (filter (within L) Rs))
        → ((g : ℕ) → g < length (cond b (R ∷ filter (within L) Rs) (filter (within L) Rs))
        → get_or S g false ≡ within A (get_or (cond b (R ∷ filter (within L) Rs) (filter (within L) Rs)) g []))
        → chosen S (cond b (i ∷ rest L) (rest L)) ≡ cond (within A R) (i ∷ rest A) (rest A)
    by_first others true e [] long each = absurd (omega (arith, long))
    by_first others true e (s ∷ S) long each =
        ap₂ (λ b xs. cond b (i ∷ xs) xs) (each 0 (omega arith)) (others S (omega (arith, long)) (λ g l. each (suc g) (omega (arith, l))))
    by_first others false e S long each = elim (cases_Bool (within A R)) [
      | inl t ↦ absurd (false≢true (sym e ∙ within_trans L A R h t))
      | inr f ↦ others S long each ∙ sym (ap (λ b. cond b (i ∷ rest A) (rest A)) f)
    ]

-- the next one
chosen_step : (S : Set) (ps : List ℕ) (n : ℕ) → n < length S → n < length ps
    → chosen (drop n S) (drop n ps) ≡ cond (get_or S n false) (get_or ps n 0 ∷ chosen (drop (suc n) S) (drop (suc n) ps))
    (chosen (drop (suc n) S) (drop (suc n) ps))
chosen_step [] ps n l m = absurd (omega (arith, l))
chosen_step (b ∷ S) [] n l m = absurd (omega (arith, m))
chosen_step (b ∷ S) (p ∷ ps) zero l m = refl
chosen_step (b ∷ S) (p ∷ ps) (suc n) l m = chosen_step S ps n (omega (arith, l)) (omega (arith, m))

chosen_at : (S : Set) (ps : List ℕ) (n : ℕ) → n < length S → n < length ps
    → chosen (drop n S) (drop n ps) ≡ cond (get_or S n false) (get_or ps n 0 ∷ chosen (drop (n + 1) S) (drop (n + 1) ps))
    (chosen (drop (n + 1) S) (drop (n + 1) ps))
chosen_at S ps n l m =
    let next : suc n ≡ n + 1 = omega arith in
    chosen_step S ps n l m
    ∙ ap (λ k. cond (get_or S n false) (get_or ps n 0 ∷ chosen (drop k S) (drop k ps)) (chosen (drop k S) (drop k ps))) next

-- places of others are passed over
chosen_gap : (S : Set) (ps : List ℕ) (from end : ℕ) → length S ≡ length ps → from ≤ end → end ≤ length S
    → ((i : ℕ) → from ≤ i → i < end → get_or S i false ≡ false)
    → chosen (drop from S) (drop from ps) ≡ chosen (drop end S) (drop end ps)
chosen_gap S ps from end long le inside none = go (end - from) from refl le none
  where
    go : (n k : ℕ) → end - k ≡ n → k ≤ end → ((i : ℕ) → k ≤ i → i < end → get_or S i false ≡ false)
        → chosen (drop k S) (drop k ps) ≡ chosen (drop end S) (drop end ps)
    go zero k e l h = ap (λ j. chosen (drop j S) (drop j ps)) (omega (arith, e, l))
    go (suc n) k e l h =
        chosen_at S ps k (omega (arith, e, inside)) (omega (arith, e, inside, long))
        ∙ ap (λ b. cond b (get_or ps k 0 ∷ chosen (drop (k + 1) S) (drop (k + 1) ps)) (chosen (drop (k + 1) S) (drop (k + 1) ps)))
        (h k (omega arith) (omega (arith, e)))
        ∙ go n (k + 1) (omega (arith, e)) (omega (arith, e)) (λ i at before. h i (omega (arith, at)) before)

-- the next object's place, and the rest
pub chosen_next : (S : Set) (ps : List ℕ) (from m : ℕ) → length S ≡ length ps → IsNextMember S from m
    → chosen (drop from S) (drop from ps) ≡ get_or ps m 0 ∷ chosen (drop (m + 1) S) (drop (m + 1) ps)
chosen_next S ps from m long next =
    chosen_gap S ps from m long next.at_least (omega (arith, next.in_range)) next.least
    ∙ chosen_at S ps m next.in_range (omega (arith, next.in_range, long))
    ∙ ap (λ b. cond b (get_or ps m 0 ∷ chosen (drop (m + 1) S) (drop (m + 1) ps)) (chosen (drop (m + 1) S) (drop (m + 1) ps))) next.member

chosen_behind : (S : Set) (ps : List ℕ) → chosen (drop (length S) S) ps ≡ []
chosen_behind [] ps = refl
chosen_behind (b ∷ S) ps = chosen_behind S ps

-- no object is left
pub chosen_none : (S : Set) (ps : List ℕ) (from : ℕ) → length S ≡ length ps → from ≤ length S
    → ((i : ℕ) → from ≤ i → i < length S → get_or S i false ≡ false) → chosen (drop from S) (drop from ps) ≡ []
chosen_none S ps from long le none = chosen_gap S ps from (length S) long le (omega arith) none ∙ chosen_behind S (drop (length S) ps)

-- ---- few objects

few_are : (K : Context) (A : Set) {W : ℕ} (few : FewObjects W) (S : Set) → (w : AreFew K A few S) → HasObjects (rows_above K w.least) A S
few_are K A few S w = subst (λ (J : Context). HasObjects J A S) w.rows w.objects

-- the places of the objects of A are its extent
pub few-extent : (K : Context) (A : Set) {W : ℕ} (few : FewObjects W) (S : Set) → AreFew K A few S → chosen S few.places.items ≡ extent K A
few-extent K A few S w =
    let there = few_are K A few S w in
    ap (chosen S) w.places ∙ chosen-extent_from w.least A w.part 0 K.rows S there.long there.each

-- each object has a place
pub few_placed : (K : Context) (A : Set) {W : ℕ} (few : FewObjects W) (S : Set) → AreFew K A few S → length S ≡ length few.places.items
few_placed K A few S w =
    (few_are K A few S w).long ∙ sym (ap (λ (Rs : List Set). length Rs) (rows_at-extent K w.least))
    ∙ length-map (extent K w.least) (λ p. get_or K.rows p [])
    ∙ sym (ap (λ (ps : List ℕ). length ps) w.places)

-- the objects of A, set apart
pub few_apart : (K : Context) (A : Set) {W : ℕ} (few : FewObjects W) (S : Set) → few.places.items ≡ extent K A
    → few.rows ≡ record { width = K.width; rows = rows_at K.rows (extent K A) }
    → AreColumns few.rows few.columns.items → S ≡ full (length (extent K A)) → AreFew K A few S
few_apart K A few S places rows columns is =
    let above : few.rows ≡ rows_above K A = rows ∙ ap (λ (Rs : List Set). record { width = K.width; rows = Rs }) (rows_at-extent K A) in
    let long : length (extent K A) ≡ length (filter (within A) K.rows) =
    sym (length-map (extent K A) (λ p. get_or K.rows p [])) ∙ ap (λ (Rs : List Set). length Rs) (rows_at-extent K A) in
    record {
      least = A;
      part = within_refl A;
      places = places;
      rows = above;
      columns = columns;
      objects = subst (λ (J : Context). HasObjects J A S) (sym above)
          (has_all (rows_above K A) A S (all_kept (within A) K.rows) (is ∙ ap full long));
    }

-- one attribute more
pub few_with : (K : Context) (A D : Set) {W : ℕ} (few : FewObjects W) (S T : Set) (i : ℕ) → (w : AreFew K A few S) → length A ≡ K.width
    → i < K.width
    → HasObjects few.rows (set A i true) T → D ≡ closure K (set A i true) → AreFew K D few T
few_with K A D few S T i w wide inside has is =
    let inner : length (set A i true) ≡ few.rows.width = length-set A i true ∙ wide ∙ sym (ap (λ (J : Context). J.width) w.rows) in
    record {
      least = w.least;
      part = within_trans w.least A D w.part (within_with K A i wide inside D is);
      places = w.places;
      rows = w.rows;
      columns = w.columns;
      objects = subst (λ (X : Set). HasObjects few.rows X T)
          (closure_above K w.least A i w.part (omega (arith, wide, inside)) (set A i true) refl few.rows w.rows ∙ sym is)
          (objects-closure few.rows (set A i true) T inner has);
    }

-- ---- the last row

abbrev pub but_last : Context → Context
but_last K = record { width = K.width; rows = take (length K.rows - 1) K.rows }

abbrev pub last_row : Context → Set
last_row K = get_or K.rows (length K.rows - 1) []

pub with_last : (K : Context) → 0 < length K.rows → K ≡ record { width = K.width; rows = (but_last K).rows ++ last_row K ∷ [] }
with_last K some = ap (λ (Rs : List Set). record { width = K.width; rows = Rs })
    (sym (take_all (length K.rows - 1 + 1) K.rows (omega (arith, some))) ∙ take_more K.rows (length K.rows - 1) [] (omega (arith, some)))
