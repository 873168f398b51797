-- Columns, place by place.
use Rattle.std.proofs.Common.{◌≡◌, ◌≢◌, ℕ, zero, suc, ◌+◌, ◌/◌, ◌%◌, ◌<◌, ◌≤◌, Bool, true, false, ◌&&◌, List, [], ◌∷◌, ◌++◌, All, length}
use Rattle.std.proofs.Common.{get_or}
use Rattle.std.proofs.Common.{set, map, replicate, sym, ap, ◌∙◌, subst, arith, ltb, inl, inr}
use Rattle.std.proofs.lemmas.Bool.{false≢true, and_parts, and_from, cases_eq, cases_lt, lt-ltb, ltb-true}
use Rattle.std.proofs.lemmas.List.{get_or_past, get_or-set_same, get_or-set_other, length-map, get_or_push}
use Rattle.std.proofs.lemmas.List.{get_or_append_left, map-append, length-set}
use Rattle.std.proofs.lemmas.List.Elements.{All-get_or, All-from_get_or}
use Rattle.fca_model.specs.Sets.{Set}
use Rattle.fca_model.specs.Context.{Context}
use Rattle.fca_model.proofs.ListLemmas.{bool_iff}
use Rattle.fca_model.proofs.SetLemmas.{get_or-empty}
use Rattle.extent_blocks.specs.Blocks.{in_column, has_at}

-- ---- no places

no_block : (n m k j : ℕ) → get_or (get_or (replicate n (replicate m false)) k []) j false ≡ false
no_block zero m k j = ap (λ X. get_or X j false) (get_or_past [] k [] (omega arith)) ∙ get_or_past [] j false (omega arith)
no_block (suc n) m zero j = get_or-empty m j
no_block (suc n) m (suc k) j = no_block n m k j

pub empty_column : (n : ℕ) (Cs : List Set) → Cs ≡ replicate n (replicate 256 false) → (g : ℕ) → in_column Cs g ≡ false
empty_column n Cs e g = ap (λ Xs. in_column Xs g) e ∙ no_block n 256 (g / 256) (g % 256)

-- ---- one place more

module _ (Cs : List Set) (p : ℕ) (C N : Set) (inside : p / 256 < length Cs) (is : C ≡ get_or Cs (p / 256) []) (wide : length C ≡ 256)
    (n : N ≡ set C (p % 256) true) where
  placed_same : in_column (set Cs (p / 256) N) p ≡ true
  placed_same =
      ap (λ X. get_or X (p % 256) false) (get_or-set_same Cs (p / 256) N [] inside ∙ n)
      ∙ get_or-set_same C (p % 256) true false (omega (arith, wide))

  placed_block : (g : ℕ) → g / 256 ≡ p / 256 → g % 256 ≢ p % 256 → in_column (set Cs (p / 256) N) g ≡ in_column Cs g
  placed_block g e ne =
      ap (λ k. get_or (get_or (set Cs (p / 256) N) k []) (g % 256) false) e
      ∙ ap (λ X. get_or X (g % 256) false) (get_or-set_same Cs (p / 256) N [] inside ∙ n)
      ∙ get_or-set_other C (p % 256) (g % 256) true false ne
      ∙ ap (λ X. get_or X (g % 256) false) (is ∙ ap (λ k. get_or Cs k []) (sym e))

  placed_other : (g : ℕ) → g ≢ p → in_column (set Cs (p / 256) N) g ≡ in_column Cs g
  placed_other g ne = elim (cases_eq (g / 256) (p / 256)) [
    | inl e ↦ placed_block g e (λ m. ne (omega (arith, e, m)))
    | inr other ↦ ap (λ X. get_or X (g % 256) false) (get_or-set_other Cs (p / 256) (g / 256) N [] other)
  ]

  -- the places before p, and p itself
  pub placed : (b : ℕ → Bool) → b p ≡ true → ((g : ℕ) → in_column Cs g ≡ (ltb g p && b g)) → (g : ℕ)
      → in_column (set Cs (p / 256) N) g ≡ (ltb g (p + 1) && b g)
  placed b here h g = elim (cases_eq g p) [
    | inl e ↦ ap (in_column (set Cs (p / 256) N)) e ∙ placed_same
        ∙ sym (and_from (ltb g (p + 1)) (b g) (lt-ltb g (p + 1) (omega (arith, e))) (ap b e ∙ here))
    | inr ne ↦ placed_other g ne ∙ h g ∙ before_next g p b ne
  ]
    where
      before_next : (g p : ℕ) (b : ℕ → Bool) → g ≢ p → (ltb g p && b g) ≡ (ltb g (p + 1) && b g)
      before_next g p b ne = bool_iff (ltb g p && b g) (ltb g (p + 1) && b g)
          (λ t. let q = and_parts (ltb g p) (b g) t in
          and_from (ltb g (p + 1)) (b g) (lt-ltb g (p + 1) (omega (arith, ltb-true g p q.0))) q.1)
          (λ t. let q = and_parts (ltb g (p + 1)) (b g) t in
          and_from (ltb g p) (b g) (lt-ltb g p (omega (arith, ltb-true g (p + 1) q.0, ne))) q.1)

-- a place that is left out
pub left_out : (Cs : List Set) (p : ℕ) (b : ℕ → Bool) → b p ≡ false → ((g : ℕ) → in_column Cs g ≡ (ltb g p && b g)) → (g : ℕ)
    → in_column Cs g ≡ (ltb g (p + 1) && b g)
left_out Cs p b out h g = h g ∙ bool_iff (ltb g p && b g) (ltb g (p + 1) && b g)
    (λ t. let q = and_parts (ltb g p) (b g) t in and_from (ltb g (p + 1)) (b g) (lt-ltb g (p + 1) (omega (arith, ltb-true g p q.0))) q.1)
    (λ t. let q = and_parts (ltb g (p + 1)) (b g) t in
    elim (cases_eq g p) [
      | inl e ↦ absurd (false≢true (sym out ∙ ap b (sym e) ∙ q.1))
      | inr ne ↦ and_from (ltb g p) (b g) (lt-ltb g p (omega (arith, ltb-true g (p + 1) q.0, ne))) q.1
    ])

pub all_wide : (Cs : List Set) (k : ℕ) (N : Set) → length N ≡ 256 → All (λ B. length B ≡ 256) Cs → All (λ B. length B ≡ 256) (set Cs k N)
all_wide Cs k N e h = All-from_get_or (λ B. length B ≡ 256) (set Cs k N) [] (λ i l.
    let m : i < length Cs = omega (arith, l, length-set Cs k N) in
    elim (cases_eq i k) [
      | inl here ↦ ap length (ap (λ j. get_or (set Cs k N) j []) here ∙ get_or-set_same Cs k N [] (omega (arith, m, here))) ∙ e
      | inr ne ↦ ap length (get_or-set_other Cs k i N [] ne) ∙ All-get_or (λ B. length B ≡ 256) Cs i [] m h
    ])

-- ---- the columns of all attributes

pub columns_push : {V : Type 0} (f : V → List Set) (P : ℕ → List Set → Type 0) (xs : List V) (v : V) (n : ℕ) → length xs ≡ n
    → ((j : ℕ) → j < n → P j (get_or (map f xs) j [])) → P n (f v)
    → (j : ℕ) → j < n + 1 → P j (get_or (map f (xs ++ v ∷ [])) j [])
columns_push f P xs v n e old new j l =
    let parts : map f (xs ++ v ∷ []) ≡ map f xs ++ f v ∷ [] = map-append f xs (v ∷ []) in
    let room : length (map f xs) ≡ n = length-map xs f ∙ e in
    subst (λ Ys. P j (get_or Ys j [])) (sym parts) (elim (cases_eq j n) [
      | inl here ↦ subst (P j) (sym (get_or_push (map f xs) (f v) [] j (room ∙ sym here))) (subst (λ k. P k (f v)) (sym here) new)
      | inr ne ↦ subst (P j) (sym (get_or_append_left (map f xs) (f v ∷ []) [] j (omega (arith, room, l, ne))))
          (old j (omega (arith, l, ne)))
    ])

-- a place whose row has an attribute is that of a row
pub has_row : (K : Context) (i g : ℕ) → has_at K i g ≡ true → g < length K.rows
has_row K i g t = elim (cases_lt g (length K.rows)) [
  | inl l ↦ l
  | inr le ↦ absurd (false≢true (sym (ap (λ X. get_or X i false) (get_or_past K.rows g [] le) ∙ get_or_past [] i false (omega arith)) ∙ t))
]

-- places that were looked at to the end
pub all_places : (K : Context) (i n g : ℕ) → length K.rows ≤ n → (ltb g n && has_at K i g) ≡ has_at K i g
all_places K i n g l = bool_iff (ltb g n && has_at K i g) (has_at K i g)
    (λ t. (and_parts (ltb g n) (has_at K i g) t).1)
    (λ t. let inside : g < length K.rows = has_row K i g t in and_from (ltb g n) (has_at K i g) (lt-ltb g n (omega (arith, inside, l))) t)
