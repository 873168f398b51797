-- What the row of an object gives back. The marks of a record stand together in the row (`row_from`); those of a scale of numbers mark the
-- bounds that hold of the number (`marked_filter`), and the narrowest of them that is kept holds (`narrowest_holds`) and is narrow narrow
-- narrow each of them (`narrowest_least`).
use Rattle.std.proofs.Common.{◌≡◌, ◌∙◌, ◌<◌, ◌+◌, ◌++◌, ◌∷◌, [], ℕ, zero, suc, true, false, cond, List, Option, Some, None}
use Rattle.std.proofs.Common.{IfSome, ℤ, filter, flat_map, fold, length, take, drop, get_or, map, slice_get, refl, sym}
use Rattle.std.proofs.Common.{ap, subst, inl, inr, arith, length-append, drop-drop, drop_at}
use Rattle.std.proofs.lemmas.Bool.{cases_Bool}
use Rattle.std.proofs.lemmas.Int.{ints}
use Rattle.fca_model.specs.Sets.{Set}
use Rattle.fca_model.specs.Tables.{Text}
use Rattle.value_tables.specs.Values.{ObjectValues, value_at}
use Rattle.context_scaling.specs.Scaling.{PlanRecord, made_names, names_of, scale_row, object_row, stands}
use Rattle.context_scaling.specs.Back.{begin_of, plan_record_at, no_plan_record, marked_values, is_narrower, narrower_bound_of, narrower_bound}
use Rattle.context_scaling.specs.declared.scales.Relation.{Relation}
use Rattle.context_scaling.specs.declared.scales.Relation.TheVariants as relation
use Rattle.context_scaling.specs.declared.scales.ScaleValue.{ScaleValue}
use Rattle.context_scaling.specs.declared.scales.ScaleValue.TheVariants as value
use Rattle.context_scaling.proofs.ScaleLemmas.{scale_length}

-- ---- the marks of a record

-- what one member of a list gives stands behind what those before it give
module _ {X Y Z : Type 0} (f : X → List Y) (g : X → List Z) (same : (x : X) → length (f x) ≡ length (g x)) (d : X) where
  pub part_from : (xs : List X) (k : ℕ) → k < length xs
      → drop (length (flat_map g (take k xs))) (flat_map f xs) ≡ f (get_or xs k d) ++ flat_map f (drop (suc k) xs)
  part_from [] k below = absurd (omega arith)
  part_from (x ∷ xs) zero below = refl
  part_from (x ∷ xs) (suc k) below =
      let less : k < length xs = omega arith in
      let begin = length (flat_map g (take k xs)) in
      let apart : length (g x ++ flat_map g (take k xs)) ≡ length (f x) + begin = length-append (g x) (flat_map g (take k xs))
      ∙ ap (λ (n : ℕ). n + begin) (sym (same x)) in
      rw apart (
      sym (drop-drop begin (length (f x)) (f x ++ flat_map f xs))
      ∙ ap (drop begin) (drop_at (f x) (flat_map f xs) (length (f x)) refl)
      ∙ part_from xs k less
      )

pub row_from : (plan : List PlanRecord) (k : ℕ) (object : ObjectValues) → k < length plan
    → drop (begin_of plan k) (object_row plan object) ≡ scale_row (plan_record_at plan k) (value_at (plan_record_at plan k).place object)
    ++ object_row (drop (suc k) plan) object
row_from plan k object below = part_from (λ s. scale_row s (value_at s.place object)) names_of
    (λ s. scale_length s (value_at s.place object)) no_plan_record plan k below

pub names_from : (plan : List PlanRecord) (k : ℕ) → k < length plan
    → drop (begin_of plan k) (made_names plan) ≡ names_of (plan_record_at plan k) ++ made_names (drop (suc k) plan)
names_from plan k below = part_from names_of names_of (λ s. refl) no_plan_record plan k below

-- ---- bounds

module _ (text : Text) (r : Relation) where
  pub marked_filter : (values : List ScaleValue) (rest : Set)
      → marked_values (map (stands text r) values ++ rest) values ≡ filter (stands text r) values
  marked_filter [] rest = refl
  marked_filter (v ∷ values) rest = ap (λ (vs : List ScaleValue). cond (stands text r v) (v ∷ vs) vs) (marked_filter values rest)

  abbrev Holds : ℤ → Type 0
  Holds v = stands text r (value.Number v) ≡ true

  picked_holds : (best : Option ℤ) (v : ScaleValue) → IfSome best Holds → stands text r v ≡ true → IfSome (narrower_bound_of r best v) Holds
  picked_holds best (value.Text v) holds is = holds
  picked_holds None (value.Number v) holds is = is
  picked_holds (Some b) (value.Number v) holds is = elim (cases_Bool (is_narrower r b v)) [
    | inl is_so ↦ rw is_so holds
    | inr isnt ↦ rw isnt is
  ]

  pub narrowest_holds : (values : List ScaleValue) (best : Option ℤ) → IfSome best Holds
      → IfSome (fold (narrower_bound_of r) best (filter (stands text r) values)) Holds
  narrowest_holds [] best holds = holds
  narrowest_holds (v ∷ values) best holds = elim (cases_Bool (stands text r v)) [
    | inl is ↦ rw is (narrowest_holds values (narrower_bound_of r best v) (picked_holds best v holds is))
    | inr isnt ↦ rw isnt (narrowest_holds values best holds)
  ]

-- bounds are ordered by how narrow they are
pub record IsOrder (r : Relation) : Type 0 where
  pub self : (a : ℤ) → is_narrower r a a ≡ true
  pub chain : (a b c : ℤ) → is_narrower r a b ≡ true → is_narrower r b c ≡ true → is_narrower r a c ≡ true
  pub other : (a b : ℤ) → is_narrower r a b ≡ false → is_narrower r b a ≡ true

pub at_most_ordered : IsOrder relation.AtMost
at_most_ordered = record { self = λ a. grind (arith, ints); chain = λ a b c h k. grind (arith, ints); other = λ a b h. grind (arith, ints) }

pub at_least_ordered : IsOrder relation.AtLeast
at_least_ordered = record {
  self = λ a. grind (arith, ints);
  chain = λ a b c h k. grind (arith, ints);
  other = λ a b h. grind (arith, ints);
}

module _ (text : Text) (r : Relation) (o : IsOrder r) where
  -- w is narrow narrow narrow the best so far, and narrow each of the bounds that hold
  abbrev IsNarrowest : List ScaleValue → Option ℤ → ℤ → Type 0
  IsNarrowest values best w =
      IfSome best (λ b. is_narrower r w b ≡ true)
      × ((i : ℕ) (u : ℤ) → slice_get values i ≡ Some (value.Number u) → stands text r (value.Number u) ≡ true → is_narrower r w u ≡ true)

  pick_narrower : (best : Option ℤ) (n w : ℤ) → IfSome (narrower_bound r best n) (λ b. is_narrower r w b ≡ true)
      → IfSome best (λ b. is_narrower r w b ≡ true) × (is_narrower r w n ≡ true)
  pick_narrower None n w narrow = (tt, narrow)
  pick_narrower (Some b) n w narrow = elim (cases_Bool (is_narrower r b n)) [
    | inl is_so ↦ let w_b : is_narrower r w b ≡ true = rw is_so at narrow in (w_b, o.chain w b n w_b is_so)
    | inr isnt ↦ let w_n : is_narrower r w n ≡ true = rw isnt at narrow in (o.chain w n b w_n (o.other b n isnt), w_n)
  ]

  with_value : (v : ScaleValue) (values : List ScaleValue) (best : Option ℤ) (w : ℤ) → IsNarrowest values (narrower_bound_of r best v) w
      → IsNarrowest (v ∷ values) best w
  with_value (value.Text v) values best w narrow = (narrow.0, λ i u at holds. later i u at holds)
    where
      later : (i : ℕ) (u : ℤ) → slice_get (value.Text v ∷ values) i ≡ Some (value.Number u) → stands text r (value.Number u) ≡ true
          → is_narrower r w u ≡ true
      later zero u at holds = cc
      later (suc i) u at holds = narrow.1 i u at holds
  with_value (value.Number n) values best w narrow = ((pick_narrower best n w narrow.0).0, λ i u at holds. later i u at holds)
    where
      later : (i : ℕ) (u : ℤ) → slice_get (value.Number n ∷ values) i ≡ Some (value.Number u) → stands text r (value.Number u) ≡ true
          → is_narrower r w u ≡ true
      later zero u at holds = let same : n ≡ u = cc in let P : ℤ → Type 0 = λ x. is_narrower r w x ≡ true in
          subst P same (pick_narrower best n w narrow.0).1
      later (suc i) u at holds = narrow.1 i u at holds

  without : (v : ScaleValue) (values : List ScaleValue) (best : Option ℤ) (w : ℤ) → stands text r v ≡ false → IsNarrowest values best w
      → IsNarrowest (v ∷ values) best w
  without v values best w isnt narrow = (narrow.0, λ i u at holds. later i u at holds)
    where
      later : (i : ℕ) (u : ℤ) → slice_get (v ∷ values) i ≡ Some (value.Number u) → stands text r (value.Number u) ≡ true
          → is_narrower r w u ≡ true
      later zero u at holds = let same : v ≡ value.Number u = cc in
          let both : true ≡ false = sym holds ∙ ap (stands text r) (sym same) ∙ isnt in cc
      later (suc i) u at holds = narrow.1 i u at holds

  pub narrowest_least : (values : List ScaleValue) (best : Option ℤ) (w : ℤ)
      → fold (narrower_bound_of r) best (filter (stands text r) values) ≡ Some w → IsNarrowest values best w
  narrowest_least [] best w is = (rw is (o.self w), λ i u at holds. cc)
  narrowest_least (v ∷ values) best w is = elim (cases_Bool (stands text r v)) [
    | inl is_so ↦ with_value v values best w (narrowest_least values (narrower_bound_of r best v) w (rw is_so at is))
    | inr isnt ↦ without v values best w isnt (narrowest_least values best w (rw isnt at is))
  ]
