-- What one field, one value and one record more add to what was read.
use Rattle.std.proofs.Common.{◌≡◌, ◌∙◌, ◌<◌, ◌≤◌, ◌+◌, ◌++◌, ◌∷◌, [], ℕ, Bool, true, false, not, All, List, Option, Some, None, drop}
use Rattle.std.proofs.Common.{get_or, length, map, slice_get, position, bytes_eq, ltb, inl, inr, refl, sym, ap, subst, arith}
use Rattle.std.proofs.Common.{append-nil, append_assoc}
use Rattle.std.specs.Prelude.{◌⊎◌, Ok, ℤ, pos, unwrap_or}
use Rattle.std.specs.List.{position_from, position_or_len}
use Rattle.std.proofs.lemmas.Bool.{cases_Bool, ltb-true}
use Rattle.std.proofs.lemmas.List.Sums.{passes_at_first}
use Rattle.std.proofs.lemmas.Option.{slice_get-get_or}
use Rattle.std.proofs.lemmas.Slice.Eq.{bytes_eq-Decides}
use Rattle.value_tables.specs.Numbers.{number_of}
use Rattle.context_scaling.specs.PlanForm.{add_names, new_name, record_form, records_form, scale_value}
use Rattle.csv_context.specs.Records.{Record}
use Rattle.context_scaling.specs.declared.scales.Kind.TheVariants as kind
use Rattle.context_scaling.specs.declared.scales.Relation.{Relation}
use Rattle.context_scaling.specs.declared.scales.ScaleValue.{ScaleValue}
use Rattle.context_scaling.specs.declared.scales.ScaleValue.TheVariants as value
use Rattle.std.proofs.lemmas.List.{drop_more, get_or-map, length-map}
use Rattle.std.proofs.lemmas.List.Elements.{All-append, All-cons, All-nil, All-push}
use Rattle.fca_model.specs.Tables.{Text}
use Rattle.fca_model.specs.Names.{name_fault}
use Rattle.context_table.specs.Table.{first_repeat}
use Rattle.value_tables.specs.Values.{ObjectValues, ValueTable, column, no_object, value_at}
use Rattle.context_scaling.specs.Scaling.{Fits, FitsBehind, PlanRecord, is_scalable, made_names, made_name, names_of}
use Rattle.context_scaling.specs.declared.scales.Kind.{Kind}

-- ---- values of a column

module _ (k : Kind) (objects : List ObjectValues) (m g : ℕ) (below : g < length objects) where
  abbrev test : Text → Bool
  test text = not (is_scalable k text)

  column_at : drop g (map (value_at m) objects) ≡ value_at m (get_or objects g no_object) ∷ drop (g + 1) (map (value_at m) objects)
  column_at =
      let within : g < length (map (value_at m) objects) = omega (arith, length-map objects (value_at m)) in
      drop_more (map (value_at m) objects) g [] within
      ∙ ap (λ (text : Text). text ∷ drop (g + 1) (map (value_at m) objects)) (get_or-map (value_at m) objects g no_object [] below)

  pub position_more : is_scalable k (value_at m (get_or objects g no_object)) ≡ true
      → position_from test g (drop g (map (value_at m) objects)) ≡ position_from test (g + 1) (drop (g + 1) (map (value_at m) objects))
  position_more good = rw (column_at, good) refl

  pub position_here : is_scalable k (value_at m (get_or objects g no_object)) ≡ false
      → position_from test g (drop g (map (value_at m) objects)) ≡ Some g
  position_here bad = rw (column_at, bad) refl

-- ---- plans that fit

pub names_push : (plan : List PlanRecord) (s : PlanRecord) → made_names (plan ++ s ∷ []) ≡ made_names plan ++ names_of s
names_push [] s = append-nil (names_of s)
names_push (x ∷ plan) s = ap (λ (ns : List Text). names_of x ++ ns) (names_push plan s)
    ∙ sym (append_assoc (names_of x) (made_names plan) (names_of s))

pub fits_none : (t : ValueTable) → Fits [] t
fits_none t = record {
  places = All-nil (λ x. slice_get t.attributes x.place ≡ Some x.attribute);
  numbers = All-nil (λ x. All (λ text. is_scalable x.kind text ≡ true) (column t x.place));
  named = All-nil (λ x. name_fault x ≡ None);
  differing = refl;
  few = omega arith;
}

pub fits_push : (plan : List PlanRecord) (s : PlanRecord) (t : ValueTable) → Fits plan t → FitsBehind (made_names plan) t s
    → Fits (plan ++ s ∷ []) t
fits_push plan s t fits one =
    let all = names_push plan s in
    record {
      places = All-push (λ x. slice_get t.attributes x.place ≡ Some x.attribute) plan s fits.places one.places;
      numbers = All-push (λ x. All (λ text. is_scalable x.kind text ≡ true) (column t x.place)) plan s fits.numbers one.numbers;
      named = subst (λ (ns : List Text). All (λ name. name_fault name ≡ None) ns) (sym all)
          (All-append (λ x. name_fault x ≡ None) (made_names plan) (names_of s) fits.named one.named);
      differing = ap first_repeat all ∙ one.differing fits.differing;
      few = let P : List Text → Type 0 = λ ns. length ns ≤ 1024 in subst P (sym all) one.few;
    }

pub all_scalable : (k : Kind) (i : ℕ) (texts : List Text) → position_from (λ text. not (is_scalable k text)) i texts ≡ None
    → All (λ text. is_scalable k text ≡ true) texts
all_scalable k i [] none = All-nil (λ text. is_scalable k text ≡ true)
all_scalable k i (text ∷ texts) none = elim (cases_Bool (is_scalable k text)) [
  | inl good ↦ All-cons (λ x. is_scalable k x ≡ true) text texts good (all_scalable k (i + 1) texts (rw good at none))
  | inr bad ↦ let some : Some i ≡ None = rw bad at none in cc
]

-- ---- names and values

pub position_at : (name : Text) (xs : List Text) (place : ℕ) → position (bytes_eq name) xs ≡ Some place → slice_get xs place ≡ Some name
position_at name xs place is = elim (cases_Bool (ltb (position_or_len (bytes_eq name) xs) (length xs))) [
  | inl less ↦
      let first = position_or_len (bytes_eq name) xs in
      let here : Some first ≡ Some place = rw less at is in
      let same : first ≡ place = cc in
      let below = ltb-true first (length xs) less in
      let equal = (bytes_eq-Decides name (get_or xs first [])).0 (passes_at_first (bytes_eq name) xs [] below) in
      let P : ℕ → Type 0 = λ k. slice_get xs k ≡ Some name in
      subst P same (slice_get-get_or xs first [] below ∙ ap Some (sym equal))
  | inr past ↦ let none : None ≡ Some place = rw past at is in cc
]

pub number_value : (k : Kind) (text : Text) (n : ℤ) → (k ≡ kind.Ordinal) ⊎ (k ≡ kind.Interordinal) → n ≡ unwrap_or (number_of text) (pos 0)
    → value.Number n ≡ scale_value k text
number_value k text n is same = elim is [
  | inl ordinal ↦ rw ordinal (ap value.Number same)
  | inr interordinal ↦ rw interordinal (ap value.Number same)
]

pub names_more : (i : ℕ) (attribute : Text) (r : Relation) (j : ℕ) (seen : List Text) (v : ScaleValue) (values : List ScaleValue)
    (name : Text)
    → new_name i j seen (made_name attribute r v) ≡ Ok name
    → add_names i attribute r j seen (v ∷ values) ≡ add_names i attribute r (j + 1) (seen ++ name ∷ []) values
names_more i attribute r j seen v values name is = rw is refl

pub records_more : (t : ValueTable) (i : ℕ) (plan : List PlanRecord) (fields : Record) (records : List Record) (s : PlanRecord)
    → record_form t i (made_names plan) fields ≡ Ok s
    → records_form t i plan (fields ∷ records) ≡ records_form t (i + 1) (plan ++ s ∷ []) records
records_more t i plan fields records s is = rw is refl

pub never_some : (o : Option ℕ) → ((r : ℕ) → o ≡ Some r → ⊥) → o ≡ None
never_some None never = refl
never_some (Some r) never = absurd (never r refl)
