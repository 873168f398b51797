-- Nominal scales: a value is marked where it is the scale value (`stands_is`), at one place alone since names differ (`value_once`), and so
-- the marks tell that place (`nominal_back`).
use Rattle.std.proofs.Common.{◌≡◌, ◌∙◌, ◌<◌, ◌≤◌, ◌+◌, ◌++◌, ◌∷◌, [], ℕ, zero, suc, Bool, true, false, not, ◌==◌, List, Option, Some}
use Rattle.std.proofs.Common.{None, is_some, length, take, drop, get_or, map, slice_get, bytes_eq, refl, sym, ap, subst, inl, inr, arith}
use Rattle.std.proofs.Common.{get_or-drop, get_or-take, length-drop, ne_eqb}
use Rattle.std.specs.Prelude.{◌↔◌}
use Rattle.std.specs.List.{list_any}
use Rattle.std.proofs.lemmas.Bool.{cases_Bool, cases_order, and_parts, and_from}
use Rattle.std.proofs.lemmas.List.{append_assoc, drop_more, length-take-le, length_push, get_or_append_left}
use Rattle.std.proofs.lemmas.Slice.Eq.{bytes_eq-Decides}
use Rattle.fca_model.specs.Sets.{Set}
use Rattle.fca_model.specs.Tables.{Text}
use Rattle.context_table.specs.Table.{first_repeat, repeat_from}
use Rattle.context_scaling.specs.Scaling.{stands}
use Rattle.context_scaling.specs.Back.{single_place, places_from}
use Rattle.context_scaling.specs.declared.back.Back.{Back}
use Rattle.context_scaling.specs.declared.back.Back.TheVariants as back
use Rattle.context_scaling.specs.declared.scales.Relation.TheVariants as relation
use Rattle.context_scaling.specs.declared.scales.ScaleValue.{ScaleValue}
use Rattle.context_scaling.specs.declared.scales.ScaleValue.TheVariants as value

-- ---- names that differ

seen_any : (name : Text) (seen : List Text) (a : ℕ) → a < length seen → get_or seen a [] ≡ name → list_any (bytes_eq name) seen ≡ true
seen_any name [] a below at = absurd (omega arith)
seen_any name (x ∷ seen) zero below at = let same : bytes_eq name x ≡ true = (bytes_eq-Decides name x).1 (sym at) in rw same refl
seen_any name (x ∷ seen) (suc a) below at =
    let less : a < length seen = omega arith in
    let later = seen_any name seen a less at in
    elim (cases_Bool (bytes_eq name x)) [
      | inl same ↦ rw same refl
      | inr other ↦ rw other later
    ]

-- no name that stands in `seen` or before is repeated
once_from : (seen names : List Text) (i a b : ℕ) → repeat_from seen i names ≡ None → a < length seen + b → b < length names
    → get_or (seen ++ names) a [] ≡ get_or names b [] → ⊥
once_from seen [] i a b none before below same = absurd (omega arith)
once_from seen (x ∷ names) i a zero none before below same =
    let early : a < length seen = omega arith in
    let stood = seen_any x seen a early (sym (get_or_append_left seen (x ∷ names) [] a early) ∙ same) in
    let some : Some i ≡ None = rw stood at none in
    cc
once_from seen (x ∷ names) i a (suc b) none before below same = elim (cases_Bool (list_any (bytes_eq x) seen)) [
  | inl stood ↦ let some : Some i ≡ None = rw stood at none in cc
  | inr new ↦
      let longer = length_push seen x in
      let early : a < length (seen ++ x ∷ []) + b = omega arith in
      let less : b < length names = omega arith in
      once_from (seen ++ x ∷ []) names (i + 1) a b (rw new at none) early less
      (ap (λ (ns : List Text). get_or ns a []) (append_assoc seen (x ∷ []) names) ∙ same)
]

pub value_once : (names : List Text) (a b : ℕ) → first_repeat names ≡ None → a < length names → b < length names
    → get_or names a [] ≡ get_or names b [] → a ≡ b
value_once names a b none first second same = elim (cases_order a b) [
  | inl is ↦ is
  | inr apart ↦ elim apart [
    | inl less ↦ let early : a < length {A = Text} [] + b = omega arith in absurd (once_from [] names 0 a b none early second same)
    | inr more ↦ let early : b < length {A = Text} [] + a = omega arith in absurd (once_from [] names 0 b a none early first (sym same))
  ]
]

-- ---- places

places_none : (i : ℕ) (marks : Set) → ((q : ℕ) → get_or marks q false ≡ true → ⊥) → places_from i marks ≡ []
places_none i [] none = refl
places_none i (true ∷ marks) none = absurd (none zero refl)
places_none i (false ∷ marks) none = places_none (i + 1) marks (λ q. none (suc q))

places_one : (i p : ℕ) (marks : Set) → get_or marks p false ≡ true → ((q : ℕ) → get_or marks q false ≡ true → q ≡ p)
    → places_from i marks ≡ (i + p) ∷ []
places_one i p [] at only = cc
places_one i zero (true ∷ marks) at only =
    let here : i + zero ≡ i = omega arith in
    rw (here, places_none (i + 1) marks (λ q is. let same = only (suc q) is in omega (arith, same))) refl
places_one i zero (false ∷ marks) at only = cc
places_one i (suc p) (true ∷ marks) at only = let same = only zero refl in absurd (omega (arith, same))
places_one i (suc p) (false ∷ marks) at only =
    let next : i + 1 + p ≡ i + suc p = omega arith in
    places_one (i + 1) p marks at (λ q is. let same = only (suc q) is in omega (arith, same)) ∙ ap (λ (n : ℕ). n ∷ []) next

-- the first of the places is a member's
place_member : (i p : ℕ) (marks : Set) (ps : List ℕ) → places_from i marks ≡ p ∷ ps → (q : ℕ) × (p ≡ i + q) × (get_or marks q false ≡ true)
place_member i p [] ps is = cc
place_member i p (true ∷ marks) ps is = let same : i ≡ p = cc in (0, omega (arith, same), refl)
place_member i p (false ∷ marks) ps is = let later = place_member (i + 1) p marks ps is in (suc later.0, omega (arith, later.1), later.2)

alone_one : (places : List ℕ) (p : ℕ) → single_place places ≡ back.Value p → places ≡ p ∷ []
alone_one [] p is = cc
alone_one (q ∷ []) p is = let same : q ≡ p = cc in rw same refl
alone_one (q ∷ r ∷ places) p is = cc

-- ---- values

map_true : {X : Type 0} (f : X → Bool) (xs : List X) (q : ℕ) → get_or (map f xs) q false ≡ true
    → (x : X) × (slice_get xs q ≡ Some x) × (f x ≡ true)
map_true f [] q at = cc
map_true f (x ∷ xs) zero at = (x, refl, at)
map_true f (x ∷ xs) (suc q) at = map_true f xs q at

true_map : {X : Type 0} (f : X → Bool) (xs : List X) (q : ℕ) (x : X) → slice_get xs q ≡ Some x → f x ≡ true
    → get_or (map f xs) q false ≡ true
true_map f [] q x at is = cc
true_map f (y ∷ xs) zero x at is = let same : y ≡ x = cc in rw same is
true_map f (y ∷ xs) (suc q) x at is = true_map f xs q x at is

stands_is : (text : Text) (v : ScaleValue) → stands text relation.Equal v ≡ true → v ≡ value.Text text
stands_is text (value.Text word) is = ap value.Text (sym ((bytes_eq-Decides text word).0 (and_parts _ _ is).1))
stands_is text (value.Number n) is = cc

is_stands : (byte : ℕ) (text : Text) → stands (byte ∷ text) relation.Equal (value.Text (byte ∷ text)) ≡ true
is_stands byte text =
    let some : length (byte ∷ text) == 0 ≡ false = ne_eqb (length (byte ∷ text)) 0 (λ e. omega (arith, e)) in
    and_from _ _ (ap not some) ((bytes_eq-Decides (byte ∷ text) (byte ∷ text)).1 refl)

-- the marks show where the text is a scale value, which stands there once
pub nominal_back : (byte : ℕ) (text : Text) (values : List ScaleValue)
    → ((p q : ℕ) → slice_get values p ≡ Some (value.Text (byte ∷ text)) → slice_get values q ≡ Some (value.Text (byte ∷ text)) → p ≡ q)
    → (p : ℕ) → (single_place (places_from 0 (map (stands (byte ∷ text) relation.Equal) values)) ≡ back.Value p)
    ↔ (slice_get values p ≡ Some (value.Text (byte ∷ text)))
nominal_back byte text values once p = (
  λ told.
      let member = place_member 0 p (map test values) [] (alone_one _ p told) in
      let same : member.0 ≡ p = omega (arith, member.1) in
      let there = map_true test values member.0 member.2 in
      let P : ℕ → Type 0 = λ q. slice_get values q ≡ Some (value.Text (byte ∷ text)) in
      subst P same (there.1 ∙ ap Some (stands_is (byte ∷ text) there.0 there.2)),
  λ at.
      let one = places_one 0 p (map test values) (true_map test values p (value.Text (byte ∷ text)) at (is_stands byte text))
      (λ q is. let there = map_true test values q is in once q p (there.1 ∙ ap Some (stands_is (byte ∷ text) there.0 there.2)) at) in
      let here : 0 + p ≡ p = omega arith in
      ap single_place one ∙ ap back.Value here,
)
  where
    test : ScaleValue → Bool
    test = stands (byte ∷ text) relation.Equal

pub nominal_nothing : (values : List ScaleValue) → single_place (places_from 0 (map (stands [] relation.Equal) values)) ≡ back.Nothing
nominal_nothing values = ap single_place (places_none 0 (map (stands [] relation.Equal) values)
    (λ q is. none (map_true (stands [] relation.Equal) values q is).0 (map_true (stands [] relation.Equal) values q is).2))
  where
    none : (v : ScaleValue) → stands [] relation.Equal v ≡ true → ⊥
    none (value.Text word) is = cc
    none (value.Number n) is = cc

-- ---- one place after the other

-- what the places say behind one that may have been found
abbrev pub found_then : Option ℕ → List ℕ → Back
found_then None places = single_place places
found_then (Some q) places = single_place (q ∷ places)

module _ (row : Set) (first count p : ℕ) (below : p < count) (within : first + count ≤ length row) where
  abbrev marks : Set
  marks = take count (drop first row)

  marks_length : length marks ≡ count
  marks_length = length-take-le count (drop first row) (omega (arith, length-drop first row))

  mark_at : get_or marks p false ≡ get_or row (first + p) false
  mark_at = get_or-take count (drop first row) p false below ∙ get_or-drop first row p false

  places_at : places_from p (drop p marks) ≡ places_from p (get_or row (first + p) false ∷ drop (p + 1) marks)
  places_at =
      ap (places_from p) (drop_more marks p false (omega (arith, marks_length)))
      ∙ ap (λ (mark : Bool). places_from p (mark ∷ drop (p + 1) marks)) mark_at

  pub places_in : get_or row (first + p) false ≡ true → places_from p (drop p marks) ≡ p ∷ places_from (p + 1) (drop (p + 1) marks)
  places_in is = places_at ∙ rw is refl

  pub places_out : get_or row (first + p) false ≡ false → places_from p (drop p marks) ≡ places_from (p + 1) (drop (p + 1) marks)
  places_out is = places_at ∙ rw is refl

pub found_again : (found : Option ℕ) (p : ℕ) (places : List ℕ) → is_some found ≡ true → found_then found (p ∷ places) ≡ back.Several
found_again None p places is = cc
found_again (Some q) p places is = refl

pub found_first : (found : Option ℕ) (p : ℕ) (places : List ℕ) → is_some found ≡ false
    → found_then (Some p) places ≡ found_then found (p ∷ places)
found_first None p places isnt = refl
found_first (Some q) p places isnt = cc
