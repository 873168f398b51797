-- The row of an object gives its value back (`gives_back`): of a scale of numbers the narrowest bounds that hold (`high_bound`,
-- `low_bound`), of a nominal scale the scale value that it is.
use Rattle.std.proofs.Common.{◌≡◌, ◌∙◌, ◌<◌, ◌+◌, ◌++◌, ◌∷◌, [], ℕ, suc, true, false, List, Option, Some, None, IfSome, ℤ}
use Rattle.std.proofs.Common.{◌≤ℤ◌, int_le, filter, fold, length, take, drop, map, slice_get, refl, sym, ap, ap₂, subst, arith}
use Rattle.std.proofs.Common.{append_assoc, get_or, get_or-drop, length-append, length-drop, take_at, drop_at}
use Rattle.std.proofs.lemmas.Int.{ints}
use Rattle.std.proofs.lemmas.List.{length-map, get_or-map, get_or_append_left}
use Rattle.std.proofs.lemmas.Option.{slice_get_within, get_or_from_slice_get}
use Rattle.context_table.specs.Table.{first_repeat}
use Rattle.fca_model.specs.Sets.{Set}
use Rattle.fca_model.specs.Tables.{Text}
use Rattle.value_tables.specs.Numbers.{number_of}
use Rattle.context_scaling.specs.Scaling.{PlanRecord, each_relation, made_names, made_name, names_of, stands}
use Rattle.context_scaling.specs.Back.{GivesBack, NoneBetween, begin_of, plan_record_at, TellsBounds, single_place, back_by}
use Rattle.context_scaling.specs.Back.{back_between, marked_values, narrower_bound_of, places_from}
use Rattle.context_scaling.specs.declared.scales.Kind.{Kind}
use Rattle.context_scaling.specs.declared.scales.Kind.TheVariants as kind
use Rattle.context_scaling.specs.declared.scales.Relation.{Relation}
use Rattle.context_scaling.specs.declared.scales.Relation.TheVariants as relation
use Rattle.context_scaling.specs.declared.scales.ScaleValue.{ScaleValue}
use Rattle.context_scaling.specs.declared.scales.ScaleValue.TheVariants as value
use Rattle.context_scaling.proofs.BackLemmas.{at_least_ordered, at_most_ordered, marked_filter, names_from, narrowest_holds}
use Rattle.context_scaling.proofs.BackLemmas.{narrowest_least}
use Rattle.context_scaling.proofs.NominalLemmas.{nominal_back, nominal_nothing, value_once}

-- ---- bounds around a number

module _ (text : Text) (n : ℤ) (is : number_of text ≡ Some n) (values : List ScaleValue) where
  at_most_is : (v : ℤ) → stands text relation.AtMost (value.Number v) ≡ int_le n v
  at_most_is v = rw is refl

  at_least_is : (v : ℤ) → stands text relation.AtLeast (value.Number v) ≡ int_le v n
  at_least_is v = rw is refl

  high_bound : (high : Option ℤ) → fold (narrower_bound_of relation.AtMost) None (filter (stands text relation.AtMost) values) ≡ high
      → IfSome high (λ v. (n ≤ℤ v) × NoneBetween values n v)
  high_bound None found = tt
  high_bound (Some v) found =
      let P : Option ℤ → Type 0 = λ o. IfSome o (λ w. stands text relation.AtMost (value.Number w) ≡ true) in
      let holding : int_le n v ≡ true = sym (at_most_is v) ∙ subst P found (narrowest_holds text relation.AtMost values None tt) in
      let least = (narrowest_least text relation.AtMost at_most_ordered values None v found).1 in (
        grind (arith, ints),
        λ i u at above below.
            let stood : stands text relation.AtMost (value.Number u) ≡ true = at_most_is u ∙ grind (arith, ints) in
            let narrow : int_le v u ≡ true = least i u at stood in
            grind (arith, ints),
      )

  low_bound : (low : Option ℤ) → fold (narrower_bound_of relation.AtLeast) None (filter (stands text relation.AtLeast) values) ≡ low
      → IfSome low (λ v. (v ≤ℤ n) × NoneBetween values v n)
  low_bound None found = tt
  low_bound (Some v) found =
      let P : Option ℤ → Type 0 = λ o. IfSome o (λ w. stands text relation.AtLeast (value.Number w) ≡ true) in
      let holding : int_le v n ≡ true = sym (at_least_is v) ∙ subst P found (narrowest_holds text relation.AtLeast values None tt) in
      let least = (narrowest_least text relation.AtLeast at_least_ordered values None v found).1 in (
        grind (arith, ints),
        λ i u at above below.
            let stood : stands text relation.AtLeast (value.Number u) ≡ true = at_least_is u ∙ grind (arith, ints) in
            let narrow : int_le u v ≡ true = least i u at stood in
            grind (arith, ints),
      )

  tells : (low high : Option ℤ) → IfSome low (λ v. (v ≤ℤ n) × NoneBetween values v n) → IfSome high (λ v. (n ≤ℤ v) × NoneBetween values n v)
      → TellsBounds values n (back_between low high)
  tells None None above below = tt
  tells None (Some high) above below = record { above_low = tt; below_high = below }
  tells (Some low) high above below = record { above_low = above; below_high = below }

-- ---- no value

nothing_stands : (r : Relation) (v : ScaleValue) → stands [] r v ≡ false
nothing_stands relation.Equal (value.Text v) = refl
nothing_stands relation.Equal (value.Number v) = refl
nothing_stands relation.AtMost (value.Text v) = refl
nothing_stands relation.AtMost (value.Number v) = refl
nothing_stands relation.AtLeast (value.Text v) = refl
nothing_stands relation.AtLeast (value.Number v) = refl

nothing_filter : (r : Relation) (values : List ScaleValue) → filter (stands [] r) values ≡ []
nothing_filter r [] = refl
nothing_filter r (v ∷ values) = rw (nothing_stands r v) (nothing_filter r values)

-- ---- the marks of a record

nominal_marks : (text : Text) (values : List ScaleValue) (rest : Set)
    → take (length values) (map (stands text relation.Equal) values ++ rest) ≡ map (stands text relation.Equal) values
nominal_marks text values rest = take_at (map (stands text relation.Equal) values) rest (length values)
    (length-map values (stands text relation.Equal))

module _ (text : Text) (values : List ScaleValue) (rest : Set) where
  at_most_marks : marked_values (map (stands text relation.AtMost) values ++ map (stands text relation.AtLeast) values ++ rest) values
      ≡ filter (stands text relation.AtMost) values
  at_most_marks =
      ap (λ (marks : Set). marked_values marks values)
      (append_assoc (map (stands text relation.AtMost) values) (map (stands text relation.AtLeast) values) rest)
      ∙ marked_filter text relation.AtMost values (map (stands text relation.AtLeast) values ++ rest)

  at_least_marks : marked_values (drop (length values)
      (map (stands text relation.AtMost) values ++ map (stands text relation.AtLeast) values ++ rest)) values ≡ filter
      (stands text relation.AtLeast) values
  at_least_marks =
      ap (λ (marks : Set). marked_values (drop (length values) marks) values)
      (append_assoc (map (stands text relation.AtMost) values) (map (stands text relation.AtLeast) values) rest)
      ∙ ap (λ (marks : Set). marked_values marks values)
      (drop_at (map (stands text relation.AtMost) values) (map (stands text relation.AtLeast) values ++ rest) (length values)
      (length-map values (stands text relation.AtMost)))
      ∙ marked_filter text relation.AtLeast values rest

-- the scale values that are this text stand at one place
abbrev pub StandsOnce : List ScaleValue → Text → Type 0
StandsOnce values text = (p q : ℕ) → slice_get values p ≡ Some (value.Text text) → slice_get values q ≡ Some (value.Text text) → p ≡ q

pub gives_back : (k : Kind) (values : List ScaleValue) (text : Text) (rest : Set) → (k ≡ kind.Nominal → StandsOnce values text)
    → GivesBack k values text (back_by k values (each_relation k (λ r. map (stands text r) values) ++ rest))
gives_back kind.Nominal values [] rest once = ap (λ (marks : Set). single_place (places_from 0 marks)) (nominal_marks [] values rest)
    ∙ nominal_nothing values
gives_back kind.Nominal values (byte ∷ text) rest once =
    let P : Set → Type 0 = λ marks. GivesBack kind.Nominal values (byte ∷ text) (single_place (places_from 0 marks)) in
    subst P (sym (nominal_marks (byte ∷ text) values rest)) (nominal_back byte text values (once refl))
gives_back kind.Ordinal values [] rest once = ap
    (λ (vs : List ScaleValue). back_between None (fold (narrower_bound_of relation.AtMost) None vs))
    (marked_filter [] relation.AtMost values rest ∙ nothing_filter relation.AtMost values)
gives_back kind.Ordinal values (byte ∷ text) rest once = λ n is.
    tells (byte ∷ text) n is values None _ tt (high_bound (byte ∷ text) n is values _
    (ap (fold (narrower_bound_of relation.AtMost) None) (sym (marked_filter (byte ∷ text) relation.AtMost values rest))))
gives_back kind.Interordinal values [] rest once =
    ap₂ (λ (low : List ScaleValue) (high : List ScaleValue). back_between (fold (narrower_bound_of relation.AtLeast) None low)
    (fold (narrower_bound_of relation.AtMost) None high))
    (at_least_marks [] values rest ∙ nothing_filter relation.AtLeast values)
    (at_most_marks [] values rest ∙ nothing_filter relation.AtMost values)
gives_back kind.Interordinal values (byte ∷ text) rest once = λ n is.
    tells (byte ∷ text) n is values _ _
    (low_bound (byte ∷ text) n is values _ (ap (fold (narrower_bound_of relation.AtLeast) None)
    (sym (at_least_marks (byte ∷ text) values rest))))
    (high_bound (byte ∷ text) n is values _ (ap (fold (narrower_bound_of relation.AtMost) None)
    (sym (at_most_marks (byte ∷ text) values rest))))

-- ---- names that differ

module _ (plan : List PlanRecord) (k : ℕ) (below : k < length plan) (nominal : (plan_record_at plan k).kind ≡ kind.Nominal) (text : Text) where
  names_are : names_of (plan_record_at plan k) ≡ map (made_name (plan_record_at plan k).attribute relation.Equal) (plan_record_at plan k).values
  names_are = rw nominal refl

  -- the name that the scale value makes stands in its place
  name_at : (p : ℕ) → slice_get (plan_record_at plan k).values p ≡ Some (value.Text text)
      → (begin_of plan k + p < length (made_names plan))
      × (get_or (made_names plan) (begin_of plan k + p) [] ≡ made_name (plan_record_at plan k).attribute relation.Equal (value.Text text))
  name_at p at =
      let s = plan_record_at plan k in
      let begin = begin_of plan k in
      let rest = made_names (drop (suc k) plan) in
      let within = slice_get_within s.values p (value.Text text) at in
      let long : length (names_of s) ≡ length s.values = ap length names_are ∙ length-map s.values (made_name s.attribute relation.Equal) in
      let from = names_from plan k below in
      let size = sym (length-drop begin (made_names plan)) ∙ ap length from ∙ length-append (names_of s) rest in
      let early : p < length (names_of s) = omega (arith, within, long) in (
        omega (arith, within, long, size),
        sym (get_or-drop begin (made_names plan) p [])
            ∙ ap (λ (ns : List Text). get_or ns p []) from
            ∙ get_or_append_left (names_of s) rest [] p early
            ∙ ap (λ (ns : List Text). get_or ns p []) names_are
            ∙ get_or-map (made_name s.attribute relation.Equal) s.values p (value.Text text) [] within
            ∙ ap (made_name s.attribute relation.Equal) (get_or_from_slice_get s.values p (value.Text text) (value.Text text) at),
      )

  pub stands_once : first_repeat (made_names plan) ≡ None → StandsOnce (plan_record_at plan k).values text
  stands_once differing = λ p q first second.
      let a = name_at p first in
      let b = name_at q second in
      let same = value_once (made_names plan) (begin_of plan k + p) (begin_of plan k + q) differing a.0 b.0 (a.1 ∙ sym b.1) in
      omega (arith, same)
