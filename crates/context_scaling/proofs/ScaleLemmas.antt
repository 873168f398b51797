-- A row has as many places as the plan makes names, and what one record more adds to both.
use Rattle.std.proofs.Common.{◌≡◌, ◌∙◌, ◌<◌, ◌≤◌, ◌+◌, ◌++◌, ◌∷◌, [], ℕ, List, length, take, get_or, map}
use Rattle.std.proofs.Common.{flat_map, refl, sym, ap, ap₂, subst, arith, length-append}
use Rattle.std.proofs.lemmas.List.{length-map, take_more, flat_map_more}
use Rattle.std.proofs.lemmas.List.Folds.{length-flat_map-take}
use Rattle.context_scaling.specs.declared.scales.Relation.TheVariants as relation
use Rattle.fca_model.specs.Tables.{Text}
use Rattle.value_tables.specs.Values.{ObjectValues, value_at}
use Rattle.context_scaling.specs.Scaling.{PlanRecord, each_relation, made_names, made_name, names_of, scale_row, object_row, stands}
use Rattle.context_scaling.specs.declared.scales.Kind.{Kind}
use Rattle.context_scaling.specs.declared.scales.Kind.TheVariants as kind
use Rattle.context_scaling.specs.declared.scales.Relation.{Relation}

-- two lists by relations have one length if they have for each relation
each_relation_length : {X Y : Type 0} (k : Kind) (f : Relation → List X) (g : Relation → List Y)
    → ((r : Relation) → length (f r) ≡ length (g r))
    → length (each_relation k f) ≡ length (each_relation k g)
each_relation_length kind.Nominal f g same = same _
each_relation_length kind.Ordinal f g same = same _
each_relation_length kind.Interordinal f g same = length-append _ _ ∙ ap₂ ◌+◌ (same _) (same _) ∙ sym (length-append _ _)

pub scale_length : (s : PlanRecord) (text : Text) → length (scale_row s text) ≡ length (names_of s)
scale_length s text =
    each_relation_length s.kind (λ r. map (stands text r) s.values) (λ r. map (made_name s.attribute r) s.values)
    (λ r. length-map s.values (stands text r) ∙ sym (length-map s.values (made_name s.attribute r)))

pub row_length : (plan : List PlanRecord) (object : ObjectValues) → length (object_row plan object) ≡ length (made_names plan)
row_length [] object = refl
row_length (s ∷ plan) object = length-append _ _ ∙ ap₂ ◌+◌ (scale_length s (value_at s.place object)) (row_length plan object)
    ∙ sym (length-append _ _)

pub flat_map_next : {X Y : Type 0} (f : X → List Y) (xs : List X) (i : ℕ) (d : X) → i < length xs
    → flat_map f (take (i + 1) xs) ≡ flat_map f (take i xs) ++ f (get_or xs i d)
flat_map_next f xs i d below = ap (flat_map f) (take_more xs i d below) ∙ sym (flat_map_more f [] (take i xs) (get_or xs i d))

-- no more scale values than names
values_few : (k : Kind) (f : Relation → List Text) (n : ℕ) → ((r : Relation) → length (f r) ≡ n) → n ≤ length (each_relation k f)
values_few kind.Nominal f n same = let e = same relation.Equal in omega (arith, e)
values_few kind.Ordinal f n same = let e = same relation.AtMost in omega (arith, e)
values_few kind.Interordinal f n same = let e = same relation.AtMost in
    omega (arith, e, length-append (f relation.AtMost) (f relation.AtLeast))

pub values_names : (s : PlanRecord) → length s.values ≤ length (names_of s)
values_names s = values_few s.kind (λ r. map (made_name s.attribute r) s.values) (length s.values)
    (λ r. length-map s.values (made_name s.attribute r))

-- the names of a record stand within all
pub names_within : (plan : List PlanRecord) (i : ℕ) (s : PlanRecord) → i < length plan → s ≡ get_or plan i s
    → length (made_names (take i plan)) + length (names_of s) ≤ length (made_names plan)
names_within plan i s below is =
    let P : PlanRecord → Type 0 = λ x. length (made_names (take i plan)) + length (names_of x) ≤ length (made_names plan) in
    subst P (sym is) (length-flat_map-take names_of plan i s below)
