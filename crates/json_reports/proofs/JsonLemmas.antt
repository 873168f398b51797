-- The values are arrays and objects of strings, and so have no float. The names of a set are added one by one: the added ones and the
-- rest are together the names of all members.
use Rattle.std.proofs.Common.{◌≡◌, ℕ, suc, ◌+◌, ◌<◌, ◌≤◌, min, true, false, Some, List, [], ◌∷◌, ◌++◌, map, length, get_or, drop, refl}
use Rattle.std.proofs.Common.{sym, ap, ◌∙◌, add-one, append_assoc, append-nil}
use Rattle.std.specs.Prelude.{slice_get, unwrap_or}
use Rattle.std.proofs.lemmas.Bool.{or_from}
use Rattle.std.proofs.lemmas.List.{map-append, drop_more}
use Rattle.std.proofs.lemmas.Option.{get_or_from_slice_get}
use Rattle.serde_json.specs.Data.{Data, string}
use Rattle.serde_json.specs.View.{view, items_of}
use Rattle.serde_json.specs.Written.{has_float, items_have_float}
use Rattle.serde_json.specs.declared.value.Value.{Value}
use Rattle.fca_model.specs.Sets.{Set}
use Rattle.fca_model.specs.Tables.{Text, NamedContext}
use Rattle.fca_model.specs.Implications.{Rule}
use Rattle.attr_bits.specs.Difference.{minus}
use Rattle.lectic_concepts.specs.declared.Concept.{Concept}
use Rattle.expert_wire.specs.Texts.{names_of}
use Rattle.expert_wire.proofs.ListedLemmas.{names_from, names_from-member, names_from-none, names_from-end}
use Rattle.report_texts.specs.Reports.{names_at}
use Rattle.json_reports.specs.Json.{names_data, concept_data, concepts_data, implication_data, basis_data}

no_float-items : {X : Type 0} (f : X → Data) → ((x : X) → has_float (f x) ≡ false) → (xs : List X)
    → items_have_float (items_of (map f xs)) ≡ false
no_float-items f h [] = refl
no_float-items f h (x ∷ xs) = or_from (has_float (f x)) (items_have_float (items_of (map f xs))) (h x) (no_float-items f h xs)

no_float-names : (names : List Text) → has_float (names_data names) ≡ false
no_float-names names = no_float-items _ (λ name. refl) names

no_float-concept : (t : NamedContext) (c : Concept) → has_float (concept_data t c) ≡ false
no_float-concept t c = or_from (has_float (names_data (names_at t.objects c.extent))) _ (no_float-names (names_at t.objects c.extent))
    (or_from (has_float (names_data (names_of t.attributes c.intent))) false (no_float-names (names_of t.attributes c.intent)) refl)

pub no_float-concepts : (t : NamedContext) (cs : List Concept) → has_float (concepts_data t cs) ≡ false
no_float-concepts t cs = or_from (items_have_float (items_of (map (concept_data t) cs))) false
    (no_float-items (concept_data t) (no_float-concept t) cs) refl

no_float-implication : (attributes : List Text) (i : Rule) → has_float (implication_data attributes i) ≡ false
no_float-implication attributes i = or_from (has_float (names_data (names_of attributes (minus i.conclusion i.premise)))) _
    (no_float-names (names_of attributes (minus i.conclusion i.premise)))
    (or_from (has_float (names_data (names_of attributes i.premise))) false (no_float-names (names_of attributes i.premise)) refl)

pub no_float-basis : (attributes : List Text) (J : List Rule) → has_float (basis_data attributes J) ≡ false
no_float-basis attributes J = or_from (items_have_float (items_of (map (implication_data attributes) J))) false
    (no_float-items (implication_data attributes) (no_float-implication attributes) J) refl

-- ---- the names of a set, one by one

-- the next place is a member, and its name was added
pub named_more : (vs : List Value) (v : Value) (i : ℕ) (names : List Text) (A : Set) (name : Text) (all : List Data) → i < length names
    → i < length A → get_or A i false ≡ true
    → Some name ≡ slice_get names i → view v ≡ string name
    → map view vs ++ map (λ n. string n) (names_from i names A) ≡ all
    → map view (vs ++ v ∷ []) ++ map (λ n. string n) (names_from (i + 1) names A) ≡ all
named_more vs v i names A name all h k e named is before =
    let later = map (λ n. string n) (names_from (suc i) names A) in
    rw add-one (
    ap (λ ds. ds ++ later) (map-append view vs (v ∷ []))
    ∙ append_assoc (map view vs) (view v ∷ []) later
    ∙ ap (λ d. map view vs ++ (d ∷ later)) (is ∙ ap (λ n. string n) (sym (get_or_from_slice_get names i name [] (sym named))))
    ∙ ap (λ ns. map view vs ++ map (λ n. string n) ns) (sym (names_from-member i names A h k e))
    ∙ before
    )

-- the next place is no member
pub named_same : (vs : List Value) (i : ℕ) (names : List Text) (A : Set) (all : List Data) → i < length names → i < length A
    → get_or A i false ≡ false
    → map view vs ++ map (λ n. string n) (names_from i names A) ≡ all
    → map view vs ++ map (λ n. string n) (names_from (i + 1) names A) ≡ all
named_same vs i names A all h k e before = rw add-one
    (ap (λ ns. map view vs ++ map (λ n. string n) ns) (sym (names_from-none i names A h k e)) ∙ before)

-- after the last place there is none
pub named_all : (vs : List Value) (i : ℕ) (names : List Text) (A : Set) (all : List Data) → min (length A) (length names) ≤ i
    → map view vs ++ map (λ n. string n) (names_from i names A) ≡ all → map view vs ≡ all
named_all vs i names A all over before =
    sym (append-nil (map view vs)) ∙ ap (λ ns. map view vs ++ map (λ n. string n) ns) (sym (names_from-end i names A over)) ∙ before

-- ---- values that are added one by one

-- the value of the next element
pub values_more : {X : Type 0} (g : X → Data) (xs : List X) (k : ℕ) (x : X) (vs new : List Value) (v : Value) (all : List Data)
    → k < length xs → x ≡ get_or xs k x
    → new ≡ vs ++ v ∷ [] → view v ≡ g x → map view vs ++ map g (drop k xs) ≡ all → map view new ++ map g (drop (k + 1) xs) ≡ all
values_more g xs k x vs new v all inside is made same before =
    let later = map g (drop (k + 1) xs) in
    ap (λ us. map view us ++ later) made
    ∙ ap (λ ds. ds ++ later) (map-append view vs (v ∷ []))
    ∙ append_assoc (map view vs) (view v ∷ []) later
    ∙ ap (λ d. map view vs ++ (d ∷ later)) same
    ∙ sym (ap (λ ys. map view vs ++ map g ys) (drop_more xs k x inside ∙ ap (λ y. y ∷ drop (k + 1) xs) (sym is)))
    ∙ before

-- the name at the next place
pub placed_more : (names : List Text) (places : List ℕ) (k : ℕ) (vs new : List Value) (v : Value) (all : List Data) → k < length places
    → new ≡ vs ++ v ∷ [] → view v ≡ string (unwrap_or (slice_get names (get_or places k 0)) [])
    → map view vs ++ map (λ n. string n) (names_at names (drop k places)) ≡ all
    → map view new ++ map (λ n. string n) (names_at names (drop (k + 1) places)) ≡ all
placed_more names places k vs new v all inside made same before =
    let later = map (λ n. string n) (names_at names (drop (k + 1) places)) in
    ap (λ us. map view us ++ later) made
    ∙ ap (λ ds. ds ++ later) (map-append view vs (v ∷ []))
    ∙ append_assoc (map view vs) (view v ∷ []) later
    ∙ ap (λ d. map view vs ++ (d ∷ later)) same
    ∙ sym (ap (λ ps. map view vs ++ map (λ n. string n) (names_at names ps)) (drop_more places k 0 inside))
    ∙ before
