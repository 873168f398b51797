-- The compact text of the values, letter by letter. The text of an array is that of its items in brackets, separated by commas. The keys
-- of the objects have no letter that needs an escape.
use Rattle.std.proofs.Common.{◌≡◌, true, List, [], ◌∷◌, ◌++◌, map, refl, ap, ap₂, ◌∙◌, append_assoc}
use Rattle.std.specs.Prelude.{codes}
use Rattle.json.specs.Print.{escape_byte, quoted}
use Rattle.serde_json.specs.Data.{Data, array}
use Rattle.serde_json.specs.View.{items_of}
use Rattle.serde_json.specs.Written.{compact_text, items_text}
use Rattle.fca_model.specs.Tables.{Text, NamedContext}
use Rattle.fca_model.specs.Implications.{Rule}
use Rattle.attr_bits.specs.Difference.{minus}
use Rattle.lectic_concepts.specs.declared.Concept.{Concept}
use Rattle.expert_wire.specs.Texts.{line_end, names_of}
use Rattle.report_texts.specs.Reports.{names_at}
use Rattle.json_reports.specs.Json.{names_data, concept_data, implication_data, concepts_json, basis_json, array_tail, array_text}
use Rattle.json_reports.specs.Json.{names_json_text, concept_json_text, concepts_json_text, implication_json_text, basis_json_text}

array_tail-items : {X : Type 0} (f : X → Data) (g : X → Text) → ((x : X) → compact_text (f x) ≡ g x) → (xs : List X)
    → items_text true (items_of (map f xs)) ≡ array_tail (map g xs) ++ codes "]"
array_tail-items f g h [] = refl
array_tail-items f g h (x ∷ xs) =
    ap₂ (λ a b. codes "," ++ (a ++ b)) (h x) (array_tail-items f g h xs)
    ∙ ap (λ z. codes "," ++ z) (regroup (g x) (array_tail (map g xs)) (codes "]"))
  where
    regroup : (a b c : Text) → a ++ (b ++ c) ≡ (a ++ b) ++ c
    regroup a b c = simp append_assoc

array_text-items : {X : Type 0} (f : X → Data) (g : X → Text) → ((x : X) → compact_text (f x) ≡ g x) → (xs : List X)
    → compact_text (array (items_of (map f xs))) ≡ array_text (map g xs)
array_text-items f g h [] = refl
array_text-items f g h (x ∷ xs) = ap₂ (λ a b. codes "[" ++ (a ++ b)) (h x) (array_tail-items f g h xs)

names-written : (names : List Text) → compact_text (names_data names) ≡ names_json_text names
names-written names = array_text-items _ quoted (λ name. refl) names

concept-written : (t : NamedContext) (c : Concept) → compact_text (concept_data t c) ≡ concept_json_text t c
unfolding escape_byte
concept-written t c =
    ap₂ (λ a b. codes "{\"extent\":" ++ (a ++ (codes ",\"intent\":" ++ (b ++ codes "}")))) (names-written (names_at t.objects c.extent))
    (names-written (names_of t.attributes c.intent))

implication-written : (attributes : List Text) (i : Rule)
    → compact_text (implication_data attributes i) ≡ implication_json_text attributes i
unfolding escape_byte
implication-written attributes i =
    ap₂ (λ a b. codes "{\"conclusion\":" ++ (a ++ (codes ",\"premise\":" ++ (b ++ codes "}"))))
    (names-written (names_of attributes (minus i.conclusion i.premise))) (names-written (names_of attributes i.premise))

closed : (a : Text) → (a ++ codes "}") ++ line_end ≡ a ++ codes "}\n"
closed a = append_assoc a (codes "}") line_end

pub concepts_json-written : (t : NamedContext) (cs : List Concept) → concepts_json t cs ≡ concepts_json_text t cs
unfolding concepts_json escape_byte
concepts_json-written t cs =
    ap (λ a. codes "{\"concepts\":" ++ ((a ++ codes "}") ++ line_end))
    (array_text-items (concept_data t) (concept_json_text t) (concept-written t) cs)
    ∙ ap (λ z. codes "{\"concepts\":" ++ z) (closed (array_text (map (concept_json_text t) cs)))

pub basis_json-written : (attributes : List Text) (J : List Rule) → basis_json attributes J ≡ basis_json_text attributes J
unfolding basis_json escape_byte
basis_json-written attributes J =
    ap (λ a. codes "{\"implications\":" ++ ((a ++ codes "}") ++ line_end))
    (array_text-items (implication_data attributes) (implication_json_text attributes) (implication-written attributes) J)
    ∙ ap (λ z. codes "{\"implications\":" ++ z) (closed (array_text (map (implication_json_text attributes) J)))
