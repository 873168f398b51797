-- Concepts and bases as one line of compact JSON. The keys of an object stand in the order of their bytes.
--
-- The line of one concept, with no object and the intent {a, b}, is `{"concepts":[{"extent":[],"intent":["a","b"]}]}`.
use Rattle.std.specs.Prelude.{List, [], ◌∷◌, ◌++◌, map, codes}
use Rattle.json.specs.Print.{quoted}
use Rattle.serde_json.specs.Data.{Data, string, array, object, member, no_members}
use Rattle.serde_json.specs.View.{items_of}
use Rattle.serde_json.specs.Written.{compact_text}
use Rattle.fca_model.specs.Tables.{Text, NamedContext}
use Rattle.fca_model.specs.Implications.{Rule}
use Rattle.attr_bits.specs.Difference.{minus}
use Rattle.lectic_concepts.specs.declared.Concept.{Concept}
use Rattle.expert_wire.specs.Texts.{line_end, names_of}
use Rattle.report_texts.specs.Reports.{names_at}

-- names as an array of strings
abbrev pub names_data : List Text → Data
names_data names = array (items_of (map (λ name. string name) names))

-- a concept: the names of its objects and those of its attributes
abbrev pub concept_data : NamedContext → Concept → Data
concept_data t c =
    object (member (codes "extent") (names_data (names_at t.objects c.extent))
    (member (codes "intent") (names_data (names_of t.attributes c.intent)) no_members))

-- all concepts
abbrev pub concepts_data : NamedContext → List Concept → Data
concepts_data t cs = object (member (codes "concepts") (array (items_of (map (concept_data t) cs))) no_members)

-- an implication: the part of its conclusion that the premise lacks, and its premise
abbrev pub implication_data : List Text → Rule → Data
implication_data attributes i =
    object (member (codes "conclusion") (names_data (names_of attributes (minus i.conclusion i.premise)))
    (member (codes "premise") (names_data (names_of attributes i.premise)) no_members))

-- the members of a basis
abbrev pub basis_data : List Text → List Rule → Data
basis_data attributes J = object (member (codes "implications") (array (items_of (map (implication_data attributes) J))) no_members)

-- the line of the concepts
unfoldable pub concepts_json : NamedContext → List Concept → Text
concepts_json t cs = compact_text (concepts_data t cs) ++ line_end

-- the line of the basis
unfoldable pub basis_json : List Text → List Rule → Text
basis_json attributes J = compact_text (basis_data attributes J) ++ line_end

-- ---- letter by letter

-- each text after a comma
abbrev pub array_tail : List Text → Text
array_tail [] = []
array_tail (x ∷ xs) = codes "," ++ (x ++ array_tail xs)

-- the texts in brackets, separated by commas
abbrev pub array_text : List Text → Text
array_text [] = codes "[]"
array_text (x ∷ xs) = codes "[" ++ (x ++ (array_tail xs ++ codes "]"))

-- an array of the names in quotation marks
abbrev pub names_json_text : List Text → Text
names_json_text names = array_text (map quoted names)

-- a concept
abbrev pub concept_json_text : NamedContext → Concept → Text
concept_json_text t c =
    codes "{\"extent\":" ++ (names_json_text (names_at t.objects c.extent)
    ++ (codes ",\"intent\":" ++ (names_json_text (names_of t.attributes c.intent) ++ codes "}")))

-- the line of the concepts
abbrev pub concepts_json_text : NamedContext → List Concept → Text
concepts_json_text t cs = codes "{\"concepts\":" ++ (array_text (map (concept_json_text t) cs) ++ codes "}\n")

-- an implication
abbrev pub implication_json_text : List Text → Rule → Text
implication_json_text attributes i =
    codes "{\"conclusion\":" ++ (names_json_text (names_of attributes (minus i.conclusion i.premise))
    ++ (codes ",\"premise\":" ++ (names_json_text (names_of attributes i.premise) ++ codes "}")))

-- the line of the basis
abbrev pub basis_json_text : List Text → List Rule → Text
basis_json_text attributes J = codes "{\"implications\":" ++ (array_text (map (implication_json_text attributes) J) ++ codes "}\n")
