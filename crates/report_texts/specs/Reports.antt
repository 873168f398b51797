-- Lists of concepts, of their covers and of implications as texts.
use Rattle.std.specs.Prelude.{ℕ, List, [], ◌++◌, map, length, unwrap_or, slice_get, codes, decimal}
use Rattle.std.specs.List.{flat_map, enumerate_from}
use Rattle.fca_model.specs.Tables.{Text, NamedContext}
use Rattle.fca_model.specs.Implications.{Rule}
use Rattle.lectic_concepts.specs.declared.Concept.{Concept}
use Rattle.expert_wire.specs.Texts.{line_end, ordinal, names_in_braces, braces_text, arrow_text}

-- the line that heads a list: the words, and the number of its members
abbrev pub count_line : Text → ℕ → Text
count_line words n = words ++ (decimal n ++ line_end)

-- ---- concepts

-- the names at these places. A name that is not there is empty
abbrev pub names_at : List Text → List ℕ → List Text
names_at names places = map (λ i. unwrap_or (slice_get names i) []) places

-- the concept at a place: its number, its intent, and the objects of its extent
abbrev pub concept_line : NamedContext → ℕ → Concept → Text
concept_line t place c =
    ordinal place ++ (codes " "
    ++ (braces_text t.attributes c.intent ++ (codes " | " ++ (names_in_braces (names_at t.objects c.extent) ++ line_end))))

-- the number of concepts, and a line for each
abbrev pub concepts_text : NamedContext → List Concept → Text
concepts_text t cs = count_line (codes "concepts ") (length cs) ++ flat_map (λ x. concept_line t x.0 x.1) (enumerate_from 0 cs)

-- a cover: the number of the upper concept, which has the smaller intent, and that of the lower one
abbrev pub cover_line : ℕ × ℕ → Text
cover_line pair = ordinal pair.0 ++ (codes " " ++ (ordinal pair.1 ++ line_end))

-- the concepts, and then the covers
abbrev pub lattice_text : NamedContext → List Concept → List (ℕ × ℕ) → Text
lattice_text t cs pairs = concepts_text t cs ++ (count_line (codes "covers ") (length pairs) ++ flat_map cover_line pairs)

-- ---- implications

-- the words, the number of an implication, and its arrow text
abbrev pub implication_line : Text → List Text → ℕ → Rule → Text
implication_line words attributes place i = words ++ (ordinal place ++ (codes " " ++ (arrow_text attributes i ++ line_end)))

-- a line for each implication
abbrev pub implication_lines : Text → List Text → List Rule → Text
implication_lines words attributes J = flat_map (λ x. implication_line words attributes x.0 x.1) (enumerate_from 0 J)

-- the number of members of a basis, and a line for each
abbrev pub basis_text : List Text → List Rule → Text
basis_text attributes J = count_line (codes "basis ") (length J) ++ implication_lines [] attributes J

-- the number of members of a direct basis, and a line for each
abbrev pub direct_text : List Text → List Rule → Text
direct_text attributes J = count_line (codes "direct ") (length J) ++ implication_lines [] attributes J
