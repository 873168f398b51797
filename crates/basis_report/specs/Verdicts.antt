-- The verdict on an implication in a table: a derivation from the basis if it holds, or else the first row that refutes it.
--
-- Of the rows {a} and {a, b} over a, b the basis is {} -> {a}. For {b} -> {a} the text is `holds`, `steps 1`, `1 {} -> {a}`, and for {a}
-- -> {b} it is `refuted 1 X. NAME` with the name of the first object.
use Rattle.std.specs.Prelude.{ℕ, Option, Some, None, List, [], ◌++◌, length, position, unwrap_or, slice_get, slice_index_or, codes}
use Rattle.std.specs.List.{flat_map}
use Rattle.fca_model.specs.Sets.{Set}
use Rattle.fca_model.specs.Tables.{Text, NamedContext}
use Rattle.fca_model.specs.Implications.{Rule, rule, refutes}
use Rattle.canonical_basis.specs.Derivations.{derivation}
use Rattle.expert_wire.specs.Texts.{line_end, ordinal, pattern}
use Rattle.report_texts.specs.Reports.{count_line, implication_line}

-- a step of a derivation: the number of the implication that it uses, and the arrow text
abbrev pub step_line : List Text → List Rule → ℕ → Text
step_line attributes J place = implication_line [] attributes place (slice_index_or J place (rule [] []))

-- the implication holds by these steps
abbrev pub derivation_text : List Text → List Rule → List ℕ → Text
derivation_text attributes J steps =
    codes "holds\n" ++ (count_line (codes "steps ") (length steps) ++ flat_map (step_line attributes J) steps)

-- the row at the place refutes the implication
abbrev pub refutation_text : NamedContext → ℕ → Text
refutation_text t place =
    codes "refuted " ++ (ordinal place
    ++ (codes " " ++ (pattern (unwrap_or (slice_get t.context.rows place) [])
    ++ (codes " " ++ (unwrap_or (slice_get t.objects place) [] ++ line_end)))))

-- the row that refutes the implication, if there is one, or else the steps
abbrev pub verdict : NamedContext → List Rule → Option ℕ → Option (List ℕ) → Text
verdict t J (Some place) steps = refutation_text t place
verdict t J None steps = derivation_text t.attributes J (unwrap_or steps [])

-- the place of the first row that refutes the implication
abbrev pub first_refuting : NamedContext → Rule → Option ℕ
first_refuting t i = position (λ row. refutes row i) t.context.rows

-- the verdict on P to C, where the members of J are the basis
unfoldable pub follows_text : NamedContext → List Rule → Set → Set → Text
follows_text t J P C = verdict t J (first_refuting t (rule P C)) (derivation (record { width = t.context.width; members = J }) P C)
