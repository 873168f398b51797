-- Concepts added one after the other, and their text.
use Rattle.std.proofs.Common.{◌≡◌, ℕ, ◌+◌, List, [], ◌∷◌, ◌++◌, map, refl, sym, ap, ap₂, ◌∙◌, append_assoc}
use Rattle.std.proofs.lemmas.List.{length-map, map-append}
use Rattle.std.specs.List.{flat_map, enumerate_from}
use Rattle.std.specs.Prelude.{codes, decimal}
use Rattle.fca_model.specs.Sets.{Set}
use Rattle.fca_model.specs.Context.{Context, extent}
use Rattle.fca_model.specs.Tables.{Text, NamedContext}
use Rattle.fca_model.specs.Implications.{Rule}
use Rattle.attr_bits.specs.Difference.{minus}
use Rattle.fca_model.specs.Pseudo.{intents}
use Rattle.expert_wire.specs.Texts.{line_end, ordinal, comma_list, names_of, braces_text, arrow_text}
use Rattle.lectic_concepts.specs.Concepts.{concept_of, concepts}
use Rattle.report_texts.specs.Reports.{names_at, concept_line, concepts_text}
use Rattle.packed_concepts.specs.Lines.{TableNames, line_of, lines_from, lines_text}
use Rattle.concept_walk.specs.Gatherings.{Fills, concept_at}
use Rattle.concept_walk.specs.declared.gathering.Gathering.{Gathering}

pub Fills-append : (K : Context) {W : ℕ} (a b c : Gathering W) (Xs Ys : List Set) → Fills K a b Xs → Fills K b c Ys → Fills K a c (Xs ++ Ys)
Fills-append K a b c Xs Ys x y =
    y ∙ ap (λ cs. cs ++ map (concept_at K) Ys) x ∙ append_assoc a.concepts (map (concept_at K) Xs) (map (concept_at K) Ys)
    ∙ ap (λ cs. a.concepts ++ cs) (sym (map-append (concept_at K) Xs Ys))

-- the line of an implication, as its parts were put down
pub arrow-parts : (names : List Text) (old number : Text) (i : Rule) (G : Set) → G ≡ minus i.conclusion i.premise
    → (((((old ++ number) ++ codes " {") ++ comma_list (names_of names i.premise)) ++ codes "} -> {") ++ comma_list (names_of names G)) ++ codes "}\n"
    ≡ old ++ (number ++ (codes " " ++ (arrow_text names i ++ line_end)))
arrow-parts names old number i G is =
    regroup old number (comma_list (names_of names i.premise)) (comma_list (names_of names G))
    ∙ ap (λ X. old ++ (number ++ (codes " " ++ ((braces_text names i.premise ++ (codes " -> " ++ braces_text names X)) ++ line_end)))) is
  where
    regroup : (o n p g : Text)
        → (((((o ++ n) ++ codes " {") ++ p) ++ codes "} -> {") ++ g) ++ codes "}\n"
        ≡ o ++ (n ++ (codes " " ++ (((codes "{" ++ (p ++ codes "}")) ++ (codes " -> " ++ (codes "{" ++ (g ++ codes "}")))) ++ line_end)))
    regroup o n p g = simp append_assoc

-- the names of a table
abbrev pub named : NamedContext → TableNames
named t = record { attributes = t.attributes; objects = t.objects }

-- the line is that of the concept
line-concept : (t : NamedContext) (n : ℕ) (A : Set)
    → line_of (named t) (ordinal n) A (extent t.context A) ≡ concept_line t n (concept_of t.context A)
line-concept t n A = regroup (ordinal n) (comma_list (names_of t.attributes A)) (comma_list (names_at t.objects (extent t.context A)))
  where
    regroup : (n i e : Text)
        → n ++ (codes " {" ++ (i ++ (codes "} | {" ++ (e ++ codes "}\n"))))
        ≡ n ++ (codes " " ++ ((codes "{" ++ (i ++ codes "}")) ++ (codes " | " ++ ((codes "{" ++ (e ++ codes "}")) ++ line_end))))
    regroup n i e = simp append_assoc

lines-concepts : (t : NamedContext) (n : ℕ) (Xs : List Set)
    → lines_from (named t) n (map (concept_at t.context) Xs) ≡ flat_map (λ x. concept_line t x.0 x.1)
    (enumerate_from n (map (concept_of t.context) Xs))
lines-concepts t n [] = refl
lines-concepts t n (X ∷ Xs) = ap₂ (λ u z. u ++ z) (line-concept t n X) (lines-concepts t (n + 1) Xs)

-- the lines of all intents, behind the head
pub text_whole : (t : NamedContext) → lines_text (named t) (map (concept_at t.context) (intents t.context)) ≡ concepts_text t
    (concepts t.context)
unfolding concepts
text_whole t =
    let Xs : List Set = intents t.context in
    ap₂ (λ k z. (codes "concepts " ++ (decimal k ++ line_end)) ++ z) (length-map Xs (concept_at t.context) ∙ sym (length-map Xs (concept_of t.context))) (lines-concepts t 0 Xs)
