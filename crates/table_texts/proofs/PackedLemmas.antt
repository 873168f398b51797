-- Pages that have the concepts of all intents.
use Rattle.std.proofs.Common.{◌≡◌, ℕ, true, All, List, [], ◌∷◌, ◌++◌, suc, length, map, refl, sym, ap, ap₂, subst, ◌∙◌, arith}
use Rattle.std.proofs.lemmas.List.{map-append}
use Rattle.std.proofs.lemmas.List.Elements.{All-nil, All-cons, All-head, All-tail}
use Rattle.std.specs.List.{flat_map}
use denote.Ref.{Bor}
use Rattle.fca_model.specs.Sets.{Set}
use Rattle.fca_model.specs.Tables.{NamedContext}
use Rattle.fca_model.specs.Context.{Context, extent}
use Rattle.fca_model.specs.Pseudo.{intents}
use Rattle.lectic_concepts.proofs.IntentLemmas.{intents_wide}
use Rattle.extent_places.proofs.PlaceLemmas.{all_placed}
use Rattle.lectic_concepts.specs.Concepts.{concepts}
use Rattle.report_texts.specs.Reports.{concepts_text}
use Rattle.packed_concepts.specs.Lines.{TableNames, lines_text}
use Rattle.packed_concepts.specs.Packing.{IsNamed}
use Rattle.concept_walk.specs.Gatherings.{IsGathering, concept_at}
use Rattle.concept_walk.proofs.LineLemmas.{named, text_whole}
use Rattle.concept_walk.specs.declared.gathering.Gathering.{Gathering}
use Rattle.table_texts.specs.Tops.{branches, all_branches, EachGathered}
use Rattle.table_texts.specs.declared.tops.Top.{Top}

-- gatherings of which none lacks a concept have those of all jobs
pub concepts-jobs : (K : Context) {W : ℕ} (gatherings : List (Gathering W)) (jobs : List (Bor (List (Top W)))) → length gatherings ≡ length jobs
    → EachGathered K gatherings jobs → All (λ gathering. gathering.whole ≡ true) gatherings
    → flat_map (λ x. x) (map (λ gathering. gathering.concepts) gatherings) ≡ map (concept_at K) (all_branches K jobs)
concepts-jobs K [] [] even each whole = refl
concepts-jobs K [] (job ∷ jobs) even each whole = absurd (omega arith)
concepts-jobs K (gathering ∷ gatherings) [] even each whole = absurd (omega arith)
concepts-jobs K (gathering ∷ gatherings) (job ∷ jobs) even each whole =
    let first : IsGathering K gathering (branches K job.now) = each 0 gathering job (omega arith) (whole 0 gathering (omega arith)) in
    ap₂ (λ xs ys. xs ++ ys) first (concepts-jobs K gatherings jobs (omega (arith, even)) (λ i p j l. each (suc i) p j (omega (arith, l)))
    (λ i p l. whole (suc i) p (omega (arith, l))))
    ∙ sym (map-append (concept_at K) (branches K job.now) (all_branches K jobs))

-- the names of all concepts are there
named-all : (t : NamedContext) (Xs : List Set) → length t.attributes ≡ t.context.width → length t.objects ≡ length t.context.rows
    → All (λ A. length A ≡ t.context.width) Xs → All (IsNamed (named t)) (map (concept_at t.context) Xs)
named-all t [] attributes objects wide = All-nil (IsNamed (named t))
named-all t (X ∷ Xs) attributes objects wide =
    let first = All-head (λ A. length A ≡ t.context.width) X Xs wide in
    All-cons (IsNamed (named t)) (concept_at t.context X) (map (concept_at t.context) Xs)
    (record {
      wide = omega (arith, first, attributes);
      inside = λ k d l.
          let h = all_placed t.context t.context X (extent t.context X) refl refl k d l in omega (arith, h, objects);
    })
    (named-all t Xs attributes objects (All-tail (λ A. length A ≡ t.context.width) X Xs wide))

all-named : (t : NamedContext) → length t.attributes ≡ t.context.width → length t.objects ≡ length t.context.rows
    → All (IsNamed (named t)) (map (concept_at t.context) (intents t.context))
all-named t attributes objects = named-all t (intents t.context) attributes objects (intents_wide t.context)

-- the names of a table and its concepts, as they were found apart
pub named-whole : (t : NamedContext) (names : TableNames) (cs : List (Set × List ℕ)) → names ≡ named t
    → cs ≡ map (concept_at t.context) (intents t.context)
    → length t.attributes ≡ t.context.width → length t.objects ≡ length t.context.rows → All (IsNamed names) cs
named-whole t names cs is made attributes objects =
    subst (λ (n : TableNames). All (IsNamed n) cs) (sym is)
    (subst (λ (ds : List (Set × List ℕ)). All (IsNamed (named t)) ds) (sym made) (all-named t attributes objects))

pub text-whole : (t : NamedContext) (names : TableNames) (cs : List (Set × List ℕ)) → names ≡ named t
    → cs ≡ map (concept_at t.context) (intents t.context)
    → lines_text names cs ≡ concepts_text t (concepts t.context)
text-whole t names cs is made = ap₂ lines_text is made ∙ text_whole t

-- the intents of the concepts of some intents are these
pub intents-at : (K : Context) (Xs : List Set) → map (λ c. c.0) (map (concept_at K) Xs) ≡ Xs
intents-at K [] = refl
intents-at K (X ∷ Xs) = ap (λ Ys. X ∷ Ys) (intents-at K Xs)
