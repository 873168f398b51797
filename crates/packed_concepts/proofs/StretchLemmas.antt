-- Stretches one behind the other, and jobs of them.
use Rattle.std.proofs.Common.{◌≡◌, ℕ, ◌+◌, ◌-◌, ◌^◌, ◌<◌, ◌≤◌, All, List, [], ◌∷◌, ◌++◌, length, take, drop}
use Rattle.std.proofs.Common.{refl, sym, ap, ap₂, subst, ◌∙◌, arith, length-append}
use Rattle.std.proofs.lemmas.List.{append-nil, take_at, drop_at, take-take, drop-take, take-append-drop, drop-drop}
use Rattle.std.proofs.lemmas.List.Concat.{flat_map-append}
use Rattle.std.proofs.lemmas.List.Elements.{All-nil, All-cons, All-take, All-drop, All-append}
use Rattle.std.specs.List.{flat_map}
use denote.Ref.{Bor}
use Rattle.packed_concepts.specs.Lines.{TableNames, lines_from}
use Rattle.packed_concepts.specs.Packing.{IsNamed}
use Rattle.packed_concepts.specs.Stretches.{StretchConcepts, lines_on, job_lines, all_lines, concepts_of, IsReady, Follow}
use Rattle.packed_concepts.proofs.LineLemmas.{lines_from-append}

-- what holds of all that lists have holds of those of each
pub All-parts : {X Y : Type 0} (P : X → Type 0) (f : Y → List X) (ys : List Y) → All P (flat_map f ys) → All (λ y. All P (f y)) ys
All-parts P f [] h = All-nil (λ y. All P (f y))
All-parts P f (y ∷ ys) h =
    let rest = flat_map f ys in
    All-cons (λ z. All P (f z)) y ys
    (subst (All P) (take_at (f y) rest (length (f y)) refl) (All-take P (length (f y)) (f y ++ rest) h))
    (All-parts P f ys (subst (All P) (drop_at (f y) rest (length (f y)) refl) (All-drop P (length (f y)) (f y ++ rest) h)))

-- the jobs have the lines of the stretches that were grouped
pub lines-jobs : (t : TableNames) (jobs : List (Bor (List StretchConcepts))) → all_lines t jobs ≡ job_lines t (flat_map (λ job. job.now) jobs)
lines-jobs t [] = refl
lines-jobs t (job ∷ jobs) = ap (λ z. job_lines t job.now ++ z) (lines-jobs t jobs)
    ∙ sym (flat_map-append (lines_on t) job.now (flat_map (λ j. j.now) jobs))

pub Follow-nothing : (n : ℕ) → Follow n []
Follow-nothing n = record { lines = λ t. refl; few = All-nil (λ s. s.first + length s.concepts ≤ n + 0) }

-- those that follow
pub Follow-append : (n m : ℕ) (ss ts : List StretchConcepts) → m ≡ n + length (concepts_of ss) → Follow n ss → Follow m ts → Follow n (ss ++ ts)
Follow-append n m ss ts at x y =
    let both : concepts_of (ss ++ ts) ≡ concepts_of ss ++ concepts_of ts = flat_map-append (λ s. s.concepts) ss ts in
    let count : length (concepts_of (ss ++ ts)) ≡ length (concepts_of ss) + length (concepts_of ts) = ap length both
    ∙ length-append (concepts_of ss) (concepts_of ts) in
    record {
      lines = λ t. flat_map-append (lines_on t) ss ts ∙ ap₂ (λ a b. a ++ b) (x.lines t)
          (y.lines t ∙ ap (λ k. lines_from t k (concepts_of ts)) at)
          ∙ sym (lines_from-append t n (concepts_of ss) (concepts_of ts)) ∙ ap (lines_from t n) (sym both);
      few = All-append (λ s. s.first + length s.concepts ≤ n + length (concepts_of (ss ++ ts))) ss ts
          (λ k d l. let few = x.few k d l in omega (arith, few, count))
          (λ k d l. let few = y.few k d l in omega (arith, few, count, at));
    }

-- one alone
pub Follow-one : (n : ℕ) (s : StretchConcepts) → n ≡ s.first → Follow n (s ∷ [])
Follow-one n s at =
    let one : concepts_of (s ∷ []) ≡ s.concepts = append-nil s.concepts in
    let count : length (concepts_of (s ∷ [])) ≡ length s.concepts = ap length one in
    record {
      lines = λ t. append-nil (lines_on t s) ∙ ap₂ (λ k cs. lines_from t k cs) (sym at) (sym one);
      few = All-cons (λ r. r.first + length r.concepts ≤ n + length (concepts_of (s ∷ []))) s [] (omega (arith, count, at))
          (All-nil (λ r. r.first + length r.concepts ≤ n + length (concepts_of (s ∷ []))));
    }

-- those that follow are ready if all names are there
pub ready-all : (t : TableNames) (ss : List StretchConcepts) → Follow 0 ss → All (IsNamed t) (concepts_of ss) → length (concepts_of ss) < 2 ^ 64 → All (IsReady t) ss
ready-all t ss x named small = λ k d l. record {
  named = All-parts (IsNamed t) (λ s. s.concepts) ss named k d l;
  few = let few = x.few k d l in omega (arith, few, small);
}

-- the jobs of a round, and those behind them
pub next-round : (t : TableNames) (jobs : List (Bor (List StretchConcepts))) (from to : ℕ) → from ≤ to
    → all_lines t (drop from jobs) ≡ all_lines t (take (to - from) (drop from jobs)) ++ all_lines t (drop to jobs)
next-round t jobs from to h =
    let round : List (Bor (List StretchConcepts)) = take (to - from) (drop from jobs) in
    let at : from + (to - from) ≡ to = omega (arith, h) in
    ap (all_lines t) (sym (take-append-drop (to - from) (drop from jobs)))
    ∙ flat_map-append (λ (job : Bor (List StretchConcepts)). job_lines t job.now) round (drop (to - from) (drop from jobs))
    ∙ ap (λ (js : List (Bor (List StretchConcepts))). all_lines t round ++ all_lines t js)
    (drop-drop (to - from) from jobs ∙ ap (λ k. drop k jobs) at)

-- the first so many, and those up to another place
take-up : {X : Type 0} (xs : List X) (from to : ℕ) → from ≤ to → take from xs ++ take (to - from) (drop from xs) ≡ take to xs
take-up xs from to h =
    let at : from + (to - from) ≡ to = omega (arith, h) in
    ap₂ (λ a b. a ++ b) (sym (take-take from to xs h)) (sym (drop-take from (to - from) xs) ∙ ap (λ k. drop from (take k xs)) at)
    ∙ take-append-drop from (take to xs)

-- one group more
pub grouped-more : {X : Type 0} (jobs new : List (Bor (List X))) (job : Bor (List X)) (xs : List X) (from to : ℕ)
    → new ≡ jobs ++ job ∷ [] → job.now ≡ take (to - from) (drop from xs) → from ≤ to
    → flat_map (λ j. j.now) jobs ≡ take from xs → flat_map (λ j. j.now) new ≡ take to xs
grouped-more {X} jobs new job xs from to items is h grouped =
    ap (λ (js : List (Bor (List X))). flat_map (λ j. j.now) js) items
    ∙ flat_map-append (λ (j : Bor (List X)). j.now) jobs (job ∷ [])
    ∙ ap₂ (λ (a b : List X). a ++ b) grouped (append-nil job.now ∙ is) ∙ take-up xs from to h
