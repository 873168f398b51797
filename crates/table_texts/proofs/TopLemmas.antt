-- Branches that are laid out and split into jobs.
use Rattle.std.proofs.Common.{◌≡◌, ℕ, ◌+◌, ◌<◌, All, List, [], ◌∷◌, ◌++◌, length, take, suc, refl, sym, ap, subst, ◌∙◌, arith}
use Rattle.std.proofs.lemmas.List.{append-nil, take_at, drop_at}
use Rattle.std.proofs.Math.Seq.{take-suc}
use Rattle.std.proofs.lemmas.List.Concat.{flat_map-append}
use Rattle.std.specs.List.{flat_map}
use Rattle.std.specs.Prelude.{slice_index_or}
use denote.Ref.{Bor}
use Rattle.fca_model.specs.Context.{Context}
use Rattle.lectic_concepts.specs.Branches.{branch}
use Rattle.std.proofs.lemmas.List.Elements.{All-nil, All-cons, All-take, All-drop}
use Rattle.table_texts.specs.Tops.{branches, all_branches}
use Rattle.table_texts.specs.declared.tops.Top.{Top}

-- the first so many, and the next one
pub take-next : {X : Type 0} (xs : List X) (i : ℕ) (x : X) → i < length xs → x ≡ slice_index_or xs i x
    → take (i + 1) xs ≡ take i xs ++ x ∷ []
take-next xs i x l is = let next : i + 1 ≡ suc i = omega arith in
    ap (λ k. take k xs) next ∙ take-suc xs i x l ∙ ap (λ y. take i xs ++ y ∷ []) (sym is)

-- what they give
pub flat_map-next : {X A : Type 0} (h : X → List A) (xs : List X) (i : ℕ) (x : X) → i < length xs → x ≡ slice_index_or xs i x
    → flat_map h (take (i + 1) xs) ≡ flat_map h (take i xs) ++ h x
flat_map-next h xs i x l is = ap (flat_map h) (take-next xs i x l is) ∙ flat_map-append h (take i xs) (x ∷ [])
    ∙ ap (λ z. flat_map h (take i xs) ++ z) (append-nil (h x))

-- what holds of all that the jobs have holds of those of each
pub All-jobs : {X : Type 0} (P : X → Type 0) (jobs : List (Bor (List X))) → All P (flat_map (λ job. job.now) jobs)
    → All (λ job. All P job.now) jobs
All-jobs P [] h = All-nil (λ job. All P job.now)
All-jobs P (job ∷ jobs) h =
    let all = job.now ++ flat_map (λ j. j.now) jobs in
    All-cons (λ (j : _). All P j.now) job jobs
    (subst (All P) (take_at job.now (flat_map (λ j. j.now) jobs) (length job.now) refl) (All-take P (length job.now) all h))
    (All-jobs P jobs (subst (All P) (drop_at job.now (flat_map (λ j. j.now) jobs) (length job.now) refl)
    (All-drop P (length job.now) all h)))

-- the jobs have the branches that were split
pub branches-jobs : (K : Context) {W : ℕ} (jobs : List (Bor (List (Top W))))
    → all_branches K jobs ≡ branches K (flat_map (λ job. job.now) jobs)
branches-jobs K {W} [] = refl
branches-jobs K {W} (job ∷ jobs) = ap (λ z. branches K job.now ++ z) (branches-jobs K jobs)
    ∙ sym (flat_map-append (λ (x : Top W). branch K x.intent x.from) job.now (flat_map (λ j. j.now) jobs))
