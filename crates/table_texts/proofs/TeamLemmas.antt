-- Gatherings that are put at the places of their jobs.
use Rattle.std.proofs.Common.{◌≡◌, ℕ, List, length, sym, ap, subst, ◌∙◌, arith, inl, inr, get_or-set_same, get_or-set_other}
use Rattle.std.proofs.lemmas.Bool.{cases_eq}
use Rattle.std.specs.Prelude.{slice_index_or, slice_set}
use denote.Ref.{Bor}
use Rattle.fca_model.specs.Context.{Context}
use Rattle.concept_walk.specs.declared.gathering.Gathering.{Gathering}
use Rattle.table_texts.specs.Tops.{HasGathered, EachGathered}
use Rattle.table_texts.specs.Teams.{IsDone}
use Rattle.table_texts.specs.declared.tops.Top.{Top}
use Rattle.table_texts.specs.declared.teams.DoneJob.{DoneJob}

-- a gathering is put at the place of a job
pub gathered-set : (K : Context) {W : ℕ} (gatherings : List (Gathering W)) (jobs : List (Bor (List (Top W)))) (f : DoneJob W)
    → length gatherings ≡ length jobs → EachGathered K gatherings jobs → IsDone K jobs f → EachGathered K (slice_set gatherings f.place f.gathering) jobs
gathered-set K {W} gatherings jobs f even each done = λ i p j l. elim (cases_eq i f.place) [
  | inl here ↦ subst (λ (q : Gathering W). HasGathered K q (slice_index_or jobs i j).now)
      (sym (ap (λ k. slice_index_or (slice_set gatherings f.place f.gathering) k p) here
      ∙ get_or-set_same gatherings f.place f.gathering p (omega (arith, even, done.inside))))
      (subst (λ k. HasGathered K f.gathering (slice_index_or jobs k j).now) (sym here) (done.gathered j))
  | inr other ↦ subst (λ (q : Gathering W). HasGathered K q (slice_index_or jobs i j).now) (sym (get_or-set_other gatherings f.place i f.gathering p other))
      (each i p j l)
]
