-- Jobs that are done by those who take them.
use Rattle.std.specs.Prelude.{◌<◌, ℕ, List, length, slice_index_or}
use denote.Ref.{Bor}
use Rattle.fca_model.specs.Context.{Context}
use Rattle.table_texts.specs.Tops.{HasGathered}
use Rattle.table_texts.specs.declared.tops.Top.{Top}
use Rattle.table_texts.specs.declared.teams.DoneJob.{DoneJob}

-- the gathering has the concepts of the job at its place, unless one is missing
pub record IsDone (K : Context) {W : ℕ} (jobs : List (Bor (List (Top W)))) (done : DoneJob W) : Type 0 where
  pub inside : done.place < length jobs
  pub gathered : (j : _) → HasGathered K done.gathering (slice_index_or jobs done.place j).now
