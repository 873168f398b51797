use Rattle.std.proofs.Common.{◌<◌, ◌∙◌, ◌++◌, ◌∷◌, [], List, length, subst, arith}
use Rattle.std.proofs.lemmas.List.{get_or_default}
use Rattle.std.proofs.lemmas.List.Elements.{All-push, All-same}
use denote.Ref.{Bor}
use Rattle.table_texts.specs.Tops.{HasGathered}
use Rattle.table_texts.specs.Teams.{IsDone}
use Rattle.table_texts.specs.declared.tops.Top.{Top}
use Rattle.table_texts.specs.declared.teams.DoneJob.{DoneJob}
use Rattle.table_texts.proofs.teams.take_jobs.Goals as goal

pub loop-preserved : goal.loop-preserved
loop-preserved g c =
    let K = c.args.crosses.now in
    let jobs = c.args.jobs.now in
    let one : DoneJob g.row.W = record { place = c.fetch_add-place.result; gathering = c.gather_job-gathering.result } in
    let inside : c.fetch_add-place.result < length jobs = omega (arith, c.if-jobs-place.false) in
    let done : IsDone K jobs one = record {
      inside = inside;
      gathered = λ j. subst (λ (job : Bor (List (Top g.row.W))). HasGathered K one.gathering job.now)
          (c.index-jobs-place.is ∙ get_or_default jobs c.fetch_add-place.result c.index-jobs-place.result j inside) c.gather_job-gathering.ensures;
    } in
    All-same (IsDone K jobs) c.push.new.self.items (c.loop.done.items ++ one ∷ []) c.in_ok-push.ensures.items
    (All-push (IsDone K jobs) c.loop.done.items one c.loop.invariant done)
