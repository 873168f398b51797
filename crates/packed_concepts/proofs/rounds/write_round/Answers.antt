use Rattle.std.proofs.Common.{◌∙◌, List, add-one}
use Rattle.std.proofs.lemmas.Result.{err_from_is_err_and}
use denote.Ref.{Bor}
use Rattle.expert_wire.proofs.WriteLemmas.{Underway-equal, Underway-more, Underway-fault, flat_map-drop}
use Rattle.packed_concepts.specs.Stretches.{StretchConcepts, job_lines}
use Rattle.packed_concepts.proofs.rounds.write_round.Goals as goal

pub returns-in_err-write_job-clause-written : goal.returns-in_err-write_job-clause-written
returns-in_err-write_job-clause-written g c =
    let p = err_from_is_err_and c.from_residual.result c.from_residual.ensures.1 in
    let next = flat_map-drop (λ (job : Bor (List StretchConcepts)). job_lines c.args.names.now job.now) c.args.jobs.now c.loop-place.place
    c.index-jobs-place.result c.loop-place-test.true c.index-jobs-place.is in
    rw (p.1, p.2) (Underway-fault _ _ _ (Underway-equal next c.loop-place.invariant.underway) c.in_err-write_job.ensures.written)

pub loop-place-preserved : goal.loop-place-preserved
loop-place-preserved g c =
    let next = flat_map-drop (λ (job : Bor (List StretchConcepts)). job_lines c.args.names.now job.now) c.args.jobs.now c.loop-place.place
    c.index-jobs-place.result c.loop-place-test.true c.index-jobs-place.is in
    record {
      room = c.in_ok-write_job.ensures.room ∙ c.loop-place.invariant.room;
      underway = rw add-one (Underway-more _ _ (Underway-equal next c.loop-place.invariant.underway) c.in_ok-write_job.ensures.written);
    }
