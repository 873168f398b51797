use Rattle.std.proofs.Common.{Ok, Err}
use Rattle.std.proofs.lemmas.Result.{err_from_is_err_and}
use Rattle.expert_wire.proofs.WriteLemmas.{Writes-then, Writes-front, Writes-equal}
use Rattle.packed_concepts.specs.Stretches.{all_lines}
use Rattle.packed_concepts.proofs.text.write_jobs_counted.Goals as goal

pub returns-in_err-write_bytes : goal.returns-in_err-write_bytes
returns-in_err-write_bytes g c =
    let p = err_from_is_err_and c.from_residual.result c.from_residual.ensures.1 in
    rw (p.1, p.2) (Writes-front (all_lines c.args.names.now c.args.jobs.now) _
    (Writes-equal {r = Err c.in_err-write_bytes.field-0.0} c.put_count_line-head.ensures.text c.in_err-write_bytes.ensures))

pub returns : goal.returns
returns g c = Writes-then c.write_jobs.result (Writes-equal {r = Ok tt} c.put_count_line-head.ensures.text c.in_ok-write_bytes.ensures) c.write_jobs.ensures
