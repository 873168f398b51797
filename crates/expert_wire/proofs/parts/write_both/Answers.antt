use Rattle.std.proofs.lemmas.Result.{err_from_is_err_and}
use Rattle.expert_wire.proofs.WriteLemmas.{Writes-then, Writes-front}
use Rattle.expert_wire.proofs.parts.write_both.Goals as goal

pub returns-in_err-write_bytes : goal.returns-in_err-write_bytes
returns-in_err-write_bytes g c =
    let p = err_from_is_err_and c.from_residual.result c.from_residual.ensures.1 in
    rw (p.1, p.2) (Writes-front c.args.second.now _ c.in_err-write_bytes.ensures)

pub returns : goal.returns
returns g c = Writes-then c.write_bytes-2.result c.in_ok-write_bytes.ensures c.write_bytes-2.ensures
