use Rattle.std.proofs.Common.{add-one}
use Rattle.std.proofs.lemmas.Result.{err_from_is_err_and}
use Rattle.expert_wire.proofs.WriteLemmas.{Underway-equal, Underway-more, Underway-fault, Underway-end, flat_map-past}
use Rattle.command_io.proofs.ErrLemmas.{flat_map-drop_or}
use Rattle.command_io.proofs.err_line.write_all_bytes.Goals as goal

pub returns-in_err-write_bytes : goal.returns-in_err-write_bytes
returns-in_err-write_bytes g c =
    let p = err_from_is_err_and c.from_residual.result c.from_residual.ensures.1 in
    rw (p.1, p.2) (Underway-fault _ _ _ (Underway-equal
    (flat_map-drop_or (λ part. part.now) c.args.parts.now c.loop-part.part-index _ c.loop-part-test.true) c.loop-part.invariant)
    c.in_err-write_bytes.ensures)

pub loop-part-preserved : goal.loop-part-preserved
loop-part-preserved g c = rw add-one (Underway-more _ _
    (Underway-equal (flat_map-drop_or (λ part. part.now) c.args.parts.now c.loop-part.part-index _ c.loop-part-test.true)
    c.loop-part.invariant) c.in_ok-write_bytes.ensures)

pub returns : goal.returns
returns g c = Underway-end (Underway-equal (flat_map-past (λ part. part.now) c.args.parts.now c.loop-part.part-index c.loop-part-test.false)
    c.loop-part.invariant)
