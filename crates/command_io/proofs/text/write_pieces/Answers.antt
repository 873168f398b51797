use Rattle.std.proofs.Common.{Vec, ℕ, Global, Ok, Err, add-one}
use Rattle.std.proofs.lemmas.Result.{err_from_is_err_and}
use Rattle.expert_wire.proofs.WriteLemmas.{Writes-equal, Underway-equal, Underway-more, Underway-fault, flat_map-drop}
use Rattle.command_io.proofs.text.write_pieces.Goals as goal

pub returns-in_err-write_bytes : goal.returns-in_err-write_bytes
returns-in_err-write_bytes g c =
    let p = err_from_is_err_and c.from_residual.result c.from_residual.ensures.1 in
    let next = flat_map-drop (λ (piece : Vec ℕ Global). piece.items) c.args.pieces.now c.loop-piece.piece-index c.piece-item.result
    c.loop-piece-test.true c.piece-item.is in
    let piece = Writes-equal {r = Err c.in_err-write_bytes.field-0.0} c.deref.ensures.value c.in_err-write_bytes.ensures in
    rw (p.1, p.2) (Underway-fault _ _ _ (Underway-equal next c.loop-piece.invariant) piece)

pub loop-piece-preserved : goal.loop-piece-preserved
loop-piece-preserved g c =
    let next = flat_map-drop (λ (piece : Vec ℕ Global). piece.items) c.args.pieces.now c.loop-piece.piece-index c.piece-item.result
    c.loop-piece-test.true c.piece-item.is in
    let piece = Writes-equal {r = Ok tt} c.deref.ensures.value c.in_ok-write_bytes.ensures in
    rw add-one (Underway-more _ _ (Underway-equal next c.loop-piece.invariant) piece)
