-- What was written so far, and with the rest of the pieces it is the whole.
use Rattle.std.proofs.Common.{drop}
use Rattle.std.specs.List.{flat_map}
use Rattle.expert_wire.proofs.WriteLemmas.{Underway}
use Rattle.command_io.proofs.text.write_pieces.Given as goal

abbrev pub invariant-loop-piece : goal.invariant-loop-piece
invariant-loop-piece g l =
    Underway (g.K.Sink.held l.fn.out) (g.K.Sink.held l.out) (g.K.Sink.faults l.fn.out) (g.K.Sink.faults l.out)
    (g.K.Sink.beside l.fn.out) (g.K.Sink.beside l.out) (g.K.Sink.read_counts_beside l.fn.out) (g.K.Sink.read_counts_beside l.out)
    (flat_map (λ piece. piece.items) l.pieces) (flat_map (λ piece. piece.items) (drop l.piece-index l.pieces))
