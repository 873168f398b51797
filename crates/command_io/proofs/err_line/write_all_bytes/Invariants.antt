-- What was written so far, and with the rest of the parts it is the whole.
use Rattle.std.proofs.Common.{drop}
use Rattle.std.specs.List.{flat_map}
use Rattle.expert_wire.proofs.WriteLemmas.{Underway}
use Rattle.command_io.proofs.err_line.write_all_bytes.Given as goal

abbrev pub invariant-loop-part : goal.invariant-loop-part
invariant-loop-part g l =
    Underway (g.E.Sink.held l.fn.err) (g.E.Sink.held l.err) (g.E.Sink.faults l.fn.err) (g.E.Sink.faults l.err)
    (g.E.Sink.beside l.fn.err) (g.E.Sink.beside l.err) (g.E.Sink.read_counts_beside l.fn.err) (g.E.Sink.read_counts_beside l.err)
    (flat_map (λ part. part.now) l.parts) (flat_map (λ part. part.now) (drop l.part-index l.parts))
