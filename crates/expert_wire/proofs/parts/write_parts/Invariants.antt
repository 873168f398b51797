use Rattle.std.proofs.Common.{drop}
use Rattle.expert_wire.specs.Parts.{parts_text}
use Rattle.expert_wire.proofs.WriteLemmas.{Underway}
use Rattle.expert_wire.proofs.parts.write_parts.Given as goal

abbrev pub invariant-loop-part : goal.invariant-loop-part
invariant-loop-part g l =
    Underway (g.K.Sink.held l.fn.sink) (g.K.Sink.held l.sink) (g.K.Sink.faults l.fn.sink) (g.K.Sink.faults l.sink)
    (g.K.Sink.beside l.fn.sink) (g.K.Sink.beside l.sink) (g.K.Sink.read_counts_beside l.fn.sink) (g.K.Sink.read_counts_beside l.sink)
    (parts_text l.table.attributes l.parts) (parts_text l.table.attributes (drop l.part-index l.parts))
