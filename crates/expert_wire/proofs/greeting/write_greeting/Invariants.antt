use Rattle.std.proofs.Common.{drop}
use Rattle.text_pieces.specs.Lines.{text_of}
use Rattle.expert_wire.specs.Greetings.{greeting}
use Rattle.expert_wire.proofs.WriteLemmas.{Underway}
use Rattle.expert_wire.proofs.greeting.write_greeting.Given as goal

abbrev pub invariant-loop-attribute : goal.invariant-loop-attribute
invariant-loop-attribute g l =
    Underway (g.K.Sink.held l.fn.sink) (g.K.Sink.held l.sink) (g.K.Sink.faults l.fn.sink) (g.K.Sink.faults l.sink)
    (g.K.Sink.beside l.fn.sink) (g.K.Sink.beside l.sink) (g.K.Sink.read_counts_beside l.fn.sink) (g.K.Sink.read_counts_beside l.sink)
    (greeting l.table l.expert) (text_of (drop l.attribute l.table.attributes))
