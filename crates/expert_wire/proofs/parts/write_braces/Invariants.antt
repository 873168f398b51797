use Rattle.std.proofs.Common.{◌++◌, codes}
use Rattle.expert_wire.specs.Texts.{braces_text}
use Rattle.expert_wire.proofs.WriteLemmas.{Underway}
use Rattle.expert_wire.proofs.ListedLemmas.{bridged, names_from}
use Rattle.expert_wire.proofs.parts.write_braces.Given as goal

abbrev pub invariant-loop-attribute : goal.invariant-loop-attribute
invariant-loop-attribute g l =
    Underway (g.K.Sink.held l.fn.sink) (g.K.Sink.held l.sink) (g.K.Sink.faults l.fn.sink) (g.K.Sink.faults l.sink)
    (g.K.Sink.beside l.fn.sink) (g.K.Sink.beside l.sink) (g.K.Sink.read_counts_beside l.fn.sink) (g.K.Sink.read_counts_beside l.sink)
    (braces_text l.table.attributes l.set) (bridged l.between (names_from l.attribute l.table.attributes l.set) ++ codes "}")
