-- The sink gained a front of the text, and the rest is still to be written. No write was taken whole but the one that left no rest.
use Rattle.std.proofs.Common.{◌≡◌, ◌≢◌, ◌<◌, ◌++◌, ℕ, List, [], length}
use Rattle.std.specs.Option.{option_map}
use Rattle.std.specs.Io.KnownBytes.{Appends}
use Rattle.fca_io.specs.Faults.{one_more}
use Rattle.fca_io.proofs.Streams.{Settled}
use Rattle.fca_io.proofs.transfer.write_text.Given as goal

abbrev pub invariant-loop-rest : goal.invariant-loop-rest
invariant-loop-rest g l = record {
  moved : (front : List ℕ) × (l.text ≡ front ++ l.rest) × Appends (g.K.Sink.held l.initial.sink) (g.K.Sink.held l.sink) front;
  none : l.text ≡ [] → l.sink ≡ l.initial.sink;
  in_part : 0 < length l.rest → g.K.Sink.whole_writes l.sink ≡ g.K.Sink.whole_writes l.initial.sink;
  at_once : l.text ≢ [] → l.rest ≡ [] → g.K.Sink.whole_writes l.sink ≡ option_map one_more (g.K.Sink.whole_writes l.initial.sink);
  settled : Settled (g.K.Sink.faults l.initial.sink) (g.K.Sink.faults l.sink)
      (g.K.Sink.beside l.initial.sink) (g.K.Sink.beside l.sink)
      (g.K.Sink.read_counts_beside l.initial.sink) (g.K.Sink.read_counts_beside l.sink);
}

abbrev pub decreases-loop-rest : goal.decreases-loop-rest
decreases-loop-rest g l = length l.rest
