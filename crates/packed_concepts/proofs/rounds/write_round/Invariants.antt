-- What was written so far, and with the lines of the jobs that are left it is the whole.
use Rattle.std.proofs.Common.{◌≡◌, length, drop}
use Rattle.expert_wire.proofs.WriteLemmas.{Underway}
use Rattle.packed_concepts.specs.Stretches.{all_lines}
use Rattle.packed_concepts.proofs.rounds.write_round.Given as goal

abbrev pub invariant-loop-place : goal.invariant-loop-place
invariant-loop-place g l = record {
  room : length l.buffer ≡ length l.fn.buffer;
  underway : Underway (g.K.Sink.held l.fn.out) (g.K.Sink.held l.out) (g.K.Sink.faults l.fn.out) (g.K.Sink.faults l.out)
      (g.K.Sink.beside l.fn.out) (g.K.Sink.beside l.out) (g.K.Sink.read_counts_beside l.fn.out) (g.K.Sink.read_counts_beside l.out)
      (all_lines l.names l.jobs) (all_lines l.names (drop l.place l.jobs));
}
