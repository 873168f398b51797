-- What was written so far, and with the lines of the stretches that are left it is the whole.
use Rattle.std.proofs.Common.{◌≡◌, length, drop}
use Rattle.expert_wire.proofs.WriteLemmas.{Underway}
use Rattle.packed_concepts.specs.Stretches.{job_lines}
use Rattle.packed_concepts.proofs.rounds.write_stretches.Given as goal

abbrev pub invariant-loop-stretch : goal.invariant-loop-stretch
invariant-loop-stretch g l = record {
  room : length l.buffer ≡ length l.fn.buffer;
  underway : Underway (g.K.Sink.held l.fn.out) (g.K.Sink.held l.out) (g.K.Sink.faults l.fn.out) (g.K.Sink.faults l.out)
      (g.K.Sink.beside l.fn.out) (g.K.Sink.beside l.out) (g.K.Sink.read_counts_beside l.fn.out) (g.K.Sink.read_counts_beside l.out)
      (job_lines l.names l.job) (job_lines l.names (drop l.stretch-index l.job));
}
