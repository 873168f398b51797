-- What was written so far, and with the lines of the jobs that are left it is the whole.
use Rattle.std.proofs.Common.{◌≡◌, ◌-◌, ◌<◌, ◌≤◌, length, drop}
use Rattle.expert_wire.proofs.WriteLemmas.{Underway}
use Rattle.packed_concepts.specs.Stretches.{all_lines}
use Rattle.packed_concepts.proofs.rounds.write_jobs.Given as goal

abbrev pub invariant-loop-from : goal.invariant-loop-from
invariant-loop-from g l = record {
  inside : l.from ≤ length l.jobs;
  room : length l.buffer ≡ length l.fn.buffer;
  some : 0 < length l.sheets;
  underway : Underway (g.K.Sink.held l.fn.out) (g.K.Sink.held l.out) (g.K.Sink.faults l.fn.out) (g.K.Sink.faults l.out)
      (g.K.Sink.beside l.fn.out) (g.K.Sink.beside l.out) (g.K.Sink.read_counts_beside l.fn.out) (g.K.Sink.read_counts_beside l.out)
      (all_lines l.names l.jobs) (all_lines l.names (drop l.from l.jobs));
}

abbrev pub decreases-loop-from : goal.decreases-loop-from
decreases-loop-from g l = length l.jobs - l.from
