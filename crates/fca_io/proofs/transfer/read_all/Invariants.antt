-- The bytes read so far are those that the source lost, no more than the limit, and no fewer than there were reads.
use Rattle.std.proofs.Common.{◌≤◌, ◌-◌, vec_len}
use Rattle.std.specs.Io.KnownBytes.{Consumes}
use Rattle.fca_io.specs.Faults.{RoseAtMost}
use Rattle.fca_io.proofs.Streams.{Settled}
use Rattle.fca_io.proofs.transfer.read_all.Given as goal

abbrev pub invariant-loop-bytes : goal.invariant-loop-bytes
invariant-loop-bytes g l =
    (vec_len l.bytes ≤ l.limit) ×
    Consumes (g.S.Source.left l.initial.source) (g.S.Source.left l.source) l.bytes.items ×
    RoseAtMost (g.S.Source.reads l.initial.source) (g.S.Source.reads l.source) (vec_len l.bytes) ×
    Settled (g.S.Source.faults l.initial.source) (g.S.Source.faults l.source)
    (g.S.Source.beside l.initial.source) (g.S.Source.beside l.source)
    (g.S.Source.faults_beside l.initial.source) (g.S.Source.faults_beside l.source)

abbrev pub decreases-loop-bytes : goal.decreases-loop-bytes
decreases-loop-bytes g l = l.limit - vec_len l.bytes
