use Rattle.std.proofs.Common.{◌≡◌, ◌+◌, ◌^◌, ◌<◌, ◌≤◌, All, length, take, drop}
use Rattle.packed_concepts.specs.Lines.{lines_from}
use Rattle.packed_concepts.specs.Stretches.{lines_on}
use Rattle.packed_concepts.specs.Packing.{total, unpacked, IsNamed, HasRoomForLine}
use Rattle.packed_concepts.proofs.PassingLemmas.{IsPassing}
use Rattle.packed_concepts.proofs.writing.pass_stretch.Given as goal

-- what was passed on, and the lines that are left
abbrev pub invariant-loop-one : goal.invariant-loop-one
invariant-loop-one g l = record {
  end : l.waits ≤ length l.buffer;
  room : length l.buffer ≡ length l.fn.buffer;
  fits : total (drop l.one-index l.packed) ≡ length l.rest;
  named : All (IsNamed l.names) (unpacked (drop l.one-index l.packed) l.rest);
  enough : All (HasRoomForLine (length l.fn.buffer)) (unpacked (drop l.one-index l.packed) l.rest);
  few : l.next + length (drop l.one-index l.packed) < 2 ^ 64;
  passing : IsPassing (g.K.Sink.held l.fn.out) (g.K.Sink.held l.out) (g.K.Sink.faults l.fn.out) (g.K.Sink.faults l.out)
      (g.K.Sink.beside l.fn.out) (g.K.Sink.beside l.out) (g.K.Sink.read_counts_beside l.fn.out) (g.K.Sink.read_counts_beside l.out)
      (take l.fn.end l.fn.buffer) (take l.waits l.buffer) (lines_on l.names l.stretch)
      (lines_from l.names l.next (unpacked (drop l.one-index l.packed) l.rest));
}
