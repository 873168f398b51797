use Rattle.std.proofs.Common.{◌≡◌, ◌+◌, ◌^◌, ◌<◌, ◌≤◌, length, take, drop}
use Rattle.std.specs.List.{flat_map}
use Rattle.packed_concepts.specs.Lines.{lines_from}
use Rattle.packed_concepts.proofs.PassingLemmas.{IsPassing}
use Rattle.packed_concepts.proofs.writing.pass_pages.Given as goal

-- what was passed on, and the lines of the pages that are left
abbrev pub invariant-loop-page : goal.invariant-loop-page
invariant-loop-page g l = record {
  end : l.waits ≤ length l.buffer;
  room : length l.buffer ≡ length l.fn.buffer;
  few : l.next + length (flat_map (λ page. page) (drop l.page-index l.pages)) < 2 ^ 64;
  passing : IsPassing (g.K.Sink.held l.fn.out) (g.K.Sink.held l.out) (g.K.Sink.faults l.fn.out) (g.K.Sink.faults l.out)
      (g.K.Sink.beside l.fn.out) (g.K.Sink.beside l.out) (g.K.Sink.read_counts_beside l.fn.out) (g.K.Sink.read_counts_beside l.out)
      (take l.fn.end l.fn.buffer) (take l.waits l.buffer) (lines_from l.names 0 (flat_map (λ page. page) l.pages))
      (lines_from l.names l.next (flat_map (λ page. page) (drop l.page-index l.pages)));
}
