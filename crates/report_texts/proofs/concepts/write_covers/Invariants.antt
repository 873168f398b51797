use Rattle.std.proofs.Common.{◌≡◌, ◌++◌, drop}
use Rattle.std.specs.List.{flat_map}
use Rattle.report_texts.specs.Reports.{cover_line}
use Rattle.report_texts.proofs.concepts.write_covers.Given as goal

abbrev pub invariant-loop-pair : goal.invariant-loop-pair
invariant-loop-pair l = l.draft ++ flat_map cover_line (drop l.pair-index l.covers) ≡ l.fn.draft ++ flat_map cover_line l.covers
