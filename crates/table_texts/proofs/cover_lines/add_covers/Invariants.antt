use Rattle.std.proofs.Common.{◌≡◌, ◌≤◌, ◌++◌, drop, length, take}
use Rattle.std.specs.List.{flat_map}
use Rattle.report_texts.specs.Reports.{cover_line}
use Rattle.table_texts.specs.Numerals.{AreNumerals}
use Rattle.table_texts.proofs.cover_lines.add_covers.Given as goal

abbrev pub invariant-loop-pair : goal.invariant-loop-pair
invariant-loop-pair l = record {
  numerals : AreNumerals l.numerals.items;
  ends : l.end ≤ length l.bytes.items;
  written : take l.end l.bytes.items ++ flat_map cover_line (drop l.pair-index l.covers) ≡ l.fn.bytes.items ++ flat_map cover_line l.covers;
}
