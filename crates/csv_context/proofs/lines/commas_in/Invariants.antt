use Rattle.std.proofs.Common.{◌≡◌, ◌≤◌, ◌+◌, length, take}
use Rattle.csv_context.specs.Lines.{fields_in}
use Rattle.csv_context.proofs.lines.commas_in.Given as goal

abbrev pub invariant-loop-byte : goal.invariant-loop-byte
invariant-loop-byte l = record {
  count : l.commas + 1 ≡ length (fields_in (take l.byte-index l.line));
  few : l.commas ≤ l.byte-index;
}
