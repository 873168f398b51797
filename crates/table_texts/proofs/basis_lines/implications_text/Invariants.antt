use Rattle.std.proofs.Common.{◌≡◌, ◌≤◌, ◌++◌, [], drop, length, take}
use Rattle.std.specs.List.{flat_map, enumerate_from}
use Rattle.report_texts.specs.Reports.{implication_line, basis_text}
use Rattle.table_texts.proofs.basis_lines.implications_text.Given as goal

abbrev pub invariant-loop-place : goal.invariant-loop-place
invariant-loop-place g l = record {
  ends : l.end ≤ length l.bytes.items;
  written : take l.end l.bytes.items ++ flat_map (λ x. implication_line [] l.names x.0 x.1)
      (enumerate_from l.place (drop l.place l.members)) ≡ basis_text l.names l.members;
}
