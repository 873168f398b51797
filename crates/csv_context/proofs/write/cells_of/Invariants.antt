use Rattle.std.proofs.Common.{◌≡◌, ◌≤◌, ◌*◌, length, drop, take}
use Rattle.csv_context.specs.Written.{cells_text}
use Rattle.csv_context.proofs.write.cells_of.Given as goal

abbrev pub invariant-loop-j : goal.invariant-loop-j
invariant-loop-j l = record {
  cells : take l.size l.cells ≡ cells_text (take l.j (drop l.from l.row));
  few : l.size ≤ 2 * l.j;
  room : length l.cells ≡ 128;
}
