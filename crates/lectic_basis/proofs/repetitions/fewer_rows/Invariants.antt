use Rattle.std.proofs.Common.{◌≡◌, ◌<◌, Bool, length, take}
use Rattle.std.specs.List.{list_all}
use Rattle.fca_model.specs.Sets.{Set}
use Rattle.lectic_basis.proofs.repetitions.fewer_rows.Given as goal

abbrev pub invariant-loop-count : goal.invariant-loop-count
invariant-loop-count g l = record {
  slots : 0 < length l.slots.items;
  width : l.kept.width ≡ l.rows.width;
  rows : (p : Set → Bool) → list_all p l.kept.rows ≡ list_all p (take l.count l.rows.rows);
}
