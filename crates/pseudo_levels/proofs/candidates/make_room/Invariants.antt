use Rattle.std.proofs.Common.{◌≡◌, ◌≤◌, map, length}
use Rattle.pseudo_levels.specs.BySize.{together, AreBySize}
use Rattle.pseudo_levels.proofs.candidates.make_room.Given as goal

abbrev pub invariant-loop : goal.invariant-loop
invariant-loop l = record {
  room : l.counter ≤ length l.by_size.items;
  by_size : AreBySize (map (λ sets. sets.keys) l.initial.by_size.items) → AreBySize (map (λ sets. sets.keys) l.by_size.items);
  same : together (map (λ sets. sets.keys) l.by_size.items) ≡ together (map (λ sets. sets.keys) l.initial.by_size.items);
}
