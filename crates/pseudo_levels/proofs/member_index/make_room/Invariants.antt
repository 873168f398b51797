use Rattle.std.proofs.Common.{◌≡◌, ℕ, ◌≤◌, map, length}
use Rattle.pseudo_levels.specs.Index.{bucket}
use Rattle.pseudo_levels.proofs.member_index.make_room.Given as goal

abbrev pub invariant-loop : goal.invariant-loop
invariant-loop l = record {
  room : l.counter ≤ length l.buckets.items;
  same : (s : ℕ) → bucket s (map (λ v. v.items) l.buckets.items) ≡ bucket s (map (λ v. v.items) l.initial.buckets.items);
}
