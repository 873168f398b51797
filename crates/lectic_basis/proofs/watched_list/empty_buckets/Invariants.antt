use Rattle.std.proofs.Common.{◌≡◌, ℕ, map, length, []}
use Rattle.lectic_basis.specs.Watches.{bucket}
use Rattle.lectic_basis.proofs.watched_list.empty_buckets.Given as goal

abbrev pub invariant-loop : goal.invariant-loop
invariant-loop l = record {
  room : length l.buckets.items ≡ l.counter;
  empty : (w : ℕ) → bucket w (map (λ v. v.items) l.buckets.items) ≡ [];
}
