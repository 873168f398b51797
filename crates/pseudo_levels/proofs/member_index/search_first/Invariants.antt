use Rattle.std.proofs.Common.{◌≡◌, ℕ, suc, ◌+◌, ◌-◌, ◌*◌, ◌<◌, ◌≤◌, true, false, map, length, slice_index_or}
use Rattle.fca_model.specs.Levels.{absorbs_all}
use Rattle.pseudo_levels.specs.Index.{bucket}
use Rattle.pseudo_levels.proofs.member_index.search_first.Given as goal

abbrev pub invariant-loop-second : goal.invariant-loop-second
invariant-loop-second l = record {
  in_range : l.from ≤ length l.set;
  reached : (b : ℕ) → l.first ≤ b → b < l.from → slice_index_or l.set b false ≡ true
      → absorbs_all (bucket (suc (l.first * l.width + b)) (map (λ v. v.items) l.buckets)) l.set ≡ true;
}

abbrev pub decreases-loop-second : goal.decreases-loop-second
decreases-loop-second l = length l.set - l.from
