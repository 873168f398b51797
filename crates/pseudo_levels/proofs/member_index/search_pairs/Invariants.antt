use Rattle.std.proofs.Common.{◌≡◌, ℕ, suc, ◌+◌, ◌-◌, ◌*◌, ◌<◌, ◌≤◌, true, false, map, length, slice_index_or}
use Rattle.fca_model.specs.Levels.{absorbs_all}
use Rattle.pseudo_levels.specs.Index.{bucket}
use Rattle.pseudo_levels.proofs.member_index.search_pairs.Given as goal

abbrev pub invariant-loop-first : goal.invariant-loop-first
invariant-loop-first l = record {
  in_range : l.from ≤ length l.set;
  reached : (a : ℕ) → 0 ≤ a → a < l.from → slice_index_or l.set a false ≡ true
      → (b : ℕ) → a ≤ b → slice_index_or l.set b false ≡ true
      → absorbs_all (bucket (suc (a * l.width + b)) (map (λ v. v.items) l.buckets)) l.set ≡ true;
}

abbrev pub decreases-loop-first : goal.decreases-loop-first
decreases-loop-first l = length l.set - l.from
