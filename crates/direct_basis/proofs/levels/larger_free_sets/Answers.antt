use Rattle.std.proofs.Common.{◌+◌, [], ℕ, List, take}
use Rattle.std.specs.List.{flat_map}
use Rattle.fca_model.specs.Sets.{Set}
use Rattle.fca_model.proofs.ListLemmas.{flat_map-take_more}
use Rattle.direct_basis.specs.Direct.{proper}
use Rattle.direct_basis.specs.Levels.{free, larger}
use Rattle.direct_basis.proofs.LevelLemmas.{more_kept, more_placed}
use Rattle.direct_basis.proofs.levels.larger_free_sets.Goals as goal

pub loop-set-preserved : goal.loop-set-preserved
loop-set-preserved c =
    let K = c.args.rows.now in
    let Ls : List Set = c.args.free_sets.now in
    let k : ℕ = c.loop-set.set-index in
    let S : Set = c.set-item.result in
    let before : List Set = flat_map larger (take k Ls) in
    let after : List Set = flat_map larger (take (k + 1) Ls) in
    let one_more = flat_map-take_more larger Ls k S c.loop-set-test.true c.set-item.is in
    record {
      free_sets = more_kept (free K) [] c.loop-set.next.items c.grow.new.free_sets.items before
          (larger S) after one_more c.loop-set.invariant.free_sets c.in_ok-grow.ensures.free_sets;
      found = more_placed (proper K) c.args.found.now.keys c.loop-set.found.keys c.grow.new.found.keys before
          (larger S) after one_more c.loop-set.invariant.found c.in_ok-grow.ensures.found;
    }
