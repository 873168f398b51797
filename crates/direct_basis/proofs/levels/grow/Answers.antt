use Rattle.std.proofs.Common.{◌≡◌, ◌∙◌, ◌+◌, ℕ, ◌++◌, ◌∷◌, [], ap, filter, map, set, true, arith}
use Rattle.std.proofs.lemmas.List.FromFn.{map-range_with_len_more}
use Rattle.std.specs.List.{range_with_len}
use Rattle.fca_model.specs.Sets.{Set}
use Rattle.direct_basis.specs.Direct.{proper}
use Rattle.direct_basis.specs.Levels.{first_place, free, placed}
use Rattle.direct_basis.proofs.LevelLemmas.{more_kept, more_placed}
use Rattle.direct_basis.proofs.levels.grow.Goals as goal

pub loop-i-preserved : goal.loop-i-preserved
loop-i-preserved c =
    let K = c.args.rows.now in
    let k = c.loop-i.i in
    let f : ℕ → Set = λ i. set c.args.set.now i true in
    let before = map f (range_with_len 0 k) in
    let after = map f (range_with_len 0 (k + 1)) in
    let one_more : after ≡ before ++ f k ∷ [] = map-range_with_len_more f 0 k k (omega arith) in
    record {
      free_sets = more_kept (free K) c.args.free_sets.now.items c.loop-i.free_sets.items c.visit.new.free_sets.items before
          (f k ∷ []) after one_more c.loop-i.invariant.free_sets
          (c.in_ok-visit.ensures.free_sets ∙ ap (λ (X : Set). c.loop-i.free_sets.items ++ filter (free K) (X ∷ [])) c.with.ensures);
      found = more_placed (proper K) c.args.found.now.keys c.loop-i.found.keys c.visit.new.found.keys before
          (f k ∷ []) after one_more c.loop-i.invariant.found
          (c.in_ok-visit.ensures.found ∙ ap (λ (X : Set). placed c.loop-i.found.keys (filter (proper K) (X ∷ []))) c.with.ensures);
    }

pub returns-clause-free_sets : goal.returns-clause-free_sets
returns-clause-free_sets c =
    let K = c.args.rows.now in
    let all : c.loop-i.i ≡ first_place c.args.set.now = omega arith in
    c.loop-i.invariant.free_sets ∙ ap (λ (n : ℕ). c.args.free_sets.now.items ++ filter (free K)
    (map (λ i. set c.args.set.now i true) (range_with_len 0 n))) all

pub returns-clause-found : goal.returns-clause-found
returns-clause-found c =
    let K = c.args.rows.now in
    let all : c.loop-i.i ≡ first_place c.args.set.now = omega arith in
    c.loop-i.invariant.found ∙ ap (λ (n : ℕ). placed c.args.found.now.keys
    (filter (proper K) (map (λ i. set c.args.set.now i true) (range_with_len 0 n)))) all
