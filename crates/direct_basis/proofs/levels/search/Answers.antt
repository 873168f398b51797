use Rattle.std.proofs.Common.{◌≡◌, ◌∙◌, ◌+◌, ◌++◌, ◌∷◌, [], List, All, ap, ap₂, sym, subst, filter, length, replicate, false}
use Rattle.std.specs.List.{flat_map, range_with_len}
use Rattle.fca_model.specs.Sets.{Set}
use Rattle.direct_basis.specs.Direct.{proper}
use Rattle.direct_basis.specs.Levels.{free, visited, placed}
use Rattle.direct_basis.proofs.LevelLemmas.{level_wide, level_next, visited_next, flat_map-range, more_placed}
use Rattle.direct_basis.proofs.levels.search.Goals as goal

pub loop-size-init : goal.loop-size-init
unfolding visited
loop-size-init c =
    let K = c.args.rows.now in
    let empty : c.empty.result ≡ replicate K.width false = c.empty.ensures ∙ ap (λ n. replicate n false) c.width.ensures.width in
    record {
      free_sets = c.in_ok-visit.ensures.free_sets ∙ ap₂ (λ (Ws : List Set) (X : Set). Ws ++ filter (free K) (X ∷ [])) c.new-free_sets.ensures.items
          empty;
      found = c.in_ok-visit.ensures.found ∙ ap₂ (λ (Ws : List Set) (X : Set). placed Ws (filter (proper K) (X ∷ [])))
          c.new-found.ensures.empty empty;
    }

pub larger_free_sets-requires : goal.larger_free_sets-requires
larger_free_sets-requires c =
    let K = c.args.rows.now in
    subst (λ (Xs : List Set). All (λ A. length A ≡ K.width) Xs) (sym (c.deref.ensures.value ∙ c.loop-size.invariant.free_sets))
    (level_wide K c.loop-size._size)

pub loop-size-preserved : goal.loop-size-preserved
loop-size-preserved c =
    let K = c.args.rows.now in
    let k = c.loop-size._size in
    let free_sets = c.deref.result.now in
    let is = c.deref.ensures.value ∙ c.loop-size.invariant.free_sets in
    let found = c.loop-size.found.keys in
    record {
      free_sets = level_next K k free_sets c.in_ok-free_sets.free_sets.items is c.in_ok-free_sets.ensures.free_sets;
      found = more_placed (proper K) [] found c.larger_free_sets.new.found.keys (flat_map (visited K) (range_with_len 0 (k + 1)))
          (visited K (k + 1)) (flat_map (visited K) (range_with_len 0 (k + 1 + 1)))
          (flat_map-range (visited K) (k + 1)) c.loop-size.invariant.found
          (c.in_ok-free_sets.ensures.found ∙ ap (λ (Xs : List Set). placed found (filter (proper K) Xs)) (visited_next K k free_sets is));
    }
