use Rattle.std.proofs.Common.{◌≡◌, map, filter, fold, get_or, not, true, false}
use Rattle.std.specs.List.{list_all, range_with_len}
use Rattle.fca_model.specs.Sets.{join}
use Rattle.fca_model.specs.Context.{closure}
use Rattle.direct_basis.specs.Direct.{without}
use Rattle.direct_basis.proofs.levels.join_of_parts.Given as goal

abbrev pub invariant-loop-a : goal.invariant-loop-a
invariant-loop-a l = record {
  joined : l.joined ≡ fold join l.set (map (λ a. closure l.rows (without l.set a))
      (filter (λ a. get_or l.set a false) (range_with_len 0 l.a)));
  free : list_all (λ a. not (get_or (closure l.rows (without l.set a)) a false)) (filter (λ a. get_or l.set a false) (range_with_len 0 l.a))
      ≡ true;
}
