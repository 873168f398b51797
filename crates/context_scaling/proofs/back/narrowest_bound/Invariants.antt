use Rattle.std.proofs.Common.{◌≡◌, ◌+◌, drop, fold}
use Rattle.context_scaling.specs.Back.{marked_values, narrowest_bound, narrower_bound_of}
use Rattle.context_scaling.proofs.back.narrowest_bound.Given as goal

abbrev pub invariant-loop-p : goal.invariant-loop-p
invariant-loop-p l = fold (narrower_bound_of l.relation) l.best (marked_values (drop (l.first + l.p) l.row) (drop l.p l.values))
    ≡ narrowest_bound l.relation (drop l.first l.row) l.values
