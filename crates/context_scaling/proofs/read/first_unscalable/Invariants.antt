use Rattle.std.proofs.Common.{◌≡◌, drop, not}
use Rattle.std.specs.List.{position_from}
use Rattle.fca_model.specs.Tables.{Text}
use Rattle.value_tables.specs.Values.{column}
use Rattle.context_scaling.specs.Scaling.{is_scalable}
use Rattle.context_scaling.proofs.read.first_unscalable.Given as goal

abbrev pub invariant-loop-g : goal.invariant-loop-g
invariant-loop-g l =
    position_from (λ (text : Text). not (is_scalable l.kind text)) l.g (drop l.g (column l.values l.m)) ≡ position_from
    (λ (text : Text). not (is_scalable l.kind text)) 0 (column l.values l.m)
