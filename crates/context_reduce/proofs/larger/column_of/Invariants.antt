use Rattle.std.proofs.Common.{length, get_or, false, []}
use Rattle.context_reduce.proofs.ColumnLemmas.{IsBuilt}
use Rattle.context_reduce.proofs.larger.column_of.Given as goal

abbrev pub invariant-loop-i : goal.invariant-loop-i
invariant-loop-i g l = IsBuilt (length l.rows) (λ i. get_or (get_or l.rows i []) l.m false) l.i l.column
