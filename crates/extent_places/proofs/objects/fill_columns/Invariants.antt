use Rattle.extent_places.proofs.ObjectLemmas.{AreColumnsUpTo}
use Rattle.extent_places.proofs.objects.fill_columns.Given as goal

abbrev pub invariant-loop-object : goal.invariant-loop-object
invariant-loop-object g l = AreColumnsUpTo l.rows l.all l.columns l.object
