use Rattle.std.proofs.Common.{◌≡◌, ◌++◌, length}
use Rattle.std.specs.Vec.Iter.{into_iter_items}
use Rattle.context_table.specs.Table.{first_repeat, repeat_from}
use Rattle.context_table.proofs.distinct_names.Given as goal

abbrev pub invariant-loop-name : goal.invariant-loop-name
invariant-loop-name l =
    (l.place ≡ length l.set.keys) × (l.set.keys ++ into_iter_items l.name-iterator ≡ l.fn.names.items)
    × (repeat_from l.set.keys l.place (into_iter_items l.name-iterator) ≡ first_repeat l.fn.names.items)
