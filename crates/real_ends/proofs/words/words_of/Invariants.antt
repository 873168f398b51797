use Rattle.std.proofs.Common.{◌≡◌, ◌++◌, drop, map}
use Rattle.std.specs.String.{string_bytes}
use Rattle.std.specs.Vec.Iter.{into_iter_items}
use Rattle.real_ends.proofs.words.words_of.Given as goal

-- the words made and those still to come are all
abbrev pub invariant-loop-argument : goal.invariant-loop-argument
invariant-loop-argument l = l.words.items ++ map string_bytes (into_iter_items l.argument-iterator) ≡ map string_bytes
    (drop 1 (into_iter_items l.fn.arguments))
