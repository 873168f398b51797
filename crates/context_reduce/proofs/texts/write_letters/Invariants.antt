use Rattle.std.proofs.Common.{◌≡◌, ◌++◌, map, take}
use Rattle.context_reduce.specs.Texts.{letter_of}
use Rattle.context_reduce.proofs.texts.write_letters.Given as goal

abbrev pub invariant-loop-arrow : goal.invariant-loop-arrow
invariant-loop-arrow l = l.text.items ≡ l.initial.text.items ++ map letter_of (take l.arrow-index l.arrows)
