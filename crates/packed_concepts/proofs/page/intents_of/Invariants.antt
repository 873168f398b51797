use Rattle.std.proofs.Common.{◌≡◌, map, take}
use Rattle.packed_concepts.proofs.page.intents_of.Given as goal

abbrev pub invariant-loop-one : goal.invariant-loop-one
invariant-loop-one g l = l.intents.items ≡ map (λ p. p.intent) (take l.one-index l.packed)
