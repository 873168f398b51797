-- Which implications say anything of the sets that agree with A before an attribute.
--
-- A premise with an earlier attribute that A lacks lies within none of these sets, so each of them respects the implication, whatever its
-- conclusion is. (Ganter
-- and Wille, "Formal Concept Analysis", a set respects an implication.)
--
-- {a, c} -> {d} says nothing of the sets that lack a as {b} does, so it concerns none that agrees with {b} before b; {b, c} -> {d} does.
use Rattle.std.specs.Prelude.{ℕ, Bool, true, Option, None, Some, nat_le, filter}
use Rattle.fca_model.specs.Sets.{Set}
use Rattle.fca_model.specs.Implications.{Rule}
use Rattle.fca_model.specs.Exploration.{first_missing}
use Rattle.implication_closure.specs.Closing.{RuleList}

-- no attribute, or none before this one
abbrev pub not_before : ℕ → Option ℕ → Bool
not_before from None = true
not_before from (Some w) = nat_le from w

-- the premise has no attribute before `from` that A lacks
abbrev pub concerns : ℕ → Set → Rule → Bool
concerns from A i = not_before from (first_missing 0 i.premise A)

-- the members of the list whose premise has none
abbrev pub concerning : ℕ → Set → RuleList → RuleList
concerning from A L = record { width = L.width; members = filter (concerns from A) L.members }
