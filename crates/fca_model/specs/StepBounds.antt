-- How many steps a walk through a tree can still take. A step stands at a set and tries attributes, the last one first. Each time it tries
-- one, and that may begin
-- another step behind this attribute.
use Rattle.std.specs.Prelude.{ℕ, ◌+◌, ◌*◌, ◌-◌, ◌^◌}

-- a bound for a step whose attributes from `from` on and before `end` are still to be tried, of n attributes in all: one for its end, and
-- two for each set of
-- attributes whose first one is among these
abbrev pub steps_bound : ℕ → ℕ → ℕ → ℕ
steps_bound n from end = 2 * (2 ^ (n - from) - 2 ^ (n - end)) + 1
