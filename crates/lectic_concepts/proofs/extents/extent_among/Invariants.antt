use Rattle.std.proofs.Common.{◌≡◌, ◌++◌, filter, drop, slice_get}
use Rattle.lectic_concepts.specs.Concepts.{is_above}
use Rattle.lectic_concepts.proofs.extents.extent_among.Given as goal

-- the places so far, followed by those that are left
abbrev pub invariant-loop-place : goal.invariant-loop-place
invariant-loop-place g l =
    l.found.items ++ filter (λ p. is_above l.a (slice_get l.rows.rows p)) (drop l.place-index l.concept.extent.items)
    ≡ filter (λ p. is_above l.a (slice_get l.rows.rows p)) l.concept.extent.items
