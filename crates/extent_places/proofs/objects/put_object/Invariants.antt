use Rattle.std.proofs.Common.{◌≡◌, ◌≤◌, ◌<◌, ◌-◌, ℕ, [], true, false, length, get_or, set}
use Rattle.extent_places.proofs.objects.put_object.Given as goal

abbrev pub invariant-loop-attribute : goal.invariant-loop-attribute
invariant-loop-attribute g l = record {
  from_on : l.from ≤ length l.attributes;
  wide : length l.columns ≡ length l.fn.columns;
  those : (i : ℕ) → i < l.from → get_or l.attributes i false ≡ true
      → get_or l.columns i [] ≡ set (get_or l.fn.columns i []) l.object l.member;
  others : (i : ℕ) → i < l.from → get_or l.attributes i false ≡ false → get_or l.columns i [] ≡ get_or l.fn.columns i [];
  behind : (i : ℕ) → l.from ≤ i → get_or l.columns i [] ≡ get_or l.fn.columns i [];
}

abbrev pub decreases-loop-attribute : goal.decreases-loop-attribute
decreases-loop-attribute g l = length l.attributes - l.from
