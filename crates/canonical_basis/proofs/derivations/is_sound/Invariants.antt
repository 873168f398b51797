use Rattle.std.proofs.Common.{◌≡◌, length, drop}
use Rattle.canonical_basis.specs.Derivations.{is_sound}
use Rattle.canonical_basis.proofs.derivations.is_sound.Given as goal

abbrev pub invariant-loop-i : goal.invariant-loop-i
invariant-loop-i l = record {
  wide : length l.reached ≡ length l.p;
  sound : is_sound l.members l.p l.c l.steps ≡ is_sound l.members l.reached l.c (drop l.i-index l.steps);
}
