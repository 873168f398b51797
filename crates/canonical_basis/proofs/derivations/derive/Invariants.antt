use Rattle.std.proofs.Common.{◌≡◌, ◌≤◌, ◌-◌, ◌++◌, suc, length, option_map}
use Rattle.fca_model.specs.Sets.{size}
use Rattle.canonical_basis.specs.Derivations.{derivation, derivation_within}
use Rattle.canonical_basis.proofs.derivations.derive.Given as goal

abbrev pub invariant-loop-members : goal.invariant-loop-members
invariant-loop-members l = record {
  wide : length l.reached ≡ l.list.width;
  few : length l.steps.items ≤ size l.reached;
  derived : derivation l.list l.p l.c ≡ option_map (λ s. l.steps.items ++ s)
      (derivation_within (suc l.list.width - length l.steps.items) l.list.members l.reached l.c);
}

abbrev pub decreases-loop-members : goal.decreases-loop-members
decreases-loop-members l = l.list.width - size l.reached
