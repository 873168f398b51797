use Rattle.std.proofs.Common.{◌≡◌, drop}
use Rattle.fca_model.specs.Context.{Context}
use Rattle.canonical_basis.specs.Reduced.{IsReduced}
use Rattle.canonical_basis.proofs.reducing.reduce_all.Given as goal

abbrev pub invariant-loop-i : goal.invariant-loop-i
invariant-loop-i l = record {
  width : l.reduced.width ≡ l.initial.reduced.width;
  reduced : (K : Context) → K.width ≡ l.initial.reduced.width → IsReduced K l.initial.reduced.members l.members
      → IsReduced K l.reduced.members (drop l.i l.members);
}
