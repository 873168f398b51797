use Rattle.std.proofs.Common.{◌≡◌, map, take}
use Rattle.fca_model.specs.Context.{closure}
use Rattle.fca_model.specs.Implications.{rule}
use Rattle.implication_closure.specs.Closing.{Fits}
use Rattle.canonical_basis.specs.Reduced.{context_of}
use Rattle.canonical_basis.proofs.ordering.close_in_list.Given as goal

abbrev pub invariant-loop-set : goal.invariant-loop-set
invariant-loop-set l = record {
  fits : Fits l.scratch l.list;
  width : l.closed.width ≡ l.list.width;
  members : l.closed.members ≡ map (λ P. rule P (closure (context_of l.list) P)) (take l.set-index l.sets);
}
