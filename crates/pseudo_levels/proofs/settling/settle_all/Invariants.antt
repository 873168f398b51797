use Rattle.std.proofs.Common.{◌≡◌, [], take, map}
use Rattle.fca_model.specs.Context.{Context}
use Rattle.pseudo_levels.specs.Search.{judged, IsSettled, Grows}
use Rattle.pseudo_levels.proofs.settling.settle_all.Given as goal

abbrev pub invariant-loop-i : goal.invariant-loop-i
invariant-loop-i l = record {
  settled : (K : Context) → K.width ≡ l.found.width → l.answers ≡ map (judged [] K l.found.members) l.sets
      → IsSettled [] K l.k l.found.members (take l.i l.sets) l.candidates;
  grows : Grows l.found.width l.initial.candidates l.candidates;
}
