use Rattle.std.proofs.Common.{length}
use Rattle.pseudo_levels.specs.Search.{AddsOnly, HasLarger, IsLarger, Grows}
use Rattle.pseudo_levels.proofs.candidates.CandidateSets.grow.Given as goal

abbrev pub invariant-loop-i : goal.invariant-loop-i
invariant-loop-i l = record {
  grown : HasLarger l.set l.i l.self;
  only : AddsOnly (IsLarger l.set) l.initial.self l.self;
  grows : Grows (length l.set) l.initial.self l.self;
}
