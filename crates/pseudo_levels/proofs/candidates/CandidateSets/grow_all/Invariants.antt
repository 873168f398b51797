use Rattle.std.proofs.Common.{ℕ, take}
use Rattle.fca_model.specs.Sets.{Set}
use Rattle.pseudo_levels.specs.Search.{AddsOnly, AreWide, Has, HaveLarger, IsLarger, Grows}
use Rattle.pseudo_levels.proofs.candidates.CandidateSets.grow_all.Given as goal

abbrev pub invariant-loop-set : goal.invariant-loop-set
invariant-loop-set l = record {
  grown : HaveLarger (take l.set-index l.sets) l.self;
  only : AddsOnly (λ A. (C : Set) × Has C l.sets × IsLarger C A) l.initial.self l.self;
  grows : (n : ℕ) → AreWide n l.sets → Grows n l.initial.self l.self;
}
