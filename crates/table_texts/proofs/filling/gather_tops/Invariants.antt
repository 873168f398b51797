use Rattle.std.proofs.Common.{take}
use Rattle.concept_walk.specs.Gatherings.{Fills}
use Rattle.table_texts.specs.Tops.{branches}
use Rattle.table_texts.proofs.filling.gather_tops.Given as goal

abbrev pub invariant-loop-top : goal.invariant-loop-top
invariant-loop-top g l = Fills l.crosses l.fn.gathering l.gathering (branches l.crosses (take l.top-index l.tops))
