use Rattle.std.proofs.Common.{◌≡◌, ◌∙◌, All, List, ◌∷◌, suc, subst, arith, length-set}
use Rattle.std.specs.Vec.Iter.{into_iter_items}
use Rattle.table_texts.specs.Teams.{IsDone}
use Rattle.table_texts.specs.declared.teams.DoneJob.{DoneJob}
use Rattle.table_texts.proofs.TeamLemmas.{gathered-set}
use Rattle.table_texts.proofs.teams.put_gatherings.Goals as goal

pub loop-one-preserved : goal.loop-one-preserved
loop-one-preserved g c =
    let one : DoneJob g.row.W = c.in-Some.one in
    let rest : List (DoneJob g.row.W) = into_iter_items c.next.new.self in
    let next : into_iter_items c.loop-one.one-iterator ≡ one ∷ rest = c.in-Some.ensures.steps.0 in
    let all : All (IsDone c.args.crosses.now c.args.jobs.now) (one ∷ rest) =
    subst (All (IsDone c.args.crosses.now c.args.jobs.now)) next c.loop-one.invariant.to_come in
    record {
      to_come = λ k d l. all (suc k) d (omega (arith, l));
      even = length-set c.loop-one.gatherings one.place one.gathering ∙ c.loop-one.invariant.even;
      gatherings = gathered-set c.args.crosses.now c.loop-one.gatherings c.args.jobs.now one c.loop-one.invariant.even c.loop-one.invariant.gatherings
          (all 0 one (omega arith));
    }
