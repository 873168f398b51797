use Rattle.std.proofs.Common.{◌≡◌, All, List, ◌∷◌, suc, subst, arith}
use Rattle.std.specs.Prelude.{Vec}
use Rattle.std.specs.Global.{Global}
use Rattle.std.specs.Vec.Iter.{into_iter_items}
use Rattle.table_texts.specs.Teams.{IsDone}
use Rattle.table_texts.specs.declared.teams.DoneJob.{DoneJob}
use Rattle.table_texts.proofs.teams.put_all.Goals as goal

pub loop-done-preserved : goal.loop-done-preserved
loop-done-preserved g c =
    let rest : List (Vec (DoneJob g.row.W) Global) = into_iter_items c.next.new.self in
    let next : into_iter_items c.loop-done.done-iterator ≡ c.in-Some.done ∷ rest = c.in-Some.ensures.steps.0 in
    let all : All (λ (done : Vec (DoneJob g.row.W) Global). All (IsDone c.args.crosses.now c.args.jobs.now) done.items)
    (c.in-Some.done ∷ rest) =
    subst (All (λ (done : Vec (DoneJob g.row.W) Global). All (IsDone c.args.crosses.now c.args.jobs.now) done.items)) next
    c.loop-done.invariant.to_come in
    record {
      to_come = λ k d l. all (suc k) d (omega (arith, l));
      even = c.put_gatherings.ensures.even;
      gatherings = c.put_gatherings.ensures.gatherings;
    }
