use Rattle.std.proofs.Common.{◌≡◌, ◌++◌, List, length, take, drop, sym, subst, arith}
use Rattle.std.proofs.lemmas.List.{take_at}
use Rattle.std.specs.Prelude.{slice_index_or}
use Rattle.concept_walk.specs.declared.gathering.Gathering.{Gathering}
use Rattle.table_texts.specs.Tops.{HasGathered}
use Rattle.table_texts.proofs.teams.gather_jobs.Goals as goal

pub returns-clause-gatherings : goal.returns-clause-gatherings
returns-clause-gatherings g c = λ i p j l.
    let put : List (Gathering g.row.W) = c.put_all.new.gatherings in
    let made = c.in_ok-gatherings.gatherings in
    let room : length put ≡ made.len = omega (arith, c.put_all.ensures.even, c.in_ok-gatherings.ensures.even, made.ok.0) in
    let same : take made.len (put ++ drop (length put) made.items) ≡ put = take_at put (drop (length put) made.items) made.len room in
    subst (λ (ps : List (Gathering g.row.W)). HasGathered c.args.crosses.now (slice_index_or ps i p) (slice_index_or c.args.jobs.now i j).now)
    (sym same) (c.put_all.ensures.gatherings i p j l)
