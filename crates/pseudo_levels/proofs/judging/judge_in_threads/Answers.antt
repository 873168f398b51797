use Rattle.std.proofs.Common.{◌∙◌, []}
use Rattle.rayon.proofs.ToStd.{slice-map}
use Rattle.pseudo_levels.specs.Search.{judged}
use Rattle.pseudo_levels.proofs.judging.judge_in_threads.Goals as goal

pub returns-in-Ok : goal.returns-in-Ok
returns-in-Ok g c =
    let h = c.in-Ok.ensures in
    let chain = rw (c.with_min_len.ensures.base, c.map.ensures.base, c.map.ensures.f) at h.1 in
    h.2 ∙ slice-map chain.0 c.args.candidates.now (chain.1 ∙ c.par_iter.ensures)
    (judged [] c.args.rows.now c.args.smaller.now.members) h.0 chain.2
