use Rattle.std.proofs.Common.{rules, ◌+◌, refl, arith}
use Rattle.packed_concepts.proofs.StretchLemmas.{grouped-more}
use Rattle.packed_concepts.proofs.jobs.line_jobs.Goals as goal

pub loop-from-preserved : goal.loop-from-preserved
loop-from-preserved g c =
    let from = c.loop-from.from in
    let to = from + c.len_of_first_job.result in
    record {
      inside = search rules;
      grouped = grouped-more c.loop-from.jobs.items c.push.new.self.items _ c.args.stretches.now from to c.in_ok-push.ensures.items refl
          (omega arith) c.loop-from.invariant.grouped;
    }
