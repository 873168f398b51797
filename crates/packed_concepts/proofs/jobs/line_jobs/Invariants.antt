use Rattle.std.proofs.Common.{◌≡◌, ◌-◌, ◌≤◌, length, take}
use Rattle.std.specs.List.{flat_map}
use Rattle.packed_concepts.proofs.jobs.line_jobs.Given as goal

abbrev pub invariant-loop-from : goal.invariant-loop-from
invariant-loop-from g l = record {
  inside : l.from ≤ length l.stretches;
  grouped : flat_map (λ job. job.now) l.jobs.items ≡ take l.from l.stretches;
}

abbrev pub decreases-loop-from : goal.decreases-loop-from
decreases-loop-from g l = length l.stretches - l.from
