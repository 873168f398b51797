use Rattle.std.proofs.Common.{◌≡◌, ◌++◌, ◌≤◌, length, take, drop}
use Rattle.packed_concepts.specs.Stretches.{job_lines}
use Rattle.packed_concepts.proofs.sheet.put_job.Given as goal

-- what was put down, and the lines of the stretches that are left
abbrev pub invariant-loop-stretch : goal.invariant-loop-stretch
invariant-loop-stretch g l = record {
  end : l.end ≤ length l.text;
  room : length l.text ≡ length l.fn.text;
  laid : take l.end l.text ++ job_lines l.names (drop l.stretch-index l.job) ≡ job_lines l.names l.job;
}
