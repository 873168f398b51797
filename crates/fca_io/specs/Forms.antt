-- Streams in memory, with a plan of the calls that fail.
use Rattle.std.specs.Prelude.{ℕ, Bool, cond, List, ◌==◌}
use Rattle.std.specs.List.{list_any}
use Rattle.fca_io.specs.Faults.{one_more}
use Rattle.fca_io.specs.Shelves.{NamedBytes}

-- the numbers of the calls that fail, counted from 1, and the counts of calls and of faults
pub record FailurePlan : Type 0 where
  pub fails : List ℕ
  pub made : ℕ
  pub faults : ℕ

-- the plan before the first call
abbrev pub failure_plan_of : List ℕ → FailurePlan
failure_plan_of fails = record { fails = fails; made = 0; faults = 0 }

-- whether the next call fails
abbrev pub fails_next : FailurePlan → Bool
fails_next p = list_any (λ n. n == one_more p.made) p.fails

-- the plan with one fault more
abbrev pub with_fault : FailurePlan → FailurePlan
with_fault p = record p { faults = one_more p.faults }

-- the plan after the next call
abbrev pub after_call : FailurePlan → FailurePlan
after_call p = record { fails = p.fails; made = one_more p.made; faults = cond (fails_next p) (one_more p.faults) p.faults }

-- the bytes that a source has left or that a sink holds, and the most that one call moves
pub record Stream : Type 0 where
  pub bytes : List ℕ
  pub most : ℕ
  pub plan : FailurePlan

-- a sink that holds no more than its room, and counts the writes that it took whole
pub record BoundedSink : Type 0 where
  pub bytes : List ℕ
  pub most : ℕ
  pub room : ℕ
  pub whole_writes : ℕ
  pub plan : FailurePlan

-- the files of a shelf, the newest first
pub record Files : Type 0 where
  pub files : List NamedBytes
  pub plan : FailurePlan
