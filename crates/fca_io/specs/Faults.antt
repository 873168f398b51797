-- Faults of the outside are counted, and a count never falls.
use Rattle.std.specs.Prelude.{⊤, ℕ, ◌+◌, ◌-◌, ◌^◌, ◌≤◌, ◌==◌, cond, min, Option, None, Some, Result, Ok, Err}
use Rattle.std.specs.Option.{option_map}

-- the next value of a count, which stops at its last one
abbrev pub one_more : ℕ → ℕ
one_more n = min (n + 1) (2 ^ 64 - 1)

-- the count is greater than before, or stands at its last value
abbrev pub Rose : ℕ → ℕ → Type 0
Rose before now = one_more before ≤ now

-- a count, if it is kept, rose by at most this number
abbrev pub RoseAtMost : Option ℕ → Option ℕ → ℕ → Type 0
RoseAtMost None now most = ⊤
RoseAtMost (Some before) None most = ⊥
RoseAtMost (Some before) (Some now) most = now ≤ before + most

-- the count of whole writes after a write of `size` bytes: one more if all of them were taken
abbrev pub counts_whole : {E : Type 0} → ℕ → Result ℕ E → Option ℕ → Option ℕ
counts_whole size (Ok taken) count = cond (taken == size) (option_map one_more count) count
counts_whole size (Err e) count = count

-- how many reads of a source were made, if they are counted, and its count of faults
pub record ReadCounts : Type 0 where
  pub reads : Option ℕ
  pub faults : ℕ
