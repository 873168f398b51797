-- Concepts one behind the other, the lines of which are laid out together.
use Rattle.std.specs.Prelude.{◌≡◌, ◌+◌, ◌^◌, ◌<◌, ◌≤◌, ℕ, List, All, length}
use Rattle.std.specs.List.{flat_map}
use denote.Ref.{Bor}
use Rattle.fca_model.specs.Sets.{Set}
use Rattle.fca_model.specs.Tables.{Text}
use Rattle.packed_concepts.specs.Lines.{TableNames, lines_from}
use Rattle.packed_concepts.specs.Packing.{IsNamed, HasRoomForLine}

-- concepts, and the place of the first among all
pub record StretchConcepts : Type 0 where
  pub first : ℕ
  pub concepts : List (Set × List ℕ)

-- the lines of a stretch
abbrev pub lines_on : TableNames → StretchConcepts → Text
lines_on t s = lines_from t s.first s.concepts

-- the lines of the stretches of a job
abbrev pub job_lines : TableNames → List StretchConcepts → Text
job_lines t job = flat_map (lines_on t) job

-- the lines of all jobs, in their order
abbrev pub all_lines : TableNames → List (Bor (List StretchConcepts)) → Text
all_lines t jobs = flat_map (λ job. job_lines t job.now) jobs

-- the concepts of stretches
abbrev pub concepts_of : List StretchConcepts → List (Set × List ℕ)
concepts_of job = flat_map (λ s. s.concepts) job

-- the names of its concepts are there, and their numbers have room
pub record IsReady (t : TableNames) (s : StretchConcepts) : Type 0 where
  pub named : All (IsNamed t) s.concepts
  pub few : s.first + length s.concepts < 2 ^ 64

-- so many bytes hold each of its lines
abbrev pub HasRoomForLines : ℕ → StretchConcepts → Type 0
HasRoomForLines bytes s = All (HasRoomForLine bytes) s.concepts

-- each stretch begins where the one before it ends, the first at place n
pub record Follow (n : ℕ) (job : List StretchConcepts) : Type 0 where
  pub lines : (t : TableNames) → job_lines t job ≡ lines_from t n (concepts_of job)
  pub few : All (λ s. s.first + length s.concepts ≤ n + length (concepts_of job)) job
