-- Sheets on which lines are laid out.
use Rattle.std.specs.Prelude.{◌≡◌, ◌<◌, ℕ, Option, List, IfSome, length, slice_index_or}
use denote.Ref.{Bor}
use Rattle.fca_model.specs.Tables.{Text}
use Rattle.packed_concepts.specs.Lines.{TableNames}
use Rattle.packed_concepts.specs.Stretches.{StretchConcepts, job_lines}

-- the sheet has the lines of the job, unless there was no room
abbrev pub IsLaid : TableNames → List StretchConcepts → Option Text → Type 0
IsLaid t job sheet = IfSome sheet (λ text. text ≡ job_lines t job)

-- each sheet has those of the job at its place
abbrev pub EachLaid : TableNames → List (Bor (List StretchConcepts)) → List (Option Text) → Type 0
EachLaid t jobs sheets = (i : ℕ) (j : _) (s : _) → i < length jobs → IsLaid t (slice_index_or jobs i j).now (slice_index_or sheets i s)
