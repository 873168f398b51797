-- Which question is held by the fewest.
use Rattle.std.specs.Prelude.{ℕ, ◌≤◌, ◌<◌, ◌==◌, Bool, not, ◌&&◌, List, slice_index_or}
use Rattle.fca_model.specs.Sets.{Set, same}
use Rattle.fca_model.specs.Implications.{Rule}
use Rattle.fca_model.specs.Exploration.{SetHold, holders_of}

-- the hold is another expert's, of a question with the premise P
abbrev pub is_other : ℕ → Set → SetHold → Bool
is_other e P h = not (h.expert == e) && same h.question.premise P

-- Among the first n questions, the one at place b is the first whose premise is held by the fewest.
pub record IsFewest (hs : List SetHold) (J : List Rule) (n b : ℕ) : Type 0 where
  pub in_range : b < n
  pub fewest : (k : ℕ) (d : Rule) → k < n
      → holders_of (slice_index_or J b d).premise hs ≤ holders_of (slice_index_or J k d).premise hs
  pub first : (k : ℕ) (d : Rule) → k < b
      → holders_of (slice_index_or J b d).premise hs < holders_of (slice_index_or J k d).premise hs
