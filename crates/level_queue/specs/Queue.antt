-- A queue of the open questions: what callers see of it, and what it keeps. It stands at a level, the size of the open premises. All
-- smaller members of the basis are accepted, so the next level can be found when no question of this one is left.
use Rattle.std.specs.Prelude.{◌≡◌, ℕ, ◌+◌, Bool, true, not, ◌||◌, ◌&&◌, cond, List, [], filter, nat_le}
use Rattle.std.specs.List.{list_all}
use Rattle.fca_model.specs.Sets.{Set, size, same, within, meet}
use Rattle.fca_model.specs.Context.{Context, closure}
use Rattle.fca_model.specs.Implications.{Rule, rule, holds}
use Rattle.fca_model.specs.Pseudo.{basis_known}
use Rattle.fca_model.specs.Questions.{has_premise}
use Rattle.fca_model.specs.Invariant.{have_distinct_premises}
use Rattle.fca_model.specs.Levels.{level_of}

-- ---- what callers see

-- the rows, what is known, and what was accepted
pub record QueueModel : Type 0 where
  pub context : Context
  pub known : List Rule
  pub accepted : List Rule

-- ---- what is kept

-- the accepted implications are basis members of sizes up to k, with each of size below k
pub record HasPartUpTo (S : List Rule) (K : Context) (k : ℕ) (acc : List Rule) : Type 0 where
  pub sound : (p : Rule → Bool) → list_all p (basis_known S K) ≡ true → list_all p acc ≡ true
  pub small : list_all (λ i. nat_le (size i.premise) k) acc ≡ true
  pub complete : (p : Rule → Bool) → list_all p acc ≡ true → list_all (λ i. nat_le k (size i.premise) || p i) (basis_known S K) ≡ true

-- the questions are those of level k that were not accepted
pub record IsQueue (S : List Rule) (K : Context) (k : ℕ) (acc questions : List Rule) : Type 0 where
  pub part : HasPartUpTo S K k acc
  pub questions_are : questions ≡ filter (λ i. not (has_premise acc i.premise)) (level_of S K k)

-- between two calls: what is known holds in the rows, no two accepted implications have one premise, and a level past the width is the only
-- one with no question
pub record IsKeptQueue (S : List Rule) (K : Context) (k : ℕ) (acc questions : List Rule) : Type 0 where
  pub hold : list_all (holds K) S ≡ true
  pub distinct : have_distinct_premises acc ≡ true
  pub queue : IsQueue S K k acc questions
  pub done : questions ≡ [] → k ≡ K.width + 1

-- ---- one row more

-- a question with its closure in the rows
abbrev pub renewed : Context → Rule → Rule
renewed K i = rule i.premise (closure K i.premise)

-- a question of which it is only known that this row is new: where the row has the premise, the conclusion loses what the row lacks
abbrev pub narrowed : Set → Rule → Rule
narrowed row i = cond (within i.premise row) (rule i.premise (meet i.conclusion row)) i

-- the premise is not closed
abbrev pub is_unclosed : Rule → Bool
is_unclosed i = not (same i.premise i.conclusion)

-- the questions whose premises are not closed
abbrev pub still_open : List Rule → List Rule
still_open questions = filter is_unclosed questions

-- the question is one of these once there is this row
abbrev pub is_left : Set → Rule → Bool
is_left row i = is_unclosed (narrowed row i)

-- i is the implication q
abbrev pub is_same : Rule → Rule → Bool
is_same q i = same i.premise q.premise && same i.conclusion q.conclusion
