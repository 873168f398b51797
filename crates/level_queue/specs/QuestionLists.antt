-- Lists of questions: their premises, kept once more in one word each, and the place among them that is for a set.
use Rattle.std.specs.Prelude.{◌≡◌, ◌≢◌, ◌≤◌, ℕ, true, false, length, List, []}
use Rattle.std.specs.List.{AllWithin}
use Rattle.std.specs.Ordering.{is_lt}
use Rattle.fca_model.specs.Sets.{Set, lectic_cmp}
use Rattle.fca_model.specs.Implications.{Rule, premises}

-- the sets are the premises of the questions, in their order, or there are none
abbrev pub AreInOneWord : List Rule → List Set → Type 0
AreInOneWord questions sets = sets ≢ [] → sets ≡ premises questions

-- the sets in front of place n come before A, and the others do not
pub record IsPlaceFor (A : Set) (sets : List Set) (n : ℕ) : Type 0 where
  pub inside : n ≤ length sets
  pub before : AllWithin (λ B. is_lt (lectic_cmp B A) ≡ true) sets 0 n
  pub behind : AllWithin (λ B. is_lt (lectic_cmp B A) ≡ false) sets n (length sets)
