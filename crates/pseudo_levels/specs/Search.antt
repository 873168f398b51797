-- The search for the members of the basis, one size of premises after the other. It keeps a set of candidates, such that below
-- each set that is not closed, and respects what was found, there is a candidate that is large enough.
use Rattle.std.specs.Prelude.{◌≡◌, ℕ, suc, ◌<◌, ◌≤◌, Bool, true, false, not, ◌&&◌, ◌||◌, cond, Option, Some, None, List, length, filter_map}
use Rattle.std.specs.Prelude.{◌==◌, nat_le, slice_index_or, slice_set}
use Rattle.std.specs.List.{list_all, list_any}
use Rattle.std.specs.Option.{is_some}
use Rattle.fca_model.specs.Sets.{Set, size, within, same}
use Rattle.fca_model.specs.Context.{Context, closure, is_closed}
use Rattle.fca_model.specs.Implications.{Rule, rule, respects_all}
use Rattle.fca_model.specs.Levels.{level_of, absorbs_all}

-- ---- one candidate

-- P's implication to its closure, where P is not closed, respects S, and takes in the conclusion of each member found whose premise lies
-- strictly within it
abbrev pub judged : List Rule → Context → List Rule → Set → Option Rule
judged S K found P = cond (respects_all S P && (absorbs_all found P && not (same (closure K P) P))) (Some (rule P (closure K P))) None

-- the implications that are there
abbrev pub members_of : List (Option Rule) → List Rule
members_of answers = filter_map (λ answer. answer) answers

-- ---- lists of candidates

-- each has width n
abbrev pub AreWide : ℕ → List Set → Type 0
AreWide n Xs = list_all (λ X. length X == n) Xs ≡ true

-- A is one of them
abbrev pub Has : Set → List Set → Type 0
Has A Xs = list_any (same A) Xs ≡ true

-- C with one attribute of those below m more is one of them, whichever C lacks
abbrev pub HasLarger : Set → ℕ → List Set → Type 0
HasLarger C m Xs = (i : ℕ) → i < m → slice_index_or C i false ≡ false → Has (slice_set C i true) Xs

-- C with one attribute more is one of them for each of the sets C, whichever attribute C lacks
abbrev pub HaveLarger : List Set → List Set → Type 0
HaveLarger Cs Xs = (C : Set) → Has C Cs → HasLarger C (length C) Xs

-- what is among the candidates old is among the candidates new, and these are as wide
pub record Grows (n : ℕ) (old new : List Set) : Type 0 where
  pub kept : (p : Set → Bool) → list_any p old ≡ true → list_any p new ≡ true
  pub wide : AreWide n old → AreWide n new

-- A is C with one attribute more
pub record IsLarger (C A : Set) : Type 0 where
  pub attribute : ℕ
  pub inside : attribute < length C
  pub lacks : slice_index_or C attribute false ≡ false
  pub larger : A ≡ slice_set C attribute true

-- each of the candidates new is among the candidates old, or has the property
abbrev pub AddsOnly : (Set → Type 0) → List Set → List Set → Type 0
AddsOnly Q old new = (p : Set → Bool) → list_all p old ≡ true → ((A : Set) → Q A → p A ≡ true) → list_all p new ≡ true

-- ---- what they lead to

-- one of the candidates has size k at least and lies within P
abbrev pub leads : ℕ → List Set → Set → Bool
leads k Xs P = list_any (λ X. nat_le k (size X) && within X P) Xs

-- the candidates lead to each set of size k or more that respects S and what was found, and is not closed
abbrev pub LeadsAll : List Rule → Context → ℕ → List Rule → List Set → Type 0
LeadsAll S K k found Xs = (P : Set) → length P ≡ K.width → respects_all S P ≡ true → respects_all found P ≡ true → is_closed K P ≡ false
    → k ≤ size P → leads k Xs P ≡ true

-- the larger candidates lead to each such set that is larger than k, but where it contains the premise of one of these questions
abbrev pub LeadsOn : List Rule → Context → ℕ → List Rule → List Rule → List Set → Type 0
LeadsOn S K k found questions Xs = (P : Set) → length P ≡ K.width → respects_all S P ≡ true → respects_all found P ≡ true
    → is_closed K P ≡ false → suc k ≤ size P
    → (list_any (λ q. within q.premise P) questions || leads (suc k) Xs P) ≡ true

-- larger candidates lead to each such set that contains one of the sets Xs, of size k, that is no member of the basis
abbrev pub IsSettled : List Rule → Context → ℕ → List Rule → List Set → List Set → Type 0
IsSettled S K k found Xs candidates = (P : Set) → length P ≡ K.width → respects_all S P ≡ true → respects_all found P ≡ true
    → is_closed K P ≡ false → suc k ≤ size P
    → list_any (λ X. not (is_some (judged S K found X)) && within X P) Xs ≡ true → leads (suc k) candidates P ≡ true

-- the members of the level were found, and all else of its size is settled
pub record IsOpened (S : List Rule) (K : Context) (k : ℕ) (found members : List Rule) (candidates : List Set) : Type 0 where
  pub members_are : members ≡ level_of S K k
  pub onward : LeadsOn S K k found members candidates
