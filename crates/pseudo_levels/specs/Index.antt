-- An index of implications. Each is in the bucket of two attributes of its premise, so a set can break those alone whose
-- bucket stands for two of its own attributes.
use Rattle.std.specs.Prelude.{◌≡◌, ℕ, zero, suc, ◌/◌, ◌%◌, ◌≢◌, ◌≤◌, Bool, true, false, not, ◌&&◌, List, [], length, take, slice_index_or}
use Rattle.std.specs.Prelude.{nat_le, ◌++◌, ◌∷◌}
use Rattle.std.specs.List.{list_all}
use Rattle.fca_model.specs.Sets.{Set, within, strictly_within}
use Rattle.fca_model.specs.Implications.{Rule}
use Rattle.implication_closure.specs.Closing.{RuleList}

-- the set takes in the premise strictly, but not the conclusion
abbrev pub breaks_below : Set → Rule → Bool
breaks_below X i = strictly_within i.premise X && not (within i.conclusion X)

-- i is a member of J that X breaks: what all members pass, it passes
pub record IsBroken (J : List Rule) (X : Set) (i : Rule) : Type 0 where
  pub broken : breaks_below X i ≡ true
  pub member : (p : Rule → Bool) → list_all p J ≡ true → p i ≡ true

-- the first of these implications were put last, up to some place
pub record HasTaken (old : RuleList) (more : List Rule) (new : RuleList) : Type 0 where
  pub count : ℕ
  pub inside : count ≤ length more
  pub members : new ≡ record old { members = old.members ++ take count more }

-- ---- buckets

-- the implications in bucket s, none past the last bucket
abbrev pub bucket : ℕ → List (List Rule) → List Rule
bucket s Bs = slice_index_or Bs s []

-- the set has the two attributes that bucket s stands for among n, of which the first may be the second; bucket 0 stands for none
abbrev pub meets : ℕ → ℕ → Set → Bool
meets n zero P = true
meets n (suc s) P = nat_le (s / n) (s % n) && (slice_index_or P (s / n) false && slice_index_or P (s % n) false)

-- the buckets, of n attributes, have the members of J, each in a bucket whose attributes its premise has
pub record IsFiled (n : ℕ) (J : List Rule) (Bs : List (List Rule)) : Type 0 where
  pub complete : (p : Rule → Bool) → ((s : ℕ) → list_all p (bucket s Bs) ≡ true) → list_all p J ≡ true
  pub sound : (p : Rule → Bool) → list_all p J ≡ true → (s : ℕ) → list_all p (bucket s Bs) ≡ true
  pub sorted : (s : ℕ) → list_all (λ i. meets n s i.premise) (bucket s Bs) ≡ true

-- i, which X breaks, is in one of the buckets
pub record IsBrokenIn (Bs : List (List Rule)) (X : Set) (i : Rule) : Type 0 where
  pub broken : breaks_below X i ≡ true
  pub filed : (p : Rule → Bool) → ((s : ℕ) → list_all p (bucket s Bs) ≡ true) → p i ≡ true

-- i was put last into a bucket whose attributes its premise has
pub record IsPut (n : ℕ) (old new : List (List Rule)) (i : Rule) : Type 0 where
  pub place : ℕ
  pub met : meets n place i.premise ≡ true
  pub here : bucket place new ≡ bucket place old ++ i ∷ []
  pub elsewhere : (s : ℕ) → s ≢ place → bucket s new ≡ bucket s old
