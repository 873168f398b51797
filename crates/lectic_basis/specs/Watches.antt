-- Members that wait for an attribute.
--
-- Each member is in the bucket of one attribute of its premise. While that attribute is outside a set, the premise does not lie within
-- the set, and the member need not be looked at. A member in no bucket, or in the bucket of an attribute of the set, has to have its
-- conclusion within the set.
--
-- Where {a, b} -> {c} waits for b, a set without b need not look at it. For {b} it is looked at, and waits for a from then on, which is as
-- good for {}.
use Rattle.std.specs.Prelude.{◌≡◌, ◌≢◌, ℕ, zero, suc, ◌<◌, ◌++◌, ◌∷◌, length, Bool, true, false, ◌&&◌, ◌||◌, List, [], take, slice_index_or}
use Rattle.std.specs.List.{list_all}
use Rattle.fca_model.specs.Sets.{Set, within, agree_before}
use Rattle.fca_model.specs.Implications.{Rule, rule, respects, respects_all}
use Rattle.implication_closure.specs.Closing.{RuleList, IsClosure}

-- a list of implications, and for each attribute those of them that wait for it
pub record Watched : Type 0 where
  pub list : RuleList
  pub buckets : List (List Rule)

-- the member at a place
abbrev pub member_at : List Rule → ℕ → Rule
member_at J place = slice_index_or J place (rule [] [])

-- what waits for attribute w
abbrev pub bucket : {X : Type 0} → ℕ → List (List X) → List X
bucket w Bs = slice_index_or Bs w []

-- the one at place k of bucket w
abbrev pub waiting_at : ℕ → ℕ → List (List Rule) → Rule
waiting_at w k Bs = member_at (bucket w Bs) k

-- all in buckets pass
abbrev pub InBuckets : {X : Type 0} → (X → Bool) → List (List X) → Type 0
InBuckets p Bs = (w : ℕ) → list_all p (bucket w Bs) ≡ true

-- all members in the buckets of attributes outside X pass
abbrev pub Outside : Set → (Rule → Bool) → List (List Rule) → Type 0
Outside X p Bs = (w : ℕ) → slice_index_or X w false ≡ false → list_all p (bucket w Bs) ≡ true

-- each member of J waits for an attribute outside P, or has its conclusion within D
abbrev pub WaitOrConclude : List Rule → List (List Rule) → Set → Set → Type 0
WaitOrConclude J Bs P D = (p : Rule → Bool) → Outside P p Bs → list_all (λ i. within i.conclusion D || p i) J ≡ true

-- the same of one set
abbrev pub IsGood : List Rule → List (List Rule) → Set → Type 0
IsGood J Bs X = WaitOrConclude J Bs X X

-- what waits for attributes outside X still does so
abbrev pub HasKept : Set → List (List Rule) → List (List Rule) → Type 0
HasKept X old new = (p : Rule → Bool) → Outside X p new → Outside X p old

-- the premise of each member in a bucket has its attribute
abbrev pub IsSorted : List (List Rule) → Type 0
IsSorted Bs = (w : ℕ) → list_all (λ i. slice_index_or i.premise w false) (bucket w Bs) ≡ true

-- n buckets with members of J, each of whose premises has the attribute
pub record IsFiled (n : ℕ) (J : List Rule) (Bs : List (List Rule)) : Type 0 where
  pub room : length Bs ≡ n
  pub sorted : IsSorted Bs
  pub sound : (p : Rule → Bool) → list_all p J ≡ true → InBuckets p Bs

-- i was put last into bucket w
pub record IsPut {X : Type 0} (old new : List (List X)) (w : ℕ) (i : X) : Type 0 where
  pub room : length new ≡ length old
  pub here : bucket w new ≡ bucket w old ++ i ∷ []
  pub elsewhere : (v : ℕ) → v ≢ w → bucket v new ≡ bucket v old

-- i was put last into the bucket of the attribute before k, or nowhere where there is none
abbrev pub IsPutBefore : ℕ → List (List Rule) → List (List Rule) → Rule → Type 0
IsPutBefore zero old new i = new ≡ old
IsPutBefore (suc k) old new i = IsPut old new k i

-- i at place k of bucket z was moved to bucket o, and another took its place
pub record IsMoved {X : Type 0} (old new : List (List X)) (z k o : ℕ) (i : X) : Type 0 where
  pub room : length new ≡ length old
  pub out : (p : X → Bool) → list_all p (bucket z old) ≡ (p i && list_all p (bucket z new))
  pub into : bucket o new ≡ bucket o old ++ i ∷ []
  pub elsewhere : (v : ℕ) → v ≢ z → v ≢ o → bucket v new ≡ bucket v old
  pub front : take k (bucket z new) ≡ take k (bucket z old)
  pub fewer : length (bucket z new) < length (bucket z old)

-- Bucket z is looked through: the first k members in it have their conclusion within D, which came from C, and the others that were
-- looked at wait for an attribute outside D.
pub record IsSettling (z k : ℕ) (C D : Set) (old new : List (List Rule)) : Type 0 where
  pub wide : length D ≡ length C
  pub up : within C D ≡ true
  pub room : length new ≡ length old
  pub sorted : IsSorted new
  pub sound : (p : Rule → Bool) → InBuckets p old → InBuckets p new
  pub kept : (X : Set) → within X C ≡ true → slice_index_or X z false ≡ false → HasKept X old new
  pub bounded : (T : Set) → within C T ≡ true → InBuckets (respects T) old → within D T ≡ true
  pub taken : list_all (λ i. within i.conclusion D) (take k (bucket z new)) ≡ true

-- the closure of X may be looked for: each member waits for an attribute outside A, or has its conclusion within X, which agrees with A
-- before an attribute
pub record CanClose (F : Watched) (limit : ℕ) (A X : Set) : Type 0 where
  pub done_wide : length A ≡ F.list.width
  pub wide : length X ≡ F.list.width
  pub above : within A X ≡ true
  pub agree : agree_before limit A X ≡ true
  pub filed : IsFiled F.list.width F.list.members F.buckets
  pub covers : WaitOrConclude F.list.members F.buckets A X

-- members went to other buckets, so that each set within A is as good as before
pub record HasMoved (A : Set) (old new : Watched) : Type 0 where
  pub list : new.list ≡ old.list
  pub filed : IsFiled new.list.width new.list.members new.buckets
  pub kept : (X : Set) → within X A ≡ true → HasKept X old.buckets new.buckets

-- D is the closure of X, agrees with A before an attribute, and is good
pub record IsClosedBefore (J : List Rule) (Bs : List (List Rule)) (limit : ℕ) (A X D : Set) : Type 0 where
  pub closure : IsClosure J X D
  pub agree : agree_before limit A D ≡ true
  pub good : IsGood J Bs D

-- each set that contains X and respects J contains D
abbrev pub IsBounded : List Rule → Set → Set → Type 0
IsBounded J X D = (T : Set) → within X T ≡ true → respects_all J T ≡ true → within D T ≡ true

-- each set that contains X and respects J differs from A before an attribute
abbrev pub Differs : List Rule → ℕ → Set → Set → Type 0
Differs J limit A X = (T : Set) → within X T ≡ true → respects_all J T ≡ true → agree_before limit A T ≡ false
