-- Tests of lists, and filters. A test of all elements, or of any, goes by cases on the first element; so does a filter, whose `cond` is
-- opened by
-- cases on whether the first element passes.
use Rattle.std.proofs.Common.{◌≡◌, ℕ, ◌+◌, ◌<◌, Bool, true, false, not, ◌&&◌, ◌||◌, cond, Some, None, List, [], ◌∷◌, ◌++◌, length, get_or}
use Rattle.std.proofs.Common.{take, map, filter, find, refl, sym, ap, ap₂, ◌∙◌, subst, inl, inr, suc, eqb, arith, Option}
use Rattle.std.proofs.lemmas.Bool.{false≢true, and_parts, and_from, or_cases, or_parts, or_left, or_right, not-false}
use Rattle.std.proofs.lemmas.List.{take_more, append-nil}
use Rattle.std.proofs.lemmas.List.Elements.{All-head, All-tail}
use Rattle.std.specs.List.{All, list_all, list_any, flat_map}
use Rattle.std.proofs.lemmas.Grind.{flat_map-append}
use Rattle.std.specs.Option.{is_none, MatchOption}
use Rattle.std.specs.Prelude.{Result, Ok, Err, IfErr}

-- ---- Booleans

pub and_true : (b : Bool) → (b && true) ≡ b
and_true true = refl
and_true false = refl

pub and_assoc : (a b c : Bool) → ((a && b) && c) ≡ (a && (b && c))
and_assoc true b c = refl
and_assoc false b c = refl

-- not a || b as an implication
pub implies_from : (a b : Bool) → (a ≡ true → b ≡ true) → (not a || b) ≡ true
implies_from true b h = h refl
implies_from false b h = refl

pub implies_at : (a b : Bool) → (not a || b) ≡ true → a ≡ true → b ≡ true
implies_at true b h e = h
implies_at false b h e = absurd (false≢true e)

pub bool_iff : (a b : Bool) → (a ≡ true → b ≡ true) → (b ≡ true → a ≡ true) → a ≡ b
bool_iff true b h k = sym (h refl)
bool_iff false true h k = k refl
bool_iff false false h k = refl

pub not_not : (b : Bool) → not (not b) ≡ true → b ≡ true
not_not true h = refl
not_not false h = absurd (false≢true h)

-- not (not a || b) gives both a and not b
pub not_implies-parts : (a b : Bool) → not (not a || b) ≡ true → (a ≡ true) × (b ≡ false)
not_implies-parts true true h = absurd (false≢true h)
not_implies-parts true false h = (refl, refl)
not_implies-parts false b h = absurd (false≢true h)

pub and_not-implied : (a b : Bool) → (a ≡ true → b ≡ true) → (a && not b) ≡ false
and_not-implied true b h = ap not (h refl)
and_not-implied false b h = refl

pub and-implied : (a b : Bool) → (a ≡ true → b ≡ true) → a ≡ (a && b)
and-implied true b h = sym (h refl)
and-implied false b h = refl

pub or_not : (a b : Bool) → (a || not b) ≡ not (not a && b)
or_not true b = refl
or_not false b = refl

-- a Boolean from its number
pub eqb-cond : (b : Bool) → eqb (cond b 1 0) 1 ≡ b
eqb-cond true = refl
eqb-cond false = refl

-- ---- options and results

pub is_none-true : {X : Type 0} (o : Option X) → is_none o ≡ true → o ≡ None
is_none-true None h = refl
is_none-true (Some x) h = absurd (false≢true h)

pub MatchOption-weaker : {T A A' : Type 0} {B B' : T → Type 0} (o : Option T) → (A → A') → ((x : T) → B x → B' x)
    → MatchOption o A B → MatchOption o A' B'
MatchOption-weaker None f h m = f m
MatchOption-weaker (Some x) f h m = h x m

pub IfErr-any : {T E : Type 0} (r : Result T E) (P : E → Type 0) → ((e : E) → P e) → IfErr r P
IfErr-any (Ok x) P all = tt
IfErr-any (Err e) P all = all e

-- ---- all

pub list_all_from : {X : Type 0} (p : X → Bool) → ((x : X) → p x ≡ true) → (xs : List X) → list_all p xs ≡ true
list_all_from p h [] = refl
list_all_from p h (x ∷ xs) = and_from (p x) (list_all p xs) (h x) (list_all_from p h xs)

pub list_all-mono : {X : Type 0} (p q : X → Bool) → ((x : X) → p x ≡ true → q x ≡ true) → (xs : List X) → list_all p xs ≡ true
    → list_all q xs ≡ true
list_all-mono p q h [] e = refl
list_all-mono p q h (x ∷ xs) e =
    let parts = and_parts (p x) (list_all p xs) e in
    and_from (q x) (list_all q xs) (h x parts.0) (list_all-mono p q h xs parts.1)

pub list_all-mono₂ : {X : Type 0} (p q r : X → Bool) → ((x : X) → p x ≡ true → q x ≡ true → r x ≡ true) → (xs : List X)
    → list_all p xs ≡ true → list_all q xs ≡ true → list_all r xs ≡ true
list_all-mono₂ p q r h [] e f = refl
list_all-mono₂ p q r h (x ∷ xs) e f =
    let ps = and_parts (p x) (list_all p xs) e in
    let qs = and_parts (q x) (list_all q xs) f in
    and_from (r x) (list_all r xs) (h x ps.0 qs.0) (list_all-mono₂ p q r h xs ps.1 qs.1)

pub list_all-and : {X : Type 0} (p q : X → Bool) (xs : List X) → list_all p xs ≡ true → list_all q xs ≡ true
    → list_all (λ x. p x && q x) xs ≡ true
list_all-and p q xs a b = list_all-mono₂ p q (λ x. p x && q x) (λ x s t. and_from (p x) (q x) s t) xs a b

pub list_all-filter : {X : Type 0} (p q : X → Bool) (xs : List X) → list_all p (filter q xs) ≡ list_all (λ x. not (q x) || p x) xs
list_all-filter p q [] = refl
list_all-filter p q (x ∷ xs) =
    elim (q x) as (λ b. list_all p (cond b (x ∷ filter q xs) (filter q xs)) ≡ ((not b || p x) && list_all (λ x. not (q x) || p x) xs)) [
      | true ↦ ap (λ t. p x && t) (list_all-filter p q xs)
      | false ↦ list_all-filter p q xs
    ]

pub list_all-filter_kept : {X : Type 0} (p q : X → Bool) (xs : List X) → list_all p xs ≡ true → list_all p (filter q xs) ≡ true
list_all-filter_kept p q xs h = list_all-filter p q xs ∙ list_all-mono p (λ x. not (q x) || p x) (λ x t. or_right (not (q x)) (p x) t) xs h

-- a test of all elements, by their places
pub all_by_place : {X : Type 0} (p : X → Bool) (d : X) (xs : List X) → ((k : ℕ) → k < length xs → p (get_or xs k d) ≡ true)
    → list_all p xs ≡ true
all_by_place p d [] h = refl
all_by_place p d (x ∷ xs) h = and_from (p x) (list_all p xs) (h 0 (omega arith)) (all_by_place p d xs (λ k l. h (suc k) (omega arith)))

-- ---- any

pub list_any-mono : {X : Type 0} (p q : X → Bool) → ((x : X) → p x ≡ true → q x ≡ true) → (xs : List X) → list_any p xs ≡ true
    → list_any q xs ≡ true
list_any-mono p q h [] a = absurd (false≢true a)
list_any-mono p q h (x ∷ xs) a = elim (or_cases (p x) (list_any p xs) a) [
  | inl here ↦ or_left (q x) (list_any q xs) (h x here)
  | inr there ↦ or_right (q x) (list_any q xs) (list_any-mono p q h xs there)
]

-- the same, where all pass w
pub list_any-mono₂ : {X : Type 0} (p w q : X → Bool) → ((x : X) → p x ≡ true → w x ≡ true → q x ≡ true) → (xs : List X)
    → list_any p xs ≡ true → list_all w xs ≡ true → list_any q xs ≡ true
list_any-mono₂ p w q h [] a b = absurd (false≢true a)
list_any-mono₂ p w q h (x ∷ xs) a b =
    let parts = and_parts (w x) (list_all w xs) b in
    elim (or_cases (p x) (list_any p xs) a) [
      | inl here ↦ or_left (q x) (list_any q xs) (h x here parts.0)
      | inr there ↦ or_right (q x) (list_any q xs) (list_any-mono₂ p w q h xs there parts.1)
    ]

-- an element that passes one test, where all pass another
pub list_any_at : {X : Type 0} (p q : X → Bool) (xs : List X) → list_any p xs ≡ true → list_all q xs ≡ true
    → (x : X) × (p x ≡ true) × (q x ≡ true)
list_any_at p q [] a b = absurd (false≢true a)
list_any_at p q (x ∷ xs) a b =
    let parts = and_parts (q x) (list_all q xs) b in
    elim (or_cases (p x) (list_any p xs) a) [ inl here ↦ (x, here, parts.0) | inr there ↦ list_any_at p q xs there parts.1 ]

-- some element passes exactly where not all fail
pub list_any-not : {X : Type 0} (p : X → Bool) (xs : List X) → list_any p xs ≡ not (list_all (λ x. not (p x)) xs)
list_any-not p [] = refl
list_any-not p (x ∷ xs) = ap (λ b. p x || b) (list_any-not p xs) ∙ or_not (p x) (list_all (λ x. not (p x)) xs)

pub list_any-map : {X Y : Type 0} (p : Y → Bool) (f : X → Y) (xs : List X) → list_any p (map f xs) ≡ list_any (λ x. p (f x)) xs
list_any-map p f [] = refl
list_any-map p f (x ∷ xs) = ap (λ b. p (f x) || b) (list_any-map p f xs)

-- where none fails, all pass
pub list_all-from_none : {X : Type 0} (p : X → Bool) (xs : List X) → list_any (λ x. not (p x)) xs ≡ false → list_all p xs ≡ true
list_all-from_none p [] h = refl
list_all-from_none p (x ∷ xs) h =
    let parts = or_parts (not (p x)) (list_any (λ x. not (p x)) xs) h in
    and_from (p x) (list_all p xs) (not-false (p x) parts.0) (list_all-from_none p xs parts.1)

-- ---- searches

pub find_passes : {X : Type 0} (p : X → Bool) (xs : List X) (y : X) → find p xs ≡ Some y → p y ≡ true
find_passes p [] y h = absurd (cc)
find_passes p (x ∷ xs) y h = go (p x) refl h (find_passes p xs y)
  where
    go : (b : Bool) → p x ≡ b → cond b (Some x) (find p xs) ≡ Some y → (find p xs ≡ Some y → p y ≡ true) → p y ≡ true
    go true e h rest = let same : x ≡ y = cc in ap p (sym same) ∙ e
    go false e h rest = rest h

-- what all pass, the one that is found passes
pub find_all : {X : Type 0} (p q : X → Bool) (xs : List X) (y : X) → find p xs ≡ Some y → list_all q xs ≡ true → q y ≡ true
find_all p q [] y h a = absurd (cc)
find_all p q (x ∷ xs) y h a =
    let parts = and_parts (q x) (list_all q xs) a in
    go (p x) h (λ rest. find_all p q xs y rest parts.1) parts.0
  where
    go : (b : Bool) → cond b (Some x) (find p xs) ≡ Some y → (find p xs ≡ Some y → q y ≡ true) → q x ≡ true → q y ≡ true
    go true h rest t = let same : x ≡ y = cc in ap q (sym same) ∙ t
    go false h rest t = rest h

pub All-find : {X : Type 0} (P : X → Type 0) (p : X → Bool) (xs : List X) (y : X) → All P xs → find p xs ≡ Some y → P y
All-find P p [] y a h = absurd (cc)
All-find P p (x ∷ xs) y a h = go (p x) h (All-find P p xs y (All-tail P x xs a))
  where
    go : (b : Bool) → cond b (Some x) (find p xs) ≡ Some y → (find p xs ≡ Some y → P y) → P y
    go true h rest = let same : x ≡ y = cc in subst P same (All-head P x xs a)
    go false h rest = rest h

pub find_none : {X : Type 0} (p : X → Bool) (xs : List X) → find p xs ≡ None → list_any p xs ≡ false
find_none p [] h = refl
find_none p (x ∷ xs) h = go (p x) h (find_none p xs)
  where
    go : (b : Bool) → cond b (Some x) (find p xs) ≡ None → (find p xs ≡ None → list_any p xs ≡ false) → (b || list_any p xs) ≡ false
    go true h rest = absurd (cc)
    go false h rest = rest h

-- ---- filters

pub filter-filter : {X : Type 0} (p q : X → Bool) (xs : List X) → filter p (filter q xs) ≡ filter (λ x. q x && p x) xs
filter-filter p q [] = refl
filter-filter p q (x ∷ xs) = elim (q x) as (λ b. filter p (cond b (x ∷ filter q xs) (filter q xs)) ≡ cond (b && p x)
    (x ∷ filter (λ x. q x && p x) xs) (filter (λ x. q x && p x) xs)) [
      | true ↦ ap (λ ys. cond (p x) (x ∷ ys) ys) (filter-filter p q xs)
      | false ↦ filter-filter p q xs
    ]

pub filter-map : {X Y : Type 0} (p : Y → Bool) (f : X → Y) (xs : List X) → filter p (map f xs) ≡ map f (filter (λ x. p (f x)) xs)
filter-map p f [] = refl
filter-map p f (x ∷ xs) = ap (λ ys. cond (p (f x)) (f x ∷ ys) ys) (filter-map p f xs) ∙ (
    elim (p (f x)) as (λ b. cond b (f x ∷ map f (filter (λ x. p (f x)) xs)) (map f (filter (λ x. p (f x)) xs)) ≡ map f
    (cond b (x ∷ filter (λ x. p (f x)) xs) (filter (λ x. p (f x)) xs))) [ true ↦ refl | false ↦ refl ])

-- tests that agree on what passes w
pub filter_agree_on : {X : Type 0} (w p q : X → Bool) → ((x : X) → w x ≡ true → p x ≡ q x) → (xs : List X) → list_all w xs ≡ true
    → filter p xs ≡ filter q xs
filter_agree_on w p q h [] e = refl
filter_agree_on w p q h (x ∷ xs) e =
    let parts = and_parts (w x) (list_all w xs) e in
    ap₂ (λ b ys. cond b (x ∷ ys) ys) (h x parts.0) (filter_agree_on w p q h xs parts.1)

pub filter_false : {X : Type 0} (xs : List X) → filter (λ _. false) xs ≡ []
filter_false [] = refl
filter_false (x ∷ xs) = filter_false xs

pub filter_passes : {X : Type 0} (p : X → Bool) (xs : List X) → list_all p (filter p xs) ≡ true
filter_passes p xs = list_all-filter p p xs ∙ list_all_from (λ x. not (p x) || p x) (λ x. implies_from (p x) (p x) (λ t. t)) xs

-- where all pass, the filter keeps the list
pub filter_all : {X : Type 0} (p : X → Bool) (xs : List X) → list_all p xs ≡ true → filter p xs ≡ xs
filter_all p [] e = refl
filter_all p (x ∷ xs) e =
    let parts = and_parts (p x) (list_all p xs) e in
    ap (λ b. cond b (x ∷ filter p xs) (filter p xs)) parts.0 ∙ ap (λ ys. x ∷ ys) (filter_all p xs parts.1)

pub cond_nil : {X : Type 0} (b : Bool) (x : X) (ys : List X) → cond b (x ∷ ys) ys ≡ [] → (b ≡ false) × (ys ≡ [])
cond_nil true x ys e = absurd (cc)
cond_nil false x ys e = (refl, e)

pub filter_none : {X : Type 0} (p : X → Bool) (xs : List X) → filter p xs ≡ [] → list_any p xs ≡ false
filter_none p [] e = refl
filter_none p (x ∷ xs) e =
    let parts = cond_nil (p x) x (filter p xs) e in
    ap (λ b. b || list_any p xs) parts.0 ∙ filter_none p xs parts.1

-- nothing fails exactly where all pass
pub filter_none_all : {X : Type 0} (p : X → Bool) (xs : List X) → filter (λ x. not (p x)) xs ≡ [] → list_all p xs ≡ true
filter_none_all p [] e = refl
filter_none_all p (x ∷ xs) e =
    let parts = cond_nil (not (p x)) x (filter (λ x. not (p x)) xs) e in
    and_from (p x) (list_all p xs) (not-false (p x) parts.0) (filter_none_all p xs parts.1)

pub filter_none_from : {X : Type 0} (p : X → Bool) (xs : List X) → list_all p xs ≡ true → filter (λ x. not (p x)) xs ≡ []
filter_none_from p [] e = refl
filter_none_from p (x ∷ xs) e =
    let parts = and_parts (p x) (list_all p xs) e in
    ap (λ b. cond (not b) (x ∷ filter (λ x. not (p x)) xs) (filter (λ x. not (p x)) xs)) parts.0 ∙ filter_none_from p xs parts.1

-- ---- lists that are copied one member after another

-- the copy of the first i members, with one of the next behind it
pub copied_more : {X : Type 0} (xs : List X) (i : ℕ) (x : X) → i < length xs → x ≡ get_or xs i x
    → (copy : X) (old new : List X) → copy ≡ x → old ≡ take i xs → new ≡ old ++ copy ∷ [] → new ≡ take (i + 1) xs
copied_more xs i x inside is copy old new same before pushed =
    pushed ∙ ap₂ (λ ys y. ys ++ y ∷ []) before (same ∙ is) ∙ sym (take_more xs i x inside)

-- the images of the first i members, with those of the next behind them
pub flat_map-take_more : {X Y : Type 0} (f : X → List Y) (xs : List X) (i : ℕ) (x : X) → i < length xs → x ≡ get_or xs i x
    → flat_map f (take (i + 1) xs) ≡ flat_map f (take i xs) ++ f x
flat_map-take_more f xs i x inside is =
    ap (flat_map f) (take_more xs i x inside ∙ ap (λ y. take i xs ++ y ∷ []) (sym is)) ∙ flat_map-append f (take i xs) (x ∷ [])
    ∙ ap (λ ys. flat_map f (take i xs) ++ ys) (append-nil (f x))
