-- Sets of objects, and the closure as the meet of the rows of an extent.
use Rattle.std.proofs.Common.{◌≡◌, ℕ, ◌+◌, ◌-◌, ◌<◌, ◌≤◌, Bool, true, false, not, ◌&&◌, ◌||◌, cond, List, [], ◌∷◌, ◌++◌, filter}
use Rattle.std.proofs.Common.{take, length, get_or, set, replicate, refl, sym, ap, ap₂, ◌∙◌, subst, arith, inl, inr, ◌⊎◌, get_or-set_same}
use Rattle.std.proofs.Common.{get_or-set_other, length-set}
use Rattle.std.proofs.lemmas.Bool.{and_parts, and_from, cases_eq, false≢true}
use Rattle.std.proofs.lemmas.List.{length-replicate, get_or-replicate, take_more, append-nil, get_or_default, ext_get_or}
use Rattle.std.proofs.lemmas.List.Elements.{filter-append}
use Rattle.std.proofs.lemmas.List.Sums.{fold-append, AllPass-from_list_all}
use Rattle.std.specs.List.{list_all, fold}
use Rattle.fca_model.specs.Sets.{Set, within, meet, size, full, IsNextMember}
use Rattle.fca_model.specs.Context.{Context, closure}
use Rattle.fca_model.specs.Implications.{rule, respects}
use Rattle.fca_model.proofs.SetLemmas.{within_refl, within_trans, within_full, length-full, within_antisymm, within-meet, length-meet}
use Rattle.fca_model.proofs.SetLemmas.{get_or-meet, within_at_place, within_from_places, set_within, get_or-full, size_strict, size-set}
use Rattle.fca_model.proofs.SetLemmas.{size_le, strictly_from}
use Rattle.fca_model.proofs.ListLemmas.{bool_iff, list_all-filter, all_by_place}
use Rattle.fca_model.proofs.ClosureLemmas.{within-closure, length-closure, closure_in_rows, closure_extensive, respects_from, respects_at}
use Rattle.attr_bits.specs.Difference.{minus}
use Rattle.attr_bits.proofs.DifferenceLemmas.{length-minus, get_or-minus}
use Rattle.extent_places.specs.Objects.{HasObjects, AreColumns, alone}
use Rattle.fca_model.proofs.SetLemmas.{get_or-empty}

abbrev pub row : Context → ℕ → Set
row K g = get_or K.rows g []

-- ---- one attribute alone

only_it : (K : Context) (i j : ℕ) → get_or (alone K i) j false ≡ true → j ≡ i
only_it K i j t = elim (cases_eq j i) [
  | inl here ↦ here
  | inr other ↦ absurd (false≢true (sym (get_or-empty K.width j) ∙ sym (get_or-set_other (replicate K.width false) i j true false other)
      ∙ t))
]

pub within-alone : (K : Context) (i : ℕ) (R : Set) → i < K.width → within (alone K i) R ≡ get_or R i false
within-alone K i R inside = bool_iff (within (alone K i) R) (get_or R i false)
    (λ t. within_at_place (alone K i) R t i (get_or-set_same (replicate K.width false) i true false
    (omega (arith, inside, length-replicate K.width false))))
    (λ t. within_from_places (alone K i) R (λ j l has. ap (λ k. get_or R k false) (only_it K i j has) ∙ t))

-- ---- a set that is filled place by place

-- before a place M has those that pass the test; each from there on is a member, or none is
pub record IsUpTo (n : ℕ) (b : ℕ → Bool) (member : Bool) (M : Set) (i : ℕ) : Type 0 where
  pub long : length M ≡ n
  pub before : (k : ℕ) → k < i → get_or M k false ≡ b k
  pub behind : (k : ℕ) → i ≤ k → k < n → get_or M k false ≡ member

pub up_to_start : (n : ℕ) (b : ℕ → Bool) (member : Bool) (M : Set) → M ≡ replicate n member → IsUpTo n b member M 0
up_to_start n b member M is = record {
  long = ap length is ∙ length-replicate n member;
  before = λ k l. absurd (omega (arith, l));
  behind = λ k l m. ap (λ (X : Set). get_or X k false) is ∙ get_or-replicate n k member false m;
}

-- the next place changes
pub up_to_changed : (n : ℕ) (b : ℕ → Bool) (member : Bool) (M : Set) (i : ℕ) → i < n → IsUpTo n b member M i → b i ≡ not member
    → IsUpTo n b member (set M i (not member)) (i + 1)
up_to_changed n b member M i inside s h = record {
  long = length-set M i (not member) ∙ s.long;
  before = λ k l. elim (cases_eq k i) [
    | inl here ↦ ap (λ j. get_or (set M i (not member)) j false) here
        ∙ get_or-set_same M i (not member) false (omega (arith, inside, s.long)) ∙ sym (ap b here ∙ h)
    | inr other ↦ get_or-set_other M i k (not member) false other ∙ s.before k (omega (arith, l, other))
  ];
  behind = λ k l m. get_or-set_other M i k (not member) false (λ here. absurd (omega (arith, l, here)))
      ∙ s.behind k (omega (arith, l)) m;
}

-- and it stays
pub up_to_kept : (n : ℕ) (b : ℕ → Bool) (member : Bool) (M : Set) (i : ℕ) → i < n → IsUpTo n b member M i → b i ≡ member
    → IsUpTo n b member M (i + 1)
up_to_kept n b member M i inside s h = record {
  long = s.long;
  before = λ k l. elim (cases_eq k i) [
    | inl here ↦ s.behind k (omega (arith, here)) (omega (arith, here, inside)) ∙ sym (ap b here ∙ h)
    | inr other ↦ s.before k (omega (arith, l, other))
  ];
  behind = λ k l m. s.behind k (omega (arith, l)) m;
}

-- ---- the objects of a set

abbrev pub contains : Context → Set → ℕ → Bool
contains K A g = within A (row K g)

pub all_objects : (K : Context) (A : Set) (member : Bool) (S : Set) (m : ℕ) → IsUpTo (length K.rows) (contains K A) member S m
    → length K.rows ≤ m → HasObjects K A S
all_objects K A member S m s all = record { long = s.long; each = λ k l. s.before k (omega (arith, l, all)) }

-- ---- all objects

pub all_kept : (p : Set → Bool) (Xs : List Set) → list_all p (filter p Xs) ≡ true
all_kept p Xs = list_all-filter p p Xs ∙ either Xs
  where
    one : (b : Bool) → (not b || b) ≡ true
    one true = refl
    one false = refl

    either : (Xs : List Set) → list_all (λ X. not (p X) || p X) Xs ≡ true
    either [] = refl
    either (X ∷ Xs) = and_from (not (p X) || p X) (list_all (λ X. not (p X) || p X) Xs) (one (p X)) (either Xs)

-- all objects are those of A if each row contains A
pub has_all : (K : Context) (A S : Set) → list_all (within A) K.rows ≡ true → S ≡ full (length K.rows) → HasObjects K A S
has_all K A S each is = record {
  long = ap length is ∙ length-full (length K.rows);
  each = λ g l. ap (λ (X : Set). get_or X g false) is ∙ get_or-full (length K.rows) g l
      ∙ sym (AllPass-from_list_all (within A) K.rows each g [] l);
}

-- ---- the closure by the rows

-- the closure lies within each row that contains A
pub closure_in_row : (K : Context) (A : Set) (g : ℕ) → g < length K.rows → within A (row K g) ≡ true → within (closure K A) (row K g) ≡ true
closure_in_row K A g inside h = respects_at (row K g) (rule A (closure K A))
    (AllPass-from_list_all (λ R. respects R (rule A (closure K A))) K.rows (closure_in_rows K A) g [] inside) h

-- what lies within each row that contains A lies within the closure
in_closure : (K : Context) (A M : Set) → length M ≡ K.width
    → ((g : ℕ) → g < length K.rows → within A (row K g) ≡ true → within M (row K g) ≡ true) → within M (closure K A) ≡ true
in_closure K A M wide h = within-closure K A M wide
    ∙ all_by_place (λ R. respects R (rule A M)) [] K.rows (λ g l. respects_from (row K g) (rule A M) (h g l))

closure_is : (K : Context) (A M : Set) → length M ≡ K.width → within (closure K A) M ≡ true → within M (closure K A) ≡ true
    → M ≡ closure K A
closure_is K A M wide above below = within_antisymm M (closure K A) (wide ∙ sym (length-closure K A)) below above

-- M is between the closure of A and each row whose object is in S and no more in T
pub record IsMet (K : Context) (A S M T : Set) : Type 0 where
  pub wide : length M ≡ K.width
  pub above : within (closure K A) M ≡ true
  pub long : length T ≡ length S
  pub part : (g : ℕ) → get_or T g false ≡ true → get_or S g false ≡ true
  pub below : (g : ℕ) → get_or S g false ≡ true → get_or T g false ≡ false → within M (row K g) ≡ true

pub met_none : (K : Context) (A S M : Set) → M ≡ full K.width → IsMet K A S M S
met_none K A S M is = record {
  wide = ap length is ∙ length-full K.width;
  above = ap (within (closure K A)) is ∙ within_full K.width (closure K A) (length-closure K A);
  long = refl;
  part = λ g t. t;
  below = λ g t f. absurd (false≢true (sym f ∙ t));
}

-- one row more
pub met_more : (K : Context) (A S M T : Set) (m : ℕ) (R : Set) → HasObjects K A S → IsMet K A S M T → IsNextMember T 0 m → R ≡ row K m
    → IsMet K A S (meet M R) (set T m false)
met_more K A S M T m R has met next is =
    let inside : m < length K.rows = omega (arith, next.in_range, met.long, has.long) in
    let both = and_parts (within (meet M R) M) (within (meet M R) R) (sym (within-meet (meet M R) M R) ∙ within_refl (meet M R)) in
    let contains : within A (row K m) ≡ true = sym (has.each m inside) ∙ met.part m next.member in
    record {
      wide = length-meet M R ∙ met.wide;
      above = within-meet (closure K A) M R ∙ and_from (within (closure K A) M) (within (closure K A) R) met.above
          (ap (within (closure K A)) is ∙ closure_in_row K A m inside contains);
      long = length-set T m false ∙ met.long;
      part = λ g t. elim (cases_eq g m) [
        | inl here ↦ absurd (false≢true (sym (ap (λ k. get_or (set T m false) k false) here ∙ get_or-set_same T m false false next.in_range)
            ∙ t))
        | inr other ↦ met.part g (sym (get_or-set_other T m g false false other) ∙ t)
      ];
      below = λ g t f. elim (cases_eq g m) [
        | inl here ↦ subst (λ k. within (meet M R) (row K k) ≡ true) (sym here) (ap (within (meet M R)) (sym is) ∙ both.1)
        | inr other ↦ within_trans (meet M R) M (row K g) both.0 (met.below g t (sym (get_or-set_other T m g false false other) ∙ f))
      ];
    }

-- fewer are left
pub fewer_left : (T : Set) (m : ℕ) → IsNextMember T 0 m → size (set T m false) < size T
fewer_left T m next = size_strict (set T m false) T (length-set T m false) (strictly_from (set T m false) T
    (within_from_places (set T m false) T (λ j l t. elim (cases_eq j m) [
      | inl here ↦ ap (λ k. get_or T k false) here ∙ next.member
      | inr other ↦ sym (get_or-set_other T m j false false other) ∙ t
    ]))
    (λ same. false≢true (sym (get_or-set_same T m false false next.in_range) ∙ ap (λ (X : Set). get_or X m false) same ∙ next.member)))

-- once M lies within A it is the closure
pub met_enough : (K : Context) (A S M T : Set) → length A ≡ K.width → IsMet K A S M T → within M A ≡ true → M ≡ closure K A
met_enough K A S M T wide met small = closure_is K A M met.wide met.above
    (within_trans M A (closure K A) small (closure_extensive K A wide))

-- and so it is if no object is left
pub met_all : (K : Context) (A S M T : Set) → HasObjects K A S → IsMet K A S M T
    → ((i : ℕ) → 0 ≤ i → i < length T → get_or T i false ≡ false) → M ≡ closure K A
met_all K A S M T has met none =
    closure_is K A M met.wide met.above (in_closure K A M met.wide
    (λ g l h. met.below g (has.each g l ∙ h) (none g (omega arith) (omega (arith, l, has.long, met.long)))))

-- ---- the closure by the columns

abbrev pub in_closure_of : Context → Set → ℕ → Bool
in_closure_of K A i = get_or (closure K A) i false

-- an attribute that each row with A has is in the closure of A
pub closure_has : (K : Context) (A : Set) (i : ℕ) → i < K.width
    → ((g : ℕ) → g < length K.rows → within A (row K g) ≡ true → get_or (row K g) i false ≡ true) → in_closure_of K A i ≡ true
closure_has K A i inside each = sym (within-alone K i (closure K A) inside)
    ∙ in_closure K A (alone K i) (length-set (replicate K.width false) i true ∙ length-replicate K.width false)
    (λ g l h. within-alone K i (row K g) inside ∙ each g l h)

-- an attribute is in the closure exactly where all objects of the set have it
pub within-column : (K : Context) (A S C : Set) (i : ℕ) → i < K.width → HasObjects K A S → HasObjects K (alone K i) C
    → within S C ≡ in_closure_of K A i
within-column K A S C i inside s c = bool_iff (within S C) (in_closure_of K A i)
    (λ t. closure_has K A i inside (λ g l h. sym (within-alone K i (row K g) inside) ∙ sym (c.each g l)
    ∙ within_at_place S C t g (s.each g l ∙ h)))
    (λ t. within_from_places S C (λ g l h.
    let inside_rows : g < length K.rows = omega (arith, l, s.long) in
    let in_row : within (closure K A) (row K g) ≡ true = closure_in_row K A g inside_rows (sym (s.each g inside_rows) ∙ h) in
    c.each g inside_rows ∙ within-alone K i (row K g) inside ∙ within_at_place (closure K A) (row K g) in_row i t))

-- M has the attributes of the closure of A that are not left in T
pub record IsCommon (K : Context) (A M T : Set) : Type 0 where
  pub wide : length M ≡ K.width
  pub long : length T ≡ K.width
  pub each : (i : ℕ) → get_or M i false ≡ (in_closure_of K A i && not (get_or T i false))

-- at first those that A lacks are left
pub common_none : (K : Context) (A T : Set) → length A ≡ K.width → T ≡ minus (full K.width) A → IsCommon K A A T
common_none K A T wide is = record {
  wide = wide;
  long = ap length is ∙ length-minus (full K.width) A ∙ length-full K.width;
  each = λ i. start (get_or A i false) (in_closure_of K A i) (get_or (full K.width) i false)
      (within_at_place A (closure K A) (closure_extensive K A wide) i)
      (within_at_place (closure K A) (full K.width) (within_full K.width (closure K A) (length-closure K A)) i)
      ∙ ap (λ b. in_closure_of K A i && not b) (sym (ap (λ (X : Set). get_or X i false) is ∙ get_or-minus (full K.width) A i));
}
  where
    start : (a c f : Bool) → (a ≡ true → c ≡ true) → (c ≡ true → f ≡ true) → a ≡ (c && not (f && not a))
    start true true true h k = refl
    start true true false h k = refl
    start true false f h k = absurd (false≢true (h refl))
    start false true true h k = refl
    start false true false h k = absurd (false≢true (k refl))
    start false false f h k = refl

-- one attribute less is left
pub common_with : (K : Context) (A M T : Set) (m : ℕ) → IsCommon K A M T → IsNextMember T 0 m → in_closure_of K A m ≡ true
    → IsCommon K A (set M m true) (set T m false)
common_with K A M T m s next has = record {
  wide = length-set M m true ∙ s.wide;
  long = length-set T m false ∙ s.long;
  each = λ i. elim (cases_eq i m) [
    | inl here ↦ ap (λ k. get_or (set M m true) k false) here
        ∙ get_or-set_same M m true false (omega (arith, next.in_range, s.wide, s.long))
        ∙ sym (ap₂ (λ c t. c && not t) (ap (in_closure_of K A) here ∙ has)
        (ap (λ k. get_or (set T m false) k false) here ∙ get_or-set_same T m false false next.in_range))
    | inr other ↦ get_or-set_other M m i true false other ∙ s.each i
        ∙ ap (λ t. in_closure_of K A i && not t) (sym (get_or-set_other T m i false false other))
  ];
}

pub common_without : (K : Context) (A M T : Set) (m : ℕ) → IsCommon K A M T → in_closure_of K A m ≡ false → IsCommon K A M (set T m false)
common_without K A M T m s lacks = record {
  wide = s.wide;
  long = length-set T m false ∙ s.long;
  each = λ i. s.each i ∙ elim (cases_eq i m) [
    | inl here ↦
        let out : in_closure_of K A i ≡ false = ap (in_closure_of K A) here ∙ lacks in
        ap (λ c. c && not (get_or T i false)) out ∙ sym (ap (λ c. c && not (get_or (set T m false) i false)) out)
    | inr other ↦ ap (λ t. in_closure_of K A i && not t) (sym (get_or-set_other T m i false false other))
  ];
}

pub common_all : (K : Context) (A M T : Set) → IsCommon K A M T → ((i : ℕ) → 0 ≤ i → i < length T → get_or T i false ≡ false)
    → M ≡ closure K A
common_all K A M T s none = ext_get_or false M (closure K A) (s.wide ∙ sym (length-closure K A))
    (λ i l. s.each i ∙ ap (λ t. in_closure_of K A i && not t) (none i (omega arith) (omega (arith, l, s.wide, s.long)))
    ∙ whole (in_closure_of K A i))
  where
    whole : (b : Bool) → (b && true) ≡ b
    whole true = refl
    whole false = refl

-- ---- one attribute more

with_attribute : (K : Context) (A R : Set) (i : ℕ) → i < K.width → length A ≡ K.width
    → (within A R && within (alone K i) R) ≡ within (set A i true) R
with_attribute K A R i inside wide = bool_iff (within A R && within (alone K i) R) (within (set A i true) R) both each
  where
    both : within A R && within (alone K i) R ≡ true → within (set A i true) R ≡ true
    both t =
        let parts = and_parts (within A R) (within (alone K i) R) t in
        within_from_places (set A i true) R (λ j l has. elim (cases_eq j i) [
          | inl here ↦ within_at_place (alone K i) R parts.1 j
              (subst (λ k. get_or (alone K i) k false ≡ true) (sym here)
              (get_or-set_same (replicate K.width false) i true false (omega (arith, inside, length-replicate K.width false))))
          | inr other ↦ within_at_place A R parts.0 j (sym (get_or-set_other A i j true false other) ∙ has)
        ])

    each : within (set A i true) R ≡ true → within A R && within (alone K i) R ≡ true
    each t = and_from (within A R) (within (alone K i) R)
        (within_from_places A R (λ j l has. within_at_place (set A i true) R t j (elim (cases_eq j i) [
          | inl here ↦ ap (λ k. get_or (set A i true) k false) here ∙ get_or-set_same A i true false (omega (arith, inside, wide))
          | inr other ↦ get_or-set_other A i j true false other ∙ has
        ])))
        (within_from_places (alone K i) R (λ j l has. within_at_place (set A i true) R t j
        (ap (λ k. get_or (set A i true) k false) (only_it K i j has) ∙ get_or-set_same A i true false (omega (arith, inside, wide)))))

-- the objects of A with i
pub objects_with : (K : Context) (A S C : Set) (i : ℕ) → i < K.width → length A ≡ K.width → HasObjects K A S → HasObjects K (alone K i) C
    → HasObjects K (set A i true) (meet S C)
objects_with K A S C i inside wide s c = record {
  long = length-meet S C ∙ s.long;
  each = λ g l. get_or-meet S C g ∙ ap₂ (λ x y. x && y) (s.each g l) (c.each g l) ∙ with_attribute K A (row K g) i inside wide;
}

-- of the rows that contain A, those with i contain A with i
pub having_above : (K : Context) (A : Set) (i g : ℕ) → i < K.width → length A ≡ K.width → g < length (filter (within A) K.rows)
    → within (set A i true) (get_or (filter (within A) K.rows) g []) ≡ get_or (get_or (filter (within A) K.rows) g []) i false
having_above K A i g inside wide l =
    let R = get_or (filter (within A) K.rows) g [] in
    sym (with_attribute K A R i inside wide)
    ∙ ap₂ (λ x y. x && y) (AllPass-from_list_all (within A) (filter (within A) K.rows) (all_kept (within A) K.rows) g [] l)
    (within-alone K i R inside)

-- ---- the closure row by row

-- one row more of which some are kept
pub filter_next : (p : Set → Bool) (Rs : List Set) (k : ℕ) (R : Set) (b : Bool) → k < length Rs → R ≡ get_or Rs k R → p R ≡ b
    → filter p (take (k + 1) Rs) ≡ cond b (filter p (take k Rs) ++ R ∷ []) (filter p (take k Rs))
filter_next p Rs k R b l is t =
    ap (filter p) (take_more Rs k R l ∙ ap (λ X. take k Rs ++ X ∷ []) (sym is)) ∙ filter-append p (take k Rs) (R ∷ [])
    ∙ ap (λ x. filter p (take k Rs) ++ cond x (R ∷ []) []) t ∙ last b
  where
    last : (b : Bool) → filter p (take k Rs) ++ cond b (R ∷ []) [] ≡ cond b (filter p (take k Rs) ++ R ∷ []) (filter p (take k Rs))
    last true = refl
    last false = append-nil (filter p (take k Rs))

pub met_next : (K : Context) (A : Set) (k : ℕ) (R : Set) (b : Bool) → k < length K.rows → R ≡ get_or K.rows k R → within A R ≡ b
    → fold meet (full K.width) (filter (within A) (take (k + 1) K.rows))
    ≡ cond b (meet (fold meet (full K.width) (filter (within A) (take k K.rows))) R)
    (fold meet (full K.width) (filter (within A) (take k K.rows)))
met_next K A k R b l is t = ap (fold meet (full K.width)) (filter_next (within A) K.rows k R b l is t) ∙ last b
  where
    kept : List Set
    kept = filter (within A) (take k K.rows)

    last : (b : Bool) → fold meet (full K.width) (cond b (kept ++ R ∷ []) kept) ≡ cond b (meet (fold meet (full K.width) kept) R)
        (fold meet (full K.width) kept)
    last true = fold-append meet (full K.width) kept (R ∷ [])
    last false = refl

-- ---- columns

-- each column has the objects before a place; it has all others, or none
pub record AreColumnsUpTo (K : Context) (member : Bool) (Cs : List Set) (m : ℕ) : Type 0 where
  pub wide : length Cs ≡ K.width
  pub each : (i : ℕ) → i < K.width → IsUpTo (length K.rows) (contains K (alone K i)) member (get_or Cs i []) m

pub columns_start : (K : Context) (member : Bool) (Cs : List Set) → length Cs ≡ K.width
    → ((i : ℕ) → i < K.width → get_or Cs i [] ≡ replicate (length K.rows) member) → AreColumnsUpTo K member Cs 0
columns_start K member Cs wide start = record {
  wide = wide;
  each = λ i l. up_to_start (length K.rows) (contains K (alone K i)) member (get_or Cs i []) (start i l);
}

-- one object more
pub columns_next : (K : Context) (member : Bool) (Cs Ds : List Set) (m : ℕ) (R : Set) → m < length K.rows → R ≡ row K m
    → AreColumnsUpTo K member Cs m → length Ds ≡ length Cs
    → ((i : ℕ) → i < K.width → get_or R i false ≡ not member → get_or Ds i [] ≡ set (get_or Cs i []) m (not member))
    → ((i : ℕ) → i < K.width → get_or R i false ≡ member → get_or Ds i [] ≡ get_or Cs i [])
    → AreColumnsUpTo K member Ds (m + 1)
columns_next K member Cs Ds m R inside is before long changed kept = record { wide = long ∙ before.wide; each = each }
  where
    same_or_not : (b c : Bool) → (b ≡ c) ⊎ (b ≡ not c)
    same_or_not true true = inl refl
    same_or_not true false = inr refl
    same_or_not false true = inr refl
    same_or_not false false = inl refl

    each : (i : ℕ) → i < K.width → IsUpTo (length K.rows) (contains K (alone K i)) member (get_or Ds i []) (m + 1)
    each i l =
        let same_bit : contains K (alone K i) m ≡ get_or R i false = ap (within (alone K i)) (sym is) ∙ within-alone K i R l in
        elim (same_or_not (get_or R i false) member) [
          | inl t ↦ subst (λ (S : Set). IsUpTo (length K.rows) (contains K (alone K i)) member S (m + 1)) (sym (kept i l t))
              (up_to_kept (length K.rows) (contains K (alone K i)) member (get_or Cs i []) m inside (before.each i l) (same_bit ∙ t))
          | inr f ↦ subst (λ (S : Set). IsUpTo (length K.rows) (contains K (alone K i)) member S (m + 1)) (sym (changed i l f))
              (up_to_changed (length K.rows) (contains K (alone K i)) member (get_or Cs i []) m inside (before.each i l) (same_bit ∙ f))
        ]

pub columns_all : (K : Context) (member : Bool) (Cs : List Set) (m : ℕ) → AreColumnsUpTo K member Cs m → length K.rows ≤ m
    → AreColumns K Cs
columns_all K member Cs m up all = record {
  wide = up.wide;
  each = λ i l. all_objects K (alone K i) member (get_or Cs i []) m (up.each i l) all;
}

-- each column has a place for each object
pub columns_long : (K : Context) (member : Bool) (Cs : List Set) (m : ℕ) → AreColumnsUpTo K member Cs m → (k : ℕ) (d : Set) → k < length Cs
    → length (get_or Cs k d) ≡ length K.rows
columns_long K member Cs m up k d l = ap length (get_or_default Cs k d [] l) ∙ (up.each k (omega (arith, l, up.wide))).long

-- ---- a set that grows to a larger one

-- G is a part of A, and S are its objects
pub record IsGrown (K : Context) (A G S : Set) : Type 0 where
  pub wide : length G ≡ K.width
  pub objects : HasObjects K G S
  pub part : within G A ≡ true

pub grown_more : (K : Context) (A G S C : Set) (i : ℕ) → i < K.width → IsGrown K A G S → get_or A i false ≡ true
    → HasObjects K (alone K i) C → IsGrown K A (set G i true) (meet S C)
grown_more K A G S C i inside g has c = record {
  wide = length-set G i true ∙ g.wide;
  objects = objects_with K G S C i inside g.wide g.objects c;
  part = set_within G A i g.part has;
}

pub grown_whole : (K : Context) (A G S : Set) → length A ≡ K.width → within A G ≡ true → IsGrown K A G S → HasObjects K A S
grown_whole K A G S wide all g = subst (λ X. HasObjects K X S) (within_antisymm G A (g.wide ∙ sym wide) g.part all) g.objects

-- less is lacking
pub less_lacking : (G : Set) (i : ℕ) → i < length G → get_or G i false ≡ false
    → length (set G i true) - size (set G i true) < length G - size G
less_lacking G i inside lacks = omega (arith, length-set G i true, size-set G i inside lacks, size_le (set G i true))
