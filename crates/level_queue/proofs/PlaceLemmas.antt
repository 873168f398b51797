-- Places in the list of open questions: the one that a search finds, what is left where one is taken out, and what stands in front while
-- the list is met with a row.
use Rattle.std.proofs.Common.{◌≡◌, ℕ, zero, suc, ◌+◌, ◌<◌, ◌≤◌, ◌-◌, Bool, true, false, not, ◌&&◌, cond, Some, List, [], ◌∷◌, ◌++◌, map}
use Rattle.std.proofs.Common.{length}
use Rattle.std.proofs.Common.{get_or, set, take, drop, refl, sym, ap, ap₂, ◌∙◌, subst, arith, inl, inr, ltb, lt-ltb, ltb-true, Ordering}
use Rattle.std.proofs.Common.{Less, Equal}
use Rattle.std.proofs.Common.{Greater}
use Rattle.std.proofs.lemmas.Bool.{false≢true, and_parts, and_from, cases_Bool, cases_lt, cases_eq, not-true, false_from_ne_true}
use Rattle.std.proofs.Math.ListN.{get_or-map}
use Rattle.std.proofs.lemmas.List.{length-map, take-take, take-set-le, take-append-le, take-append-drop, get_or-take, get_or-drop}
use Rattle.std.proofs.lemmas.List.{drop_more}
use Rattle.std.proofs.lemmas.List.{drop_all, drop-drop, drop_at, drop-set, drop-set-lt, length-take-le, length-set, length-drop}
use Rattle.std.proofs.lemmas.List.{append_assoc}
use Rattle.std.proofs.lemmas.List.{get_or_default, set-get_or}
use Rattle.std.proofs.lemmas.List.Sums.{AllPass-from_list_all, list_all-from_AllPass}
use Rattle.std.proofs.lemmas.Option.{slice_get-get_or}
use Rattle.std.specs.List.{list_all, list_any, slice_get, remove, copy_within, AllWithin}
use Rattle.std.specs.List.Sorted.{IsPartitionedBy}
use Rattle.std.specs.Ordering.{is_lt}
use Rattle.fca_model.specs.SetLaws.{lectic_total}
use Rattle.fca_model.specs.Sets.{Set, same, increasing, lectic_cmp, within, meet}
use Rattle.fca_model.specs.Implications.{Rule, rule, premises}
use Rattle.fca_model.specs.Invariant.{Among}
use Rattle.fca_model.proofs.SetLemmas.{same_refl, same-true, lectic_refl}
use Rattle.fca_model.proofs.SortedLemmas.{is_less, before_trans, not_before_itself}
use Rattle.level_queue.specs.Queue.{narrowed, still_open, is_unclosed, is_left, is_same}
use Rattle.level_queue.specs.QuestionLists.{IsPlaceFor}
use Rattle.level_queue.proofs.NarrowLemmas.{left_some, left_none}

-- ---- a search

-- the premise comes before P
abbrev pub comes_before : Set → Rule → Bool
comes_before P i = is_lt (lectic_cmp i.premise P)

increasing_at : (As : List Set) (i j : ℕ) (d : Set) → increasing As ≡ true → i < j → j < length As
    → is_lt (lectic_cmp (get_or As i d) (get_or As j d)) ≡ true
increasing_at [] i j d up lt l = absurd (omega (arith, l))
increasing_at (A ∷ As) i zero d up lt l = absurd (omega (arith, lt))
increasing_at (A ∷ As) zero (suc j) d up lt l =
    AllPass-from_list_all (λ B. is_lt (lectic_cmp A B)) As (and_parts (list_all (λ B. is_lt (lectic_cmp A B)) As) (increasing As) up).0 j d
    (omega (arith, l))
increasing_at (A ∷ As) (suc i) (suc j) d up lt l =
    increasing_at As i j d (and_parts (list_all (λ B. is_lt (lectic_cmp A B)) As) (increasing As) up).1 (omega (arith, lt))
    (omega (arith, l))

pub partitioned : (P : Set) (As : List Set) → increasing As ≡ true → IsPartitionedBy (λ A. is_lt (lectic_cmp A P)) As
partitioned P As up i j d le l h = elim (cases_eq i j) [
  | inl e ↦ subst (λ k. is_lt (lectic_cmp (get_or As k d) P) ≡ true) (sym e) h
  | inr other ↦ before_trans (get_or As i d) (get_or As j d) P (increasing_at As i j d up (omega (arith, le, other)) l) h
]

-- the premise at a place
premise_at : (qs : List Rule) (i : ℕ) (d : Rule) → get_or (premises qs) i d.premise ≡ (get_or qs i d).premise
premise_at qs i d = get_or-map (λ (q : Rule). q.premise) qs i d

pub partitioned_questions : (P : Set) (qs : List Rule) → increasing (premises qs) ≡ true → IsPartitionedBy (comes_before P) qs
partitioned_questions P qs up i j d le l h =
    ap (λ A. is_lt (lectic_cmp A P)) (sym (premise_at qs i d))
    ∙ partitioned P (premises qs) up i j d.premise le (omega (arith, l, length-map qs (λ (q : Rule). q.premise)))
    (ap (λ A. is_lt (lectic_cmp A P)) (premise_at qs j d) ∙ h)

questions_increasing_at : (qs : List Rule) (i j : ℕ) (d : Rule) → increasing (premises qs) ≡ true → i < j → j < length qs
    → comes_before (get_or qs j d).premise (get_or qs i d) ≡ true
questions_increasing_at qs i j d up lt l =
    ap₂ (λ A B. is_lt (lectic_cmp A B)) (sym (premise_at qs i d)) (sym (premise_at qs j d))
    ∙ increasing_at (premises qs) i j d.premise up lt (omega (arith, l, length-map qs (λ (q : Rule). q.premise)))

-- what is said of the premises is said of the questions, and the other way round
pub of_questions : (p : Set → Bool) (b : Bool) (qs : List Rule) (low high : ℕ) → AllWithin (λ A. p A ≡ b) (premises qs) low high
    → AllWithin (λ q. p q.premise ≡ b) qs low high
of_questions p b qs low high all k d le lt = ap p (sym (premise_at qs k d)) ∙ all k d.premise le lt

of_premises : (p : Set → Bool) (b : Bool) (qs : List Rule) (low high : ℕ) → AllWithin (λ q. p q.premise ≡ b) qs low high
    → AllWithin (λ A. p A ≡ b) (premises qs) low high
of_premises p b qs low high all k A le lt = ap p (premise_at qs k (rule A [])) ∙ all k (rule A []) le lt

pub place_for : (P : Set) (qs : List Rule) (n : ℕ) → n ≤ length qs → AllWithin (λ q. comes_before P q ≡ true) qs 0 n
    → AllWithin (λ q. comes_before P q ≡ false) qs n (length qs) → IsPlaceFor P (premises qs) n
place_for P qs n l before behind = let long = length-map qs (λ (q : Rule). q.premise) in record {
  inside = omega (arith, l, long);
  before = of_premises (λ A. is_lt (lectic_cmp A P)) true qs 0 n before;
  behind = subst (λ m. AllWithin (λ A. is_lt (lectic_cmp A P) ≡ false) (premises qs) n m) (sym long)
      (of_premises (λ A. is_lt (lectic_cmp A P)) false qs n (length qs) behind);
}

is_same-true : (q i : Rule) → is_same q i ≡ true → i ≡ q
is_same-true q i h =
    let both = and_parts (same i.premise q.premise) (same i.conclusion q.conclusion) h in
    ap₂ (λ P C. rule P C) (same-true i.premise q.premise both.0) (same-true i.conclusion q.conclusion both.1)

-- the question stands at the place
abbrev pub stands : Rule → ℕ → List Rule → Bool
stands q n qs = ltb n (length qs) && is_same q (get_or qs n q)

-- what stands at the place
pub rule_at : (qs : List Rule) (n : ℕ) (q : Rule) → stands q n qs ≡ true → slice_get qs n ≡ Some q
rule_at qs n q h =
    let parts = and_parts (ltb n (length qs)) (is_same q (get_or qs n q)) h in
    slice_get-get_or qs n q (ltb-true n (length qs) parts.0) ∙ ap (λ x. Some x) (is_same-true q (get_or qs n q) parts.1)

-- a question that is among them stands at the place before which all come before it, and behind which none does
pub rule_there : (qs : List Rule) (n : ℕ) (q : Rule) → increasing (premises qs) ≡ true → IsPlaceFor q.premise (premises qs) n → Among qs q
    → stands q n qs ≡ false → ⊥
rule_there qs n q up place among missing =
    false≢true (sym (ap not (and_from (same q.premise q.premise) (same q.conclusion q.conclusion) (same_refl q.premise)
    (same_refl q.conclusion)))
    ∙ among (λ i. not (is_same q i)) (list_all-from_AllPass (λ i. not (is_same q i)) qs
    (λ k d l. ap not (false_from_ne_true (is_same q (get_or qs k d)) (λ t.
    let one : get_or qs k d ≡ q = is_same-true q (get_or qs k d) t in
    let at : get_or qs k q ≡ q = get_or_default qs k q d l ∙ one in
    elim (cases_lt k n) [
      | inl lt ↦ not_before_itself q.premise (subst (λ (i : Rule). comes_before q.premise i ≡ true) at
          (of_questions (λ A. is_lt (lectic_cmp A q.premise)) true qs 0 n place.before k q (omega arith) lt))
      | inr ge ↦ elim (cases_eq n k) [
        | inl here ↦
            let there : is_same q (get_or qs n q) ≡ true =
            subst (λ m. is_same q (get_or qs m q) ≡ true) (sym here)
            (subst (λ i. is_same q i ≡ true) (sym at) (subst (λ i. is_same q i ≡ true) one t)) in
            false≢true (sym missing ∙ and_from (ltb n (length qs)) (is_same q (get_or qs n q))
            (lt-ltb n (length qs) (omega (arith, l, here))) there)
        | inr other ↦
            let first : comes_before q.premise (get_or qs n q) ≡ true =
            subst (λ (i : Rule). comes_before i.premise (get_or qs n q) ≡ true) at
            (questions_increasing_at qs n k q up (omega (arith, ge, other)) l) in
            false≢true (sym (of_questions (λ A. is_lt (lectic_cmp A q.premise)) false qs n (length (premises qs)) place.behind n q
            (omega arith) (omega (arith, l, ge, length-map qs (λ (i : Rule). i.premise)))) ∙ first)
      ]
    ])))))

-- ---- one question is taken out

-- those before it have moved by one place
pub taken_out : {X : Type 0} (xs : List X) (first i : ℕ) → first ≤ length xs → i < length (drop first xs)
    → drop (first + 1) (copy_within xs first (first + i) (first + 1)) ≡ remove (drop first xs) i
taken_out xs first i le l =
    let n = length-drop₁ in
    ap (drop (first + 1)) (append_assoc (take (first + 1) xs) (take (first + i - first) (drop first xs))
    (drop (first + 1 + (first + i - first)) xs))
    ∙ drop_at (take (first + 1) xs) (take (first + i - first) (drop first xs) ++ drop (first + 1 + (first + i - first)) xs) (first + 1)
    (length-take-le (first + 1) xs (omega (arith, n, l)))
    ∙ ap₂ (λ a b. take a (drop first xs) ++ drop b xs) (omega arith) (omega arith)
    ∙ ap (λ ys. take i (drop first xs) ++ ys) (sym (drop-drop (suc i) first xs))
  where
    length-drop₁ : length (drop first xs) ≡ length xs - first
    length-drop₁ = length-drop first xs

-- ---- the list is met with a row

pub not_false : (b : Bool) → not b ≡ false → b ≡ true
not_false true h = refl
not_false false h = absurd (false≢true (sym h))

-- ys began as xs. Of those that stood from place i on, what is left stands from i to e and then from k on in ys, and before i ys is as it
-- was
pub record IsNarrowing (r : Set) (xs ys : List Rule) (k e i : ℕ) : Type 0 where
  pub back : take (e - i) (drop i ys) ++ drop k ys ≡ still_open (map (narrowed r) (drop i xs))
  pub rest : take i ys ≡ take i xs
  pub run : i ≤ e
  pub before : e ≤ k
  pub inside : k ≤ length ys
  pub long : length ys ≡ length xs

pub narrowing_start : (r : Set) (xs : List Rule) → IsNarrowing r xs xs (length xs) (length xs) (length xs)
narrowing_start r xs = record {
  back = ap₂ (λ m zs. take m (drop (length xs) xs) ++ zs) none (drop_all (length xs) xs (omega arith))
      ∙ sym (ap (λ ys. still_open (map (narrowed r) ys)) (drop_all (length xs) xs (omega arith)));
  rest = refl;
  run = omega arith;
  before = omega arith;
  inside = omega arith;
  long = refl;
}
  where
    none : length xs - length xs ≡ 0
    none = omega arith

module _ {r : Set} {xs ys : List Rule} {k e j : ℕ} (n : IsNarrowing r xs ys k e j) (i : ℕ) (next : j ≡ suc i) (l : i < length ys) (q : Rule)
    (at : q ≡ get_or ys i q) where
  -- what stood there in the beginning
  pub was : q ≡ get_or xs i q
  was = at ∙ sym (get_or-take j ys i q (omega (arith, next))) ∙ ap (λ zs. get_or zs i q) n.rest ∙ get_or-take j xs i q (omega (arith, next))

  before_it : take i ys ≡ take i xs
  before_it = sym (take-take i j ys (omega (arith, next))) ∙ ap (take i) n.rest ∙ take-take i j xs (omega (arith, next))

  reached : drop i xs ≡ q ∷ drop j xs
  reached = drop_more xs i q (let e = n.long in omega (arith, l, e)) ∙ ap₂ (λ x m. x ∷ drop m xs) (sym was) (omega (arith, next))

  -- behind it nothing changes where it is met
  behind_it : drop k (set ys i (narrowed r q)) ≡ drop k ys
  behind_it = drop-set-lt k ys i (narrowed r q) (let a = n.run in let b = n.before in omega (arith, a, b, next))

  pub narrowing_keeps : is_left r q ≡ true → IsNarrowing r xs (set ys i (narrowed r q)) k e i
  narrowing_keeps t = record {
    back = ap₂ (λ m zs. take m zs ++ drop k (set ys i (narrowed r q))) one_more (drop-set ys i (narrowed r q) l)
        ∙ ap₂ (λ m zs. narrowed r q ∷ (take (e - j) (drop m ys) ++ zs)) (omega (arith, next)) behind_it
        ∙ ap (λ zs. narrowed r q ∷ zs) n.back
        ∙ sym (ap (λ b. cond b (narrowed r q ∷ still_open (map (narrowed r) (drop j xs))) (still_open (map (narrowed r) (drop j xs)))) t)
        ∙ sym (ap (λ zs. still_open (map (narrowed r) zs)) reached);
    rest = take-set-le i ys i (narrowed r q) (omega arith) ∙ before_it;
    run = let a = n.run in omega (arith, a, next);
    before = n.before;
    inside = let b = n.inside in omega (arith, b, length-set ys i (narrowed r q));
    long = length-set ys i (narrowed r q) ∙ n.long;
  }
    where
      one_more : e - i ≡ suc (e - j)
      one_more = let a = n.run in omega (arith, a, next)

  -- where it is closed, those behind it have moved to the others
  closed_drops : is_left r q ≡ false → (zs : List Rule) (m : ℕ) → m ≡ k - (e - j)
      → drop m zs ≡ take (e - j) (drop j (set ys i (narrowed r q))) ++ drop k (set ys i (narrowed r q))
      → take j zs ≡ take j (set ys i (narrowed r q)) → length zs ≡ length (set ys i (narrowed r q)) → IsNarrowing r xs zs m i i
  closed_drops f zs m e_m moved same long = record {
    back = ap (λ p. take p (drop i zs) ++ drop m zs) none
        ∙ moved
        ∙ ap₂ (λ us vs. take (e - j) us ++ vs) (drop-set-lt j ys i (narrowed r q) (omega (arith, next))) behind_it
        ∙ n.back
        ∙ sym (ap (λ b. cond b (narrowed r q ∷ still_open (map (narrowed r) (drop j xs))) (still_open (map (narrowed r) (drop j xs)))) f)
        ∙ sym (ap (λ us. still_open (map (narrowed r) us)) reached);
    rest = sym (take-take i j zs (omega (arith, next))) ∙ ap (take i) same ∙ take-take i j (set ys i (narrowed r q)) (omega (arith, next))
        ∙ take-set-le i ys i (narrowed r q) (omega arith) ∙ before_it;
    run = omega arith;
    before = let a = n.run in let b = n.before in omega (arith, a, b, next, e_m);
    inside = let a = n.run in let b = n.before in let d = n.inside in omega (arith, a, b, d, e_m, long, length-set ys i (narrowed r q));
    long = long ∙ length-set ys i (narrowed r q) ∙ n.long;
  }
    where
      none : i - i ≡ 0
      none = omega arith

  pub narrowing_drops : is_left r q ≡ false → (ws zs : List Rule) (p m : ℕ) → ws ≡ set ys i (narrowed r q) → p ≡ j → m ≡ k - (e - p)
      → drop m zs ≡ take (e - p) (drop p ws) ++ drop k ws
      → take p zs ≡ take p ws → length zs ≡ length ws → IsNarrowing r xs zs m i i
  narrowing_drops f ws zs p m w here e_m moved same long =
      closed_drops f zs m (e_m ∙ ap (λ x. k - (e - x)) here) (moved ∙ ap₂ (λ x us. take (e - x) (drop x us) ++ drop k us) here w)
      (sym (ap (λ x. take x zs) here) ∙ same ∙ ap₂ (λ x us. take x us) here w) (long ∙ ap length w)

-- a question from a place on
pub unclosed_at : (xs : List Rule) (first i : ℕ) (q : Rule) → list_all is_unclosed (drop first xs) ≡ true → first ≤ i → i < length xs
    → q ≡ get_or xs i q → is_unclosed q ≡ true
unclosed_at xs first i q all on l at =
    let there : first + (i - first) ≡ i = omega (arith, on) in
    ap is_unclosed (at ∙ sym (ap (λ m. get_or xs m q) there) ∙ sym (get_or-drop first xs (i - first) q))
    ∙ AllPass-from_list_all is_unclosed (drop first xs) all (i - first) q (let d = length-drop first xs in omega (arith, d, on, l))

-- the row has none of the premises between two places, so these questions stay as they are
pub narrowing_passes : {r : Set} {xs ys : List Rule} {k e : ℕ} (first i count : ℕ) → list_all is_unclosed (drop first xs) ≡ true → first ≤ i
    → IsNarrowing r xs ys k e (i + count) → AllWithin (λ q. within q.premise r ≡ false) ys i (i + count) → IsNarrowing r xs ys k e i
narrowing_passes {r} {xs} {ys} {k} {e} first i zero all on n passed = subst (λ m. IsNarrowing r xs ys k e m) (omega arith) n
narrowing_passes {r} {xs} {ys} {k} {e} first i (suc count) all on n passed =
    let j : ℕ = i + count in
    let next : i + suc count ≡ suc j = omega arith in
    let inside : j < length ys = let a = n.run in let b = n.before in let d = n.inside in omega (arith, a, b, d) in
    let q : Rule = get_or ys j (rule [] []) in
    let at : q ≡ get_or ys j q = get_or_default ys j (rule [] []) q inside in
    let missed : within q.premise r ≡ false = passed j (rule [] []) (omega arith) (omega arith) in
    let same : narrowed r q ≡ q = ap (λ b. cond b (rule q.premise (meet q.conclusion r)) q) missed in
    let left : is_left r q ≡ true = ap is_unclosed same
    ∙ unclosed_at xs first j q all (omega (arith, on)) (let d = n.long in omega (arith, d, inside)) (was n j next inside q at) in
    narrowing_passes first i count all on
    (subst (λ zs. IsNarrowing r xs zs k e j) (ap (set ys j) (same ∙ at) ∙ set-get_or ys j q)
    (narrowing_keeps n j next inside q at left))
    (λ m d le lt. passed m d le (omega (arith, lt)))

pub narrowing_to : {r : Set} {xs ys : List Rule} {k e : ℕ} (first i j : ℕ) → list_all is_unclosed (drop first xs) ≡ true → first ≤ i → i ≤ j
    → IsNarrowing r xs ys k e j → AllWithin (λ q. within q.premise r ≡ false) ys i j → IsNarrowing r xs ys k e i
narrowing_to {r} {xs} {ys} {k} {e} first i j all on le n passed =
    let long : j ≡ i + (j - i) = omega (arith, le) in
    narrowing_passes first i (j - i) all on (subst (λ m. IsNarrowing r xs ys k e m) long n)
    (subst (λ m. AllWithin (λ q. within q.premise r ≡ false) ys i m) long passed)

-- ---- some move up

pub moved_up : {X : Type 0} (xs : List X) (first end later place : ℕ) → first ≤ end → end ≤ later → later ≤ length xs
    → place ≡ later - (end - first)
    → (drop place (copy_within xs first end place) ≡ take (end - first) (drop first xs) ++ drop later xs)
    × (take first (copy_within xs first end place) ≡ take first xs)
moved_up xs first end later place some before inside is =
    let front : length (take place xs) ≡ place = length-take-le place xs (omega (arith, is, inside)) in
    let same : copy_within xs first end place ≡ take place xs ++ (take (end - first) (drop first xs) ++ drop (place + (end - first)) xs) =
    append_assoc (take place xs) (take (end - first) (drop first xs)) (drop (place + (end - first)) xs) in (
      ap (drop place) same ∙ drop_at (take place xs) (take (end - first) (drop first xs) ++ drop (place + (end - first)) xs) place front
          ∙ ap (λ m. take (end - first) (drop first xs) ++ drop m xs) (omega (arith, is, some, before)),
      ap (take first) same ∙ take-append-le first (take place xs) (take (end - first) (drop first xs) ++ drop (place + (end - first)) xs)
          (omega (arith, front, is, some, before)) ∙ take-take first place xs (omega (arith, is, some, before)),
    )

-- none has to move
pub not_moved : {X : Type 0} (xs : List X) (first end later : ℕ) → first ≤ end → end ≤ later → later - (end - first) ≡ first
    → drop first xs ≡ take (end - first) (drop first xs) ++ drop later xs
not_moved xs first end later some before is =
    sym (take-append-drop (end - first) (drop first xs))
    ∙ ap (λ zs. take (end - first) (drop first xs) ++ zs)
    (drop-drop (end - first) first xs ∙ ap (λ m. drop m xs) (omega (arith, is, some, before)))

-- ---- what a row leaves

-- there are questions, and none is left
abbrev pub settles : Set → List Rule → Bool
settles r qs = ltb 0 (length qs) && not (list_any (is_left r) qs)

pub settled : (r : Set) (qs : List Rule) → (ltb 0 (length qs) && not (list_any (is_left r) qs)) ≡ true
    → (0 < length qs) × (still_open (map (narrowed r) qs) ≡ [])
settled r qs h = let parts = and_parts (ltb 0 (length qs)) (not (list_any (is_left r) qs)) h in
    (ltb-true 0 (length qs) parts.0, left_none r qs (not-true (list_any (is_left r) qs) parts.1))

pub not_settled : (r : Set) (qs : List Rule) → (ltb 0 (length qs) && not (list_any (is_left r) qs)) ≡ false
    → still_open (map (narrowed r) qs) ≡ [] → qs ≡ []
not_settled r [] h e = refl
not_settled r (i ∷ is) h e = elim (cases_Bool (list_any (is_left r) (i ∷ is))) [
  | inl t ↦ absurd (left_some r (i ∷ is) t e)
  | inr f ↦ absurd (false≢true (sym h ∙ and_from (ltb 0 (length (i ∷ is))) (not (list_any (is_left r) (i ∷ is)))
      (lt-ltb 0 (length (i ∷ is)) (omega arith)) (ap not f)))
]
