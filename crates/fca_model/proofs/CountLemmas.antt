-- Intents, and premises of accepted implications, are different sets: an intent is closed and a pseudo-intent is not. So together they are
-- no more than
-- all sets. And a row that refutes a question makes a new intent: the closure of the premise in the new rows lies within the new row, but
-- the old
-- closure does not, since it holds the conclusion.
use Rattle.std.proofs.Common.{◌≡◌, ℕ, zero, suc, ◌+◌, ◌^◌, ◌<◌, ◌≤◌, Bool, true, false, not, ◌&&◌, ◌||◌, cond, List, [], ◌∷◌, map, length}
use Rattle.std.proofs.Common.{filter, refl, sym, ap, ◌∙◌, subst, arith, inl, inr}
use Rattle.std.proofs.lemmas.Bool.{false≢true, and_parts, and_from, cases_Bool, or_cases, or_parts, not-true}
use Rattle.std.proofs.lemmas.List.{length-map, length-append}
use Rattle.std.proofs.lemmas.List.Folds.{list_all-append}
use Rattle.std.proofs.lemmas.List.Filters.{length-filter_both}
use Rattle.std.proofs.Math.Nat.{two-pow-succ}
use Rattle.std.specs.List.{list_all, list_any}
use Rattle.fca_model.specs.Sets.{Set, within, same, all_sets}
use Rattle.fca_model.specs.Context.{Context, closure, is_closed, with_row}
use Rattle.fca_model.specs.Implications.{Rule, rule, respects, holds, refutes}
use Rattle.fca_model.specs.Pseudo.{intents}
use Rattle.fca_model.specs.Questions.{has_premise}
use Rattle.fca_model.specs.Invariant.{is_member, have_distinct_premises}
use Rattle.fca_model.specs.SetLaws.{same_equiv}
use Rattle.fca_model.proofs.ListLemmas.{list_all-mono}
use Rattle.fca_model.proofs.SetLemmas.{within_trans, same-true, same_from, all_sets_from}
use Rattle.fca_model.proofs.SortedLemmas.{in_filter, in_all_sets}
use Rattle.fca_model.proofs.ClosureLemmas.{length-closure, closure_extensive, closure_monotone, closure_idempotent, closure_in_rows}
use Rattle.fca_model.proofs.ClosureLemmas.{respects_at}
use Rattle.fca_model.proofs.PseudoLemmas.{pseudo_parts}
use Rattle.fca_model.proofs.SurvivalLemmas.{closed_stays}
use Rattle.fca_model.proofs.InvariantLemmas.{member_parts}

-- ---- lists

-- a stronger test passes no more
length-filter-le : {X : Type 0} (p q : X → Bool) (xs : List X) → list_all (λ x. not (p x) || q x) xs ≡ true
    → length (filter p xs) ≤ length (filter q xs)
length-filter-le p q [] h = omega arith
length-filter-le p q (x ∷ xs) h =
    let parts = and_parts (not (p x) || q x) (list_all (λ x. not (p x) || q x) xs) h in
    go (p x) (q x) parts.0 (length-filter-le p q xs parts.1)
  where
    go : (a b : Bool) → (not a || b) ≡ true → length (filter p xs) ≤ length (filter q xs)
        → length (cond a (x ∷ filter p xs) (filter p xs)) ≤ length (cond b (x ∷ filter q xs) (filter q xs))
    go true true h rest = omega arith
    go true false h rest = absurd (false≢true h)
    go false true h rest = omega arith
    go false false h rest = rest

-- and fewer, where a member passes the weaker test alone
pub length-filter-lt : (p q : Set → Bool) (A : Set) → p A ≡ false → q A ≡ true → (Xs : List Set)
    → list_all (λ X. not (p X) || q X) Xs ≡ true → list_any (same A) Xs ≡ true → length (filter p Xs) < length (filter q Xs)
length-filter-lt p q A f t [] h a = absurd (false≢true a)
length-filter-lt p q A f t (X ∷ Xs) h a =
    let parts = and_parts (not (p X) || q X) (list_all (λ X. not (p X) || q X) Xs) h in
    elim (or_cases (same A X) (list_any (same A) Xs) a) [
      | inl here ↦
          let e : A ≡ X = same-true A X here in
          first (p X) (q X) (ap p (sym e) ∙ f) (ap q (sym e) ∙ t) (length-filter-le p q Xs parts.1)
      | inr there ↦ later (p X) (q X) parts.0 (length-filter-lt p q A f t Xs parts.1 there)
    ]
  where
    first : (a b : Bool) → a ≡ false → b ≡ true → length (filter p Xs) ≤ length (filter q Xs)
        → length (cond a (X ∷ filter p Xs) (filter p Xs)) < length (cond b (X ∷ filter q Xs) (filter q Xs))
    first true b e g rest = absurd (false≢true (sym e))
    first false true e g rest = omega arith
    first false false e g rest = absurd (false≢true g)

    later : (a b : Bool) → (not a || b) ≡ true → length (filter p Xs) < length (filter q Xs)
        → length (cond a (X ∷ filter p Xs) (filter p Xs)) < length (cond b (X ∷ filter q Xs) (filter q Xs))
    later true true h rest = omega arith
    later true false h rest = absurd (false≢true h)
    later false true h rest = omega arith
    later false false h rest = rest

length-filter-le_length : (p : Set → Bool) (Xs : List Set) → length (filter p Xs) ≤ length Xs
length-filter-le_length p [] = omega arith
length-filter-le_length p (X ∷ Xs) = elim (p X) as (λ b. length (cond b (X ∷ filter p Xs) (filter p Xs)) ≤ suc (length Xs)) [
  | true ↦ omega (arith, length-filter-le_length p Xs)
  | false ↦ omega (arith, length-filter-le_length p Xs)
]

-- without one of its members a list is shorter
length-without : (P : Set) (N : List Set) → list_any (same P) N ≡ true → length (filter (λ X. not (same P X)) N) < length N
length-without P [] h = absurd (false≢true h)
length-without P (X ∷ N) h = go (same P X) h (length-without P N)
  where
    go : (b : Bool) → (b || list_any (same P) N) ≡ true → (list_any (same P) N ≡ true → length (filter (λ X. not (same P X)) N) < length N)
        → length (cond (not b) (X ∷ filter (λ X. not (same P X)) N) (filter (λ X. not (same P X)) N)) < suc (length N)
    go true h rest = omega (arith, length-filter-le_length (λ X. not (same P X)) N)
    go false h rest = omega (arith, rest h)

-- different premises that all stand in a list of sets are no more than it has members
pub distinct_fit : (J : List Rule) (N : List Set) → have_distinct_premises J ≡ true → list_all (λ i. list_any (same i.premise) N) J ≡ true
    → length J ≤ length N
distinct_fit [] N d a = omega arith
distinct_fit (i ∷ J) N d a =
    let ds = and_parts (not (has_premise J i.premise)) (have_distinct_premises J) d in
    let parts = and_parts (list_any (same i.premise) N) (list_all (λ i. list_any (same i.premise) N) J) a in
    let rest = distinct_fit J (filter (λ X. not (same i.premise X)) N) ds.1 (others J (not-true (has_premise J i.premise) ds.0) parts.1) in
    omega (arith, rest, length-without i.premise N parts.0)
  where
    others : (is : List Rule) → has_premise is i.premise ≡ false → list_all (λ i. list_any (same i.premise) N) is ≡ true
        → list_all (λ j. list_any (same j.premise) (filter (λ X. not (same i.premise X)) N)) is ≡ true
    others [] n a = refl
    others (j ∷ is) n a =
        let ns = or_parts (same j.premise i.premise) (has_premise is i.premise) n in
        let parts = and_parts (list_any (same j.premise) N) (list_all (λ i. list_any (same i.premise) N) is) a in
        and_from (list_any (same j.premise) (filter (λ X. not (same i.premise X)) N))
        (list_all (λ j. list_any (same j.premise) (filter (λ X. not (same i.premise X)) N)) is)
        (in_filter (λ X. not (same i.premise X)) j.premise N parts.0 (ap not (same_equiv.symm i.premise j.premise ∙ ns.0)))
        (others is ns.1 parts.1)

pub length-all_sets : (n : ℕ) → length (all_sets n) ≡ 2 ^ n
unfolding all_sets
length-all_sets zero = refl
length-all_sets (suc n) =
    let fs = map (λ (X : Set). false ∷ X) (all_sets n) in
    let ts = map (λ (X : Set). true ∷ X) (all_sets n) in
    let two : 2 ^ suc n ≡ 2 ^ n + 2 ^ n = two-pow-succ n in
    omega (
      arith,
      two,
      length-append fs ts,
      length-map (all_sets n) (λ (X : Set). false ∷ X),
      length-map (all_sets n) (λ (X : Set). true ∷ X),
      length-all_sets n,
    )

-- ---- intents and accepted implications

-- members of the basis with different premises, and the intents
pub intents_and_accepted : (S : List Rule) (K : Context) (acc : List Rule) → list_all (is_member S K) acc ≡ true
    → have_distinct_premises acc ≡ true → length (intents K) + length acc ≤ 2 ^ K.width
unfolding intents
intents_and_accepted S K acc m d =
    let N = filter (λ A. not (is_closed K A)) (all_sets K.width) in
    let fit : length acc ≤ length N = distinct_fit acc N d (list_all-mono (is_member S K) (λ i. list_any (same i.premise) N)
    (λ i t.
    let parts = member_parts S K i t in
    in_filter (λ A. not (is_closed K A)) i.premise (all_sets K.width) (in_all_sets K.width i.premise parts.0)
    (ap not (pseudo_parts S K i.premise parts.0 parts.1).not_closed))
    acc m) in
    omega (arith, fit, length-filter_both (is_closed K) (λ A. not (is_closed K A)) (λ A. refl) (all_sets K.width), length-all_sets K.width)

-- ---- a row that refutes

-- no intent is lost by a row
pub intents_stay : (K : Context) (r : Set) → list_all (λ A. not (is_closed K A) || is_closed (with_row K r) A) (all_sets K.width) ≡ true
intents_stay K r = all_sets_from (λ A. not (is_closed K A) || is_closed (with_row K r) A) K.width (λ A e. go A e (is_closed K A) refl)
  where
    go : (A : Set) → length A ≡ K.width → (b : Bool) → is_closed K A ≡ b → (not b || is_closed (with_row K r) A) ≡ true
    go A e true c = closed_stays K r A e c
    go A e false c = refl

-- the new row contains the closure of each set that it contains
closure_in_row : (K : Context) (r P : Set) → within P r ≡ true → within (closure (with_row K r) P) r ≡ true
closure_in_row K r P h =
    let D = closure (with_row K r) P in
    let rows = sym (list_all-append (λ row. respects row (rule P D)) K.rows (r ∷ [])) ∙ closure_in_rows (with_row K r) P in
    let last = and_parts (list_all (λ row. respects row (rule P D)) K.rows) (respects r (rule P D) && true) rows in
    respects_at r (rule P D) (and_parts (respects r (rule P D)) true last.1).0 h

-- a row that refutes what held until then adds an intent
pub refuting_adds_intent : (K : Context) (r : Set) (q : Rule) → length q.premise ≡ K.width → holds K q ≡ true → refutes r q ≡ true
    → length (intents K) < length (intents (with_row K r))
unfolding intents
refuting_adds_intent K r q e h t =
    let parts = and_parts (within q.premise r) (not (within q.conclusion r)) t in
    let D = closure (with_row K r) q.premise in
    let wide : length D ≡ K.width = length-closure (with_row K r) q.premise in
    let closed : is_closed (with_row K r) D ≡ true =
    same_from D (closure (with_row K r) D) (sym (closure_idempotent (with_row K r) q.premise e)) in
    let new : is_closed K D ≡ false = elim (cases_Bool (is_closed K D)) [
      | inl c ↦
          let up : within (closure K q.premise) D ≡ true =
          subst (λ X. within (closure K q.premise) X ≡ true) (sym (same-true D (closure K D) c))
          (closure_monotone K q.premise D (closure_extensive (with_row K r) q.premise e)) in
          let inside : within q.conclusion r ≡ true =
          within_trans q.conclusion (closure K q.premise) r h
          (within_trans (closure K q.premise) D r up (closure_in_row K r q.premise parts.0)) in
          absurd (false≢true (sym (not-true (within q.conclusion r) parts.1) ∙ inside))
      | inr f ↦ f
    ] in
    length-filter-lt (is_closed K) (is_closed (with_row K r)) D new closed (all_sets K.width) (intents_stay K r)
    (in_all_sets K.width D wide)
