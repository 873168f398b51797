-- Where no question is open, what was accepted is the basis. Each premise of the basis is then accepted, and with its closure, since each
-- accepted
-- implication is a member; so both have the same members. In both no premise stands twice, so neither is longer. And two lists of members
-- with their
-- premises in lectic order have the same premises in the same places, and each premise has one conclusion.
use Rattle.std.proofs.Common.{◌≡◌, ◌≤◌, ◌↔◌, Bool, true, false, not, ◌&&◌, ◌||◌, List, [], ◌∷◌, ◌++◌, map, length, filter, refl, sym, ap}
use Rattle.std.proofs.Common.{ap₂, ◌∙◌, subst, arith}
use Rattle.std.proofs.lemmas.Bool.{false≢true, and_parts, and_from, false_from_ne_true}
use Rattle.std.proofs.lemmas.List.{length-map}
use Rattle.std.proofs.lemmas.List.Folds.{list_all-append, list_all-map}
use Rattle.std.specs.List.{list_all, list_any}
use mathlib.Core.Bool.{beq}
use Rattle.std.specs.Ordering.{is_lt}
use Rattle.fca_model.specs.Sets.{Set, same, all_sets, increasing, lectic_cmp}
use Rattle.fca_model.specs.Context.{Context, closure}
use Rattle.fca_model.specs.Implications.{Rule, rule, premises, respects, respects_all, holds, follows, equivalent}
use Rattle.fca_model.specs.Pseudo.{pseudo_known, basis_known}
use Rattle.fca_model.specs.Questions.{has_premise, open_questions}
use Rattle.fca_model.specs.Invariant.{Among, is_member, IsAccepted, SameMembers, have_distinct_premises}
use Rattle.fca_model.proofs.ListLemmas.{bool_iff, list_all-and, list_any_at, list_any-not, list_any-map}
use Rattle.fca_model.proofs.SetLemmas.{same-true, same_refl, lectic_refl, all_sets_increasing, all_sets_agree}
use Rattle.fca_model.proofs.SortedLemmas.{same_members, increasing-filter}
use Rattle.fca_model.proofs.PseudoLemmas.{basis_all, basis_at, basis_holds, follows_holds}
use Rattle.fca_model.proofs.QuestionLemmas.{open_none}
use Rattle.fca_model.proofs.InvariantLemmas.{each, member_parts, member_from}
use Rattle.fca_model.proofs.CountLemmas.{distinct_fit}
use Rattle.fca_model.proofs.LeastLemmas.{least_equivalent}

-- ---- a list in lectic order

-- premises in order are different
distinct_from_increasing : (J : List Rule) → increasing (premises J) ≡ true → have_distinct_premises J ≡ true
distinct_from_increasing [] h = refl
distinct_from_increasing (i ∷ J) h =
    let parts = and_parts (list_all (λ B. is_lt (lectic_cmp i.premise B)) (premises J)) (increasing (premises J)) h in
    and_from (not (has_premise J i.premise)) (have_distinct_premises J) (ap not (absent J parts.0)) (distinct_from_increasing J parts.1)
  where
    absent : (is : List Rule) → list_all (λ B. is_lt (lectic_cmp i.premise B)) (premises is) ≡ true → has_premise is i.premise ≡ false
    absent is a = false_from_ne_true (has_premise is i.premise) (λ t.
        let found = list_any_at (λ j. same j.premise i.premise) (λ j. is_lt (lectic_cmp i.premise j.premise)) is t
        (sym (list_all-map (λ B. is_lt (lectic_cmp i.premise B)) (λ (j : Rule). j.premise) is) ∙ a) in
        false≢true (ap is_lt (sym (lectic_refl i.premise))
        ∙ subst (λ X. is_lt (lectic_cmp i.premise X) ≡ true) (same-true found.0.premise i.premise found.1) found.2))

-- lists with the same members have the same premises
premises_same : (J L : List Rule) → SameMembers J L → (A : Set) → list_any (same A) (premises J) ≡ list_any (same A) (premises L)
premises_same J L h A =
    list_any-map (same A) (λ (i : Rule). i.premise) J ∙ list_any-not (λ i. same A i.premise) J
    ∙ ap not (h (λ i. not (same A i.premise)))
    ∙ sym (list_any-map (same A) (λ (i : Rule). i.premise) L ∙ list_any-not (λ i. same A i.premise) L)

-- members of the basis are given by their premises
by_premises : (S : List Rule) (K : Context) (J : List Rule) → list_all (is_member S K) J ≡ true
    → J ≡ map (λ P. rule P (closure K P)) (premises J)
by_premises S K [] h = refl
by_premises S K (i ∷ J) h =
    let parts = and_parts (is_member S K i) (list_all (is_member S K) J) h in
    ap₂ (λ j rest. j ∷ rest) (member_parts S K i parts.0).2 (by_premises S K J parts.1)

module _ (S : List Rule) (K : Context) where
  pub basis_members : list_all (is_member S K) (basis_known S K) ≡ true
  basis_members = basis_all S K (is_member S K) (λ P e p. member_from S K P (closure K P) e p refl)

  -- a member passes each test that all of the basis pass, and one of these tests is whether it is a member
  pub member_among : (i : Rule) → (is_member S K i ≡ true) ↔ Among (basis_known S K) i
  member_among i = (
    λ m p all. let parts = member_parts S K i m in
        subst (λ j. p j ≡ true) (sym parts.2) (basis_at S K p i.premise parts.0 parts.1 all),
    λ among. among (is_member S K) basis_members,
  )

  -- the premises of the basis are in lectic order
  pub basis_increasing : increasing (premises (basis_known S K)) ≡ true
  unfolding basis_known
  basis_increasing =
      let N = filter (pseudo_known S K) (all_sets K.width) in
      ap increasing (map_back N) ∙ increasing-filter (pseudo_known S K) (all_sets K.width) (all_sets_increasing K.width)
    where
      map_back : (Xs : List Set) → premises (map (λ P. rule P (closure K P)) Xs) ≡ Xs
      map_back [] = refl
      map_back (X ∷ Xs) = ap (λ Ys. X ∷ Ys) (map_back Xs)

  -- a list with the members of the basis, in lectic order, is the basis
  pub sorted_is_basis : (L : List Rule) → SameMembers L (basis_known S K) → increasing (premises L) ≡ true → L ≡ basis_known S K
  sorted_is_basis L h up =
      let B = basis_known S K in
      let same_premises : premises L ≡ premises B = same_members (premises L) (premises B) up basis_increasing
      (λ A t. sym (premises_same L B h A) ∙ t) (λ A t. premises_same L B h A ∙ t) in
      by_premises S K L (h (is_member S K) ∙ basis_members) ∙ ap (map (λ P. rule P (closure K P))) same_premises
      ∙ sym (by_premises S K B basis_members)

  -- lists of members with different premises and the same members have one length
  pub same_length : (J L : List Rule) → SameMembers J L → have_distinct_premises J ≡ true → length J ≤ length L
  same_length J L h d =
      let within_J : list_all (λ i. list_any (same i.premise) (premises L)) J ≡ true =
      each (λ i. list_any (same i.premise) (premises L)) J (λ i in_J.
      in_J (λ i. list_any (same i.premise) (premises L)) (list_all_self J L h)) in
      let fit = distinct_fit J (premises L) d within_J in
      omega (arith, fit, length-map L (λ (i : Rule). i.premise))
    where
      list_all_self : (J L : List Rule) → SameMembers J L → list_all (λ i. list_any (same i.premise) (premises L)) J ≡ true
      list_all_self J L h = h (λ i. list_any (same i.premise) (premises L)) ∙ own L L (λ P t. t)
        where
          own : (is L : List Rule) → ((P : Set) → list_any (same P) (premises is) ≡ true → list_any (same P) (premises L) ≡ true)
              → list_all (λ i. list_any (same i.premise) (premises L)) is ≡ true
          own [] L up = refl
          own (i ∷ is) L up =
              and_from (list_any (same i.premise) (premises L)) (list_all (λ i. list_any (same i.premise) (premises L)) is)
              (up i.premise (ap (λ b. b || list_any (same i.premise) (premises is)) (same_refl i.premise)))
              (own is L (λ P t. up P (later (same P i.premise) (list_any (same P) (premises is)) t)))
            where
              later : (a b : Bool) → b ≡ true → (a || b) ≡ true
              later true b t = refl
              later false b t = t

  -- ---- nothing is open

  module _ (acc : List Rule) (h : IsAccepted S K acc) (done : open_questions S K acc ≡ []) where
    -- the accepted implications are the members of the basis
    pub accepted_members : SameMembers acc (basis_known S K)
    accepted_members p = bool_iff (list_all p acc) (list_all p (basis_known S K))
        (λ a. basis_all S K p (λ P e q.
        let heard = basis_at S K (λ i. has_premise acc i.premise) P e q ((open_none S K acc).0 done) in
        let found = list_any_at (λ j. same j.premise P) (λ j. is_member S K j && p j) acc heard
        (list_all-and (is_member S K) p acc h.members a) in
        let both = and_parts (is_member S K found.0) (p found.0) found.2 in
        subst (λ X. p (rule X (closure K X)) ≡ true) (same-true found.0.premise P found.1)
        (subst (λ j. p j ≡ true) (member_parts S K found.0 both.0).2 both.1)))
        (λ b. each p acc (λ i in_acc.
        let parts = member_parts S K i (in_acc (is_member S K) h.members) in
        subst (λ j. p j ≡ true) (sym parts.2) (basis_at S K p i.premise parts.0 parts.1 b)))

    -- each once
    pub accepted_length : length acc ≡ length (basis_known S K)
    accepted_length =
        let B = basis_known S K in
        let few = same_length acc B accepted_members h.distinct in
        let many = same_length B acc (λ p. sym (accepted_members p)) (distinct_from_increasing B basis_increasing) in
        omega (arith, few, many)

    -- in lectic order they are the basis
    pub accepted_sorted : (L : List Rule) → SameMembers L acc → increasing (premises L) ≡ true → L ≡ basis_known S K
    accepted_sorted L same_as up = sorted_is_basis L (λ p. same_as p ∙ accepted_members p) up

    -- all hold
    pub accepted_hold : list_all (holds K) acc ≡ true
    accepted_hold = accepted_members (holds K) ∙ basis_holds S K

    respected_alike : (T : Set) → respects_all (S ++ acc) T ≡ respects_all (S ++ basis_known S K) T
    respected_alike T = list_all-append (respects T) S acc ∙ ap (λ b. respects_all S T && b) (accepted_members (respects T))
        ∙ sym (list_all-append (respects T) S (basis_known S K))

    -- with the known ones, every implication that holds follows from them
    pub accepted_complete : list_all (holds K) S ≡ true → (i : Rule) → length i.premise ≡ K.width → length i.conclusion ≡ K.width
        → holds K i ≡ follows K.width (S ++ acc) i
    unfolding follows
    accepted_complete known i e f = follows_holds S K i e f known
        ∙ all_sets_agree (λ T. not (respects_all (S ++ basis_known S K) T) || respects T i)
        (λ T. not (respects_all (S ++ acc) T) || respects T i) K.width
        (λ T w. ap (λ b. not b || respects T i) (sym (respected_alike T)))

    -- and no list that is equivalent beside the known ones has fewer
    pub accepted_least : list_all (holds K) S ≡ true → (J : List Rule) → equivalent K.width (S ++ J) (S ++ acc) ≡ true
        → length acc ≤ length J
    unfolding equivalent
    accepted_least known J eq =
        let B = basis_known S K in
        let as_basis = sym (all_sets_agree (λ T. beq (respects_all (S ++ J) T) (respects_all (S ++ acc) T))
        (λ T. beq (respects_all (S ++ J) T) (respects_all (S ++ B) T)) K.width
        (λ T w. ap (beq (respects_all (S ++ J) T)) (respected_alike T))) ∙ eq in
        omega (arith, accepted_length, least_equivalent S K known J as_basis)
