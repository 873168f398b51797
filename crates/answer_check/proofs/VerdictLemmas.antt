-- Why a verdict stands for the reply of the step. The step looks for the first element that passes a test together with its
-- place, the verdict for the place alone: both find the same place, and the element is the one at it. Then the cases agree
-- one by one.
use Rattle.std.proofs.Common.{◌≡◌, ℕ, suc, ◌+◌, ◌<◌, Bool, true, false, cond, Option, Some, None, List, [], ◌∷◌, length, get_or, position}
use Rattle.std.proofs.Common.{refl, sym, ap, ◌∙◌, subst, arith, inl, inr, ◌⊎◌, not}
use Rattle.std.proofs.lemmas.Bool.{cases_Bool}
use Rattle.std.proofs.lemmas.Iterator.Adapters.{position_from-zero}
use Rattle.std.specs.List.{position_from}
use Rattle.fca_model.specs.Sets.{Set, within, same}
use Rattle.fca_model.specs.Implications.{Rule, rule, respects, refutes}
use Rattle.fca_model.specs.Exploration.{State, rules_of, first_with, first_missing, row_reply, confirm_reply}
use Rattle.fca_model.specs.Exploration as step
use Rattle.answer_check.specs.Verdicts.{row_reply_for, confirm_reply_for, row_verdict, row_fitting, row_refuting, row_unbroken}
use Rattle.answer_check.specs.Verdicts.{row_new, confirm_verdict, confirm_unrefuted, confirm_unheard, IsOnRow, IsOnConfirmation}

-- ---- places

module _ {X : Type 0} (p : X → Bool) (d : X) where
  -- nothing passes, or the first that does stands i places behind the start of either count
  abbrev Located : ℕ → ℕ → List X → Type 0
  Located j k xs = ((position_from p j xs ≡ None) × (first_with p k xs ≡ None))
      ⊎ ((i : ℕ) × (i < length xs) × (position_from p j xs ≡ Some (j + i)) × (first_with p k xs ≡ Some (k + i, get_or xs i d)))

  located : (j k : ℕ) (xs : List X) → Located j k xs
  located j k [] = inl (refl, refl)
  located j k (x ∷ xs) = elim (cases_Bool (p x)) [
    | inl t ↦
        let at_j : j ≡ j + 0 = omega arith in
        let at_k : k ≡ k + 0 = omega arith in
        inr (
          0,
          omega arith,
          ap (λ b. cond b (Some j) (position_from p (j + 1) xs)) t ∙ ap (λ m. Some m) at_j,
          ap (λ b. cond b (Some (k, x)) (first_with p (k + 1) xs)) t ∙ ap (λ m. Some (m, x)) at_k,
        )
    | inr f ↦
        let place = ap (λ b. cond b (Some j) (position_from p (j + 1) xs)) f in
        let found = ap (λ b. cond b (Some (k, x)) (first_with p (k + 1) xs)) f in
        elim (located (j + 1) (k + 1) xs) [
          | inl none ↦ inl (place ∙ none.0, found ∙ none.1)
          | inr some ↦
              let i = some.0 in
              let lt : i < length xs = some.1 in
              let at_j : (j + 1) + i ≡ j + suc i = omega arith in
              let at_k : (k + 1) + i ≡ k + suc i = omega arith in
              inr (
                suc i,
                omega arith,
                place ∙ some.2 ∙ ap (λ m. Some m) at_j,
                found ∙ some.3 ∙ ap (λ m. Some (m, get_or xs i d)) at_k,
              )
        ]
  ]

  none≢some : (m : Option ℕ) (i : ℕ) → m ≡ None → m ≡ Some i → ⊥
  none≢some m i e f = absurd (cc)

  value_of : (i j : ℕ) → Some i ≡ Some j → i ≡ j
  value_of i j e = cc

  pub first_none : (k : ℕ) (xs : List X) → position p xs ≡ None → first_with p k xs ≡ None
  first_none k xs e = elim (located 0 k xs) [
    | inl none ↦ none.1
    | inr some ↦ absurd (none≢some (position p xs) (0 + some.0) e (position_from-zero p xs ∙ some.2))
  ]

  pub first_some : (k i : ℕ) (xs : List X) → position p xs ≡ Some i → (i < length xs) × (first_with p k xs ≡ Some (k + i, get_or xs i d))
  first_some k i xs e = elim (located 0 k xs) [
    | inl none ↦ absurd (none≢some (position p xs) i (position_from-zero p xs ∙ none.0) e)
    | inr some ↦
        let there : 0 + some.0 ≡ i = value_of (0 + some.0) i (sym some.2 ∙ sym (position_from-zero p xs) ∙ e) in
        let same_place : some.0 ≡ i = omega (arith, there) in
        (subst (λ m. m < length xs) same_place some.1, some.3 ∙ ap (λ m. Some (k + m, get_or xs m d)) same_place)
  ]

  pub first_at : (i : ℕ) (xs : List X) → position p xs ≡ Some i → first_with p 0 xs ≡ Some (i, get_or xs i d)
  first_at i xs e =
      let at : 0 + i ≡ i = omega arith in
      (first_some 0 i xs e).1 ∙ ap (λ m. Some (m, get_or xs i d)) at

-- ---- a row

module _ (s : State) (q : Rule) where
  unanswered : (m : Option ℕ) → position (λ r. refutes r q) s.context.rows ≡ m
      → step.row_new s (first_with (λ r. refutes r q) 0 s.context.rows) ≡ row_reply_for s (row_new m)
  unanswered None e = ap (step.row_new s) (first_none (λ r. refutes r q) [] 0 s.context.rows e)
  unanswered (Some i) e = ap (step.row_new s) (first_at (λ r. refutes r q) [] i s.context.rows e)

  unbroken : (r : Set) (m : Option ℕ) → position (λ i. not (respects r i)) (rules_of s) ≡ m
      → step.row_unbroken s q (first_with (λ i. not (respects r i)) 0 (rules_of s)) ≡ row_reply_for s (row_unbroken s.context.rows q m)
  unbroken r None e = ap (step.row_unbroken s q) (first_none (λ i. not (respects r i)) (rule [] []) 0 (rules_of s) e)
      ∙ unanswered (position (λ r. refutes r q) s.context.rows) refl
  unbroken r (Some i) e = ap (step.row_unbroken s q) (first_at (λ i. not (respects r i)) (rule [] []) i (rules_of s) e)

  refuting : (r : Set) (b : Bool) → step.row_refuting s q r b ≡ row_reply_for s (row_refuting s.context.rows (rules_of s) q r b)
  refuting r true = refl
  refuting r false = unbroken r (position (λ i. not (respects r i)) (rules_of s)) refl

  fitting : (r : Set) (m : Option ℕ) → step.row_fitting s q r m ≡ row_reply_for s (row_fitting s.context.rows (rules_of s) q r m)
  fitting r None = refuting r (within q.conclusion r)
  fitting r (Some a) = refl

  -- the reply to a row is the one that its verdict stands for
  pub row_reply-verdict : (r : Set) → row_reply s (Some q) r ≡ row_reply_for s (row_verdict s.context.rows (rules_of s) q r)
  row_reply-verdict r = fitting r (first_missing 0 q.premise r)

  -- ---- a confirmation

  unheard : (m : Option ℕ) → position (λ i. same i.premise q.premise) s.accepted ≡ m
      → step.confirm_unheard s (first_with (λ i. same i.premise q.premise) (length s.settings.known) s.accepted) ≡ confirm_reply_for s
      (confirm_unheard m)
  unheard None e = ap (step.confirm_unheard s) (first_none (λ i. same i.premise q.premise) (rule [] []) (length s.settings.known) s.accepted e)
  unheard (Some i) e = ap (step.confirm_unheard s) (first_some (λ i. same i.premise q.premise) (rule [] [])
      (length s.settings.known) i s.accepted e).1

  confirming : (m : Option ℕ) → position (λ r. refutes r q) s.context.rows ≡ m
      → step.confirm_unrefuted s q (first_with (λ r. refutes r q) 0 s.context.rows) ≡ confirm_reply_for s (confirm_unrefuted s.accepted q m)
  confirming None e = ap (step.confirm_unrefuted s q) (first_none (λ r. refutes r q) [] 0 s.context.rows e)
      ∙ unheard (position (λ i. same i.premise q.premise) s.accepted) refl
  confirming (Some i) e = ap (step.confirm_unrefuted s q) (first_at (λ r. refutes r q) [] i s.context.rows e)

  -- the reply to a confirmation is the one that its verdict stands for
  pub confirm_reply-verdict : confirm_reply s (Some q) ≡ confirm_reply_for s (confirm_verdict s.context.rows s.accepted q)
  confirm_reply-verdict = confirming (position (λ r. refutes r q) s.context.rows) refl

-- ---- the places are in range

module _ (rows : List Set) (rules : List Rule) (q : Rule) where
  row_new_case : (m : Option ℕ) → position (λ r. refutes r q) rows ≡ m → IsOnRow rows rules (row_new m)
  row_new_case None e = tt
  row_new_case (Some i) e = (first_some (λ r. refutes r q) [] 0 i rows e).0

  row_unbroken_case : (r : Set) (m : Option ℕ) → position (λ i. not (respects r i)) rules ≡ m → IsOnRow rows rules (row_unbroken rows q m)
  row_unbroken_case r None e = row_new_case (position (λ r. refutes r q) rows) refl
  row_unbroken_case r (Some i) e = (first_some (λ i. not (respects r i)) (rule [] []) 0 i rules e).0

  row_refuting_case : (r : Set) (b : Bool) → IsOnRow rows rules (row_refuting rows rules q r b)
  row_refuting_case r true = tt
  row_refuting_case r false = row_unbroken_case r (position (λ i. not (respects r i)) rules) refl

  row_fitting_case : (r : Set) (m : Option ℕ) → IsOnRow rows rules (row_fitting rows rules q r m)
  row_fitting_case r None = row_refuting_case r (within q.conclusion r)
  row_fitting_case r (Some a) = tt

  pub IsOnRow-verdict : (r : Set) → IsOnRow rows rules (row_verdict rows rules q r)
  IsOnRow-verdict r = row_fitting_case r (first_missing 0 q.premise r)

  unrefuted_case : (m : Option ℕ) → position (λ i. same i.premise q.premise) rules ≡ m → IsOnConfirmation rows rules (confirm_unheard m)
  unrefuted_case None e = tt
  unrefuted_case (Some i) e = (first_some (λ i. same i.premise q.premise) (rule [] []) 0 i rules e).0

  confirmed_case : (m : Option ℕ) → position (λ r. refutes r q) rows ≡ m → IsOnConfirmation rows rules (confirm_unrefuted rules q m)
  confirmed_case None e = unrefuted_case (position (λ i. same i.premise q.premise) rules) refl
  confirmed_case (Some i) e = (first_some (λ r. refutes r q) [] 0 i rows e).0

  pub IsOnConfirmation-verdict : IsOnConfirmation rows rules (confirm_verdict rows rules q)
  IsOnConfirmation-verdict = confirmed_case (position (λ r. refutes r q) rows) refl
