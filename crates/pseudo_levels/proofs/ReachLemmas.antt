-- Why larger candidates lead on. Let P be a set that is not closed and respects S and what was found, and let X be a set within P.
-- Where X breaks a rule, X with its conclusion lies within P and is larger. Where X is closed, it is not P, so P has an
-- attribute that X lacks, and X with that attribute lies within P.
use Rattle.std.proofs.Common.{◌≡◌, ℕ, zero, suc, ◌+◌, ◌<◌, ◌≤◌, Bool, true, false, not, ◌&&◌, ◌||◌, cond, Option, Some, None, List, [], ◌∷◌}
use Rattle.std.proofs.Common.{◌++◌, map, length, filter, get_or, set, take, refl, sym, ap, ◌∙◌, subst, arith, inl, inr, eqb, eq-eqb, leb}
use Rattle.std.proofs.Common.{le-leb, leb-true}
use Rattle.std.proofs.lemmas.Bool.{false≢true, and_parts, and_from, cases_Bool, cases_lt, or_cases, or_left, or_right}
use Rattle.std.proofs.lemmas.List.{take_more, get_or_default}
use Rattle.std.proofs.lemmas.List.Folds.{list_any-append}
use Rattle.std.specs.List.{list_any}
use Rattle.std.specs.Option.{is_some}
use Rattle.fca_model.specs.Sets.{Set, size, within, join, same, strictly_within}
use Rattle.fca_model.specs.Context.{Context, closure, is_closed}
use Rattle.fca_model.specs.Implications.{Rule, rule, respects, respects_all}
use Rattle.fca_model.specs.Levels.{absorbs_all}
use Rattle.fca_model.proofs.SetLemmas.{within_antisymm, within_trans, within-join, within-join_right, join_within, length-join, same-true}
use Rattle.fca_model.proofs.SetLemmas.{same_from, strictly-parts, strictly_from, size_strict, size-set, set_within, lacks}
use Rattle.fca_model.proofs.ClosureLemmas.{respects_at}
use Rattle.pseudo_levels.specs.Search.{judged, Has, HasLarger, leads, Grows, IsSettled}
use Rattle.pseudo_levels.specs.Index.{IsBroken}
use Rattle.pseudo_levels.proofs.CandidateLemmas.{any_has}

-- what leads on is larger, or of the size
pub split_leads : (k : ℕ) (P : Set) (Xs : List Set) → leads k Xs P ≡ true
    → (leads (suc k) Xs P || list_any (λ X. within X P) (filter (λ X. eqb (size X) k) Xs)) ≡ true
split_leads k P [] h = absurd (false≢true h)
split_leads k P (X ∷ Xs) h =
    let later : Bool = leb (suc k) (size X) && within X P in
    let rest = list_any (λ X. within X P) (filter (λ X. eqb (size X) k) Xs) in
    elim (or_cases (leb k (size X) && within X P) (leads k Xs P) h) [
      | inl here ↦
          let parts = and_parts (leb k (size X)) (within X P) here in
          elim (cases_lt k (size X)) [
            | inl lt ↦ or_left (later || leads (suc k) Xs P) _
                (or_left later (leads (suc k) Xs P) (and_from (leb (suc k) (size X)) (within X P)
                (le-leb (suc k) (size X) (omega arith)) parts.1))
            | inr ge ↦ or_right (later || leads (suc k) Xs P) _
                (subst (λ b. list_any (λ X. within X P) (cond b (X ∷ filter (λ X. eqb (size X) k) Xs) (filter (λ X. eqb (size X) k) Xs))
                ≡ true) (sym (eq-eqb (size X) k (omega (arith, leb-true k (size X) parts.0)))) (or_left (within X P) rest parts.1))
          ]
      | inr there ↦ elim (or_cases (leads (suc k) Xs P) rest (split_leads k P Xs there)) [
        | inl l ↦ or_left (later || leads (suc k) Xs P) _ (or_right later (leads (suc k) Xs P) l)
        | inr r ↦ or_right (later || leads (suc k) Xs P) _
            (elim (eqb (size X) k) as (λ b. list_any (λ X. within X P)
            (cond b (X ∷ filter (λ X. eqb (size X) k) Xs) (filter (λ X. eqb (size X) k) Xs)) ≡ true) [
              | true ↦ or_right (within X P) rest r
              | false ↦ r
            ])
      ]
    ]

-- a candidate leads on
pub leads_by : (k : ℕ) (A P : Set) (Xs : List Set) → Has A Xs → k ≤ size A → within A P ≡ true → leads k Xs P ≡ true
leads_by k A P Xs h le inside = any_has (λ X. leb k (size X) && within X P) A Xs h
    (and_from (leb k (size A)) (within A P) (le-leb k (size A) le) inside)

-- not a && b, or nothing else
right_of : (a b : Bool) → ((not a && b) || false) ≡ true → b ≡ true
right_of false true h = refl
right_of false false h = absurd (false≢true h)
right_of true b h = absurd (false≢true h)

-- no answer
pub none_from : {X : Type 0} (a : Option X) → is_some a ≡ false → a ≡ None
none_from None h = refl
none_from (Some x) h = absurd (false≢true (sym h))

-- the answer at a place is that of the set there
pub answer_at : (f : Set → Option Rule) (Xs : List Set) (answers : List (Option Rule)) (i : ℕ) (X : Set) (a : Option Rule)
    → answers ≡ map f Xs → i < length Xs → X ≡ get_or Xs i X → a ≡ get_or answers i a → a ≡ f X
answer_at f Xs answers i X a e l x y = y ∙ ap (λ zs. get_or zs i a) e ∙ at Xs i l ∙ ap f (sym x)
  where
    at : (Ys : List Set) (j : ℕ) → j < length Ys → get_or (map f Ys) j a ≡ f (get_or Ys j X)
    at [] j h = absurd (omega arith)
    at (Y ∷ Ys) zero h = refl
    at (Y ∷ Ys) (suc j) h = at Ys j (omega arith)

module _ (S : List Rule) (K : Context) where
  -- a closed set within one that is not, with one attribute more
  pub larger_leads : (C P : Set) (k : ℕ) (Xs : List Set) → length C ≡ K.width → length P ≡ K.width → is_closed K C ≡ true
      → is_closed K P ≡ false → within C P ≡ true → k ≤ size C
      → HasLarger C K.width Xs → leads (suc k) Xs P ≡ true
  larger_leads C P k Xs ec ep closed t inside le g =
      let not_all : within P C ≡ false = elim (cases_Bool (within P C)) [
        | inl back ↦
            let e : C ≡ P = within_antisymm C P (ec ∙ sym ep) inside back in
            absurd (false≢true (sym t ∙ subst (λ X. is_closed K X ≡ true) e closed))
        | inr f ↦ f
      ] in
      let more = lacks C P (ec ∙ sym ep) not_all in
      leads_by (suc k) (set C more.0 true) P Xs (g more.0 (omega (arith, more.1)) more.2) (omega (arith, size-set C more.0 more.1 more.2))
      (set_within C P more.0 inside more.3)

  -- ---- one set

  -- a set that takes in all conclusions below it, and is no member of the basis, is closed
  judged_none : (found : List Rule) (X : Set) → judged S K found X ≡ None → respects_all S X ≡ true → absorbs_all found X ≡ true
      → is_closed K X ≡ true
  judged_none found X e known absorbs =
      elim (cases_Bool (same (closure K X) X)) [
        | inl t ↦ same_from X (closure K X) (sym (same-true (closure K X) X t))
        | inr f ↦ absurd (some_none (sym (ap (λ b. cond b (Some (rule X (closure K X))) None)
            (and_from (respects_all S X) (absorbs_all found X && not (same (closure K X) X)) known
            (and_from (absorbs_all found X) (not (same (closure K X) X)) absorbs (ap not f)))) ∙ e))
      ]
    where
      some_none : {i : Rule} → Some i ≡ None → ⊥
      some_none e = cc

  -- a set that breaks no member below it, with each attribute more
  pub closed_settles : (found : List Rule) (X : Set) (Xs : List Set) → length X ≡ K.width → respects_all S X ≡ true
      → absorbs_all found X ≡ true → HasLarger X (length X) Xs
      → judged S K found X ≡ None → IsSettled S K (size X) found (X ∷ []) Xs
  closed_settles found X Xs e known absorbs g none P ep _ _ f lt h =
      larger_leads X P (size X) Xs e ep (judged_none found X none known absorbs) f (right_of (is_some (judged S K found X)) (within X P) h)
      (omega arith) (subst (λ n. HasLarger X n Xs) e g)

  -- a set with the conclusion of a member that it breaks
  pub broken_settles : (found : List Rule) (X N : Set) (i : Rule) (Xs : List Set) → length i.conclusion ≡ length X → IsBroken found X i
      → N ≡ join X i.conclusion → Has N Xs → IsSettled S K (size X) found (X ∷ []) Xs
  broken_settles found X N i Xs wide b is has P _ _ ra _ _ h =
      let inside : within X P ≡ true = right_of (is_some (judged S K found X)) (within X P) h in
      let parts = and_parts (strictly_within i.premise X) (not (within i.conclusion X)) b.broken in
      let taken : within i.conclusion P ≡ true = respects_at P i (b.member (respects P) ra)
      (within_trans i.premise X P (strictly-parts i.premise X parts.0).0 inside) in
      let more : size X < size N = size_strict X N (sym (ap length is ∙ length-join X i.conclusion))
      (strictly_from X N (ap (within X) is ∙ within-join X i.conclusion)
      (λ e. true_false (sym (ap (within i.conclusion) is ∙ within-join_right X i.conclusion (sym wide))
      ∙ ap (within i.conclusion) (sym e)) parts.1)) in
      leads_by (suc (size X)) N P Xs has (omega arith) (subst (λ Z. within Z P ≡ true) (sym is) (join_within X i.conclusion P inside taken))
    where
      true_false : {b : Bool} → true ≡ b → not b ≡ true → ⊥
      true_false {b = true} e h = false≢true h
      true_false {b = false} e h = false≢true (sym e)

  member_settles : (k : ℕ) (found : List Rule) (X : Set) (Xs : List Set) → is_some (judged S K found X) ≡ true
      → IsSettled S K k found (X ∷ []) Xs
  member_settles k found X Xs e P _ _ _ _ _ h = absurd (false≢true (none (is_some (judged S K found X)) (within X P) e h))
    where
      none : (a b : Bool) → a ≡ true → ((not a && b) || false) ≡ true → false ≡ true
      none true b e h = h
      none false b e h = e

  -- ---- one set after the other

  pub settled_none : (k : ℕ) (found : List Rule) (Xs : List Set) → IsSettled S K k found [] Xs
  settled_none k found Xs P _ _ _ _ _ h = absurd (false≢true h)

  settled_more : (k i : ℕ) (found : List Rule) (Xs mid new : List Set) (X : Set) → i < length Xs → X ≡ get_or Xs i X → Grows K.width mid new
      → IsSettled S K k found (take i Xs) mid → IsSettled S K k found (X ∷ []) new → IsSettled S K k found (take (i + 1) Xs) new
  settled_more k i found Xs mid new X l is more a b =
      subst (λ Zs. IsSettled S K k found Zs new) (sym (take_more Xs i X l ∙ ap (λ Y. take i Xs ++ Y ∷ []) (sym is)))
      (λ P ep rs ra f lt h.
      let t : Set → Bool = λ X. not (is_some (judged S K found X)) && within X P in
      elim (or_cases (list_any t (take i Xs)) (list_any t (X ∷ [])) (sym (list_any-append t (take i Xs) (X ∷ [])) ∙ h)) [
        | inl first ↦ more.kept (λ X. leb (suc k) (size X) && within X P) (a P ep rs ra f lt first)
        | inr second ↦ b P ep rs ra f lt second
      ])

  pub settled_set : (k i : ℕ) (found : List Rule) (Xs mid new : List Set) (X : Set) → i < length Xs → X ≡ get_or Xs i X → size X ≡ k
      → Grows K.width mid new
      → IsSettled S K k found (take i Xs) mid → IsSettled S K (size X) found (X ∷ []) new → IsSettled S K k found (take (i + 1) Xs) new
  settled_set k i found Xs mid new X l is e more a b =
      settled_more k i found Xs mid new X l is more a (subst (λ m. IsSettled S K m found (X ∷ []) new) e b)

  pub settled_member : (k i : ℕ) (found : List Rule) (Xs mid : List Set) (answers : List (Option Rule)) (a : Option Rule) → i < length Xs
      → answers ≡ map (judged S K found) Xs → a ≡ get_or answers i a → is_some a ≡ true
      → IsSettled S K k found (take i Xs) mid → IsSettled S K k found (take (i + 1) Xs) mid
  settled_member k i found Xs mid answers a l e at m st =
      let X = get_or Xs i [] in
      let is : X ≡ get_or Xs i X = get_or_default Xs i [] X l in
      settled_more k i found Xs mid mid X l is (record { kept = λ p h. h; wide = λ w. w }) st
      (member_settles k found X mid (ap is_some (sym (answer_at (judged S K found) Xs answers i X a e l is at)) ∙ m))
