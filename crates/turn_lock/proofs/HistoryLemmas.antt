-- Histories that go on, and whose entries they have.
-- A pass's own entries of a history that goes on are those of its start and those of the rest. So entries of one pass change
-- nothing for the others.
use Rattle.std.proofs.Common.{◌≡◌, ◌≢◌, ℕ, ◌⊎◌, eqb, ltb, ne_eqb, eq-eqb, cond, if◌then◌else◌, Bool, zero, suc, List, [], ◌∷◌, ◌++◌, length}
use Rattle.std.proofs.Common.{All, sym, refl, ap, ◌∙◌, subst, inl, inr, ⊎_elim, arith, append_assoc}
use Rattle.std.proofs.lemmas.List.{append-nil}
use Rattle.std.proofs.lemmas.List.Elements.{filter-append}
use Rattle.std.proofs.lemmas.Bool.{cases_Bool}
use Rattle.turn_lock.specs.Histories.{StartsWith, own_of, longer, IsOneOf}

module _ {E : Type 0} where
  pub starts_trans : (a b c : List E) → StartsWith c b → StartsWith b a → StartsWith c a
  starts_trans a b c h k = (k.0 ++ h.0, h.1 ∙ (ap (λ l. l ++ h.0) k.1 ∙ append_assoc a k.0 h.0))

  pub starts_itself : (a : List E) → StartsWith a a
  starts_itself a = ([], sym (append-nil a))

  -- what holds of two histories holds of the longer
  pub longer_either : (F : List E → Type 0) (h k : List E) → F h → F k → F (longer h k)
  longer_either F h k a c = elim (cases_Bool (ltb (length h) (length k))) [
    | inl is ↦ subst (λ (z : Bool). F (if z then k else h)) (sym is) c
    | inr not_it ↦ subst (λ (z : Bool). F (if z then k else h)) (sym not_it) a
  ]

module _ {E : Type 0} (by : E → ℕ) where
  pub own_of-append : (n : ℕ) (h k : List E) → own_of by n (h ++ k) ≡ own_of by n h ++ own_of by n k
  own_of-append n h k = filter-append (λ entry. eqb (by entry) n) h k

  -- entries of others alone change nothing
  pub own_of-others : (n : ℕ) (h k : List E) → own_of by n k ≡ [] → own_of by n (h ++ k) ≡ own_of by n h
  own_of-others n h k e = own_of-append n h k ∙ (ap (λ l. own_of by n h ++ l) e ∙ append-nil (own_of by n h))

  pub own_of-one : (n : ℕ) (e : E) → by e ≡ n → own_of by n (e ∷ []) ≡ e ∷ []
  own_of-one n e is = ap (λ (c : Bool). cond c (e ∷ []) []) (eq-eqb (by e) n is)

  pub own_of-other : (n k : ℕ) (e : E) → by e ≡ n → k ≢ n → own_of by k (e ∷ []) ≡ []
  own_of-other n k e is ne = ap (λ (c : Bool). cond c (e ∷ []) []) (ne_eqb (by e) k (λ h. ne (sym h ∙ is)))

module _ {X : Type 0} where
  pub among_append : (xs ys : List X) (x : X) → IsOneOf (xs ++ ys) x → IsOneOf xs x ⊎ IsOneOf ys x
  among_append [] ys x a = inr a
  among_append (y ∷ xs) ys x a = ⊎_elim (λ e. inl (inl e)) (λ m. ⊎_elim (λ p. inl (inr p)) (λ p. inr p) (among_append xs ys x m)) a

  pub among_left : (xs ys : List X) (x : X) → IsOneOf xs x → IsOneOf (xs ++ ys) x
  among_left [] ys x a = absurd a
  among_left (y ∷ xs) ys x a = ⊎_elim (λ e. inl e) (λ m. inr (among_left xs ys x m)) a

  pub among_right : (xs ys : List X) (x : X) → IsOneOf ys x → IsOneOf (xs ++ ys) x
  among_right [] ys x a = a
  among_right (y ∷ xs) ys x a = inr (among_right xs ys x a)

  pub All-among : (Q : X → Type 0) (xs : List X) → ((x : X) → IsOneOf xs x → Q x) → All Q xs
  All-among Q [] f i d l = absurd (omega arith)
  All-among Q (x ∷ xs) f zero d l = f x (inl refl)
  All-among Q (x ∷ xs) f (suc i) d l = All-among Q xs (λ y a. f y (inr a)) i d (omega arith)
