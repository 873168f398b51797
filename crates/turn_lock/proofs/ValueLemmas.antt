-- The value in the slot of the pass whose turn it is.
use Rattle.std.proofs.Common.{◌≡◌, ℕ, List, [], ◌∷◌, sym, ap, ◌∙◌, subst}
use Rattle.atomic_table.specs.Table.{Me, rest}
use Rattle.turn_lock.specs.declared.view.View.{View}
use Rattle.turn_lock.specs.Steps.{SeesValue, HasTurn}

module _ {V : Type 0} where
  -- the value in the first of the slots that a pass holds
  abbrev first_of : V → List (ℕ × V) → V
  first_of v [] = v
  first_of v (x ∷ xs) = x.1

  -- a slot has one value
  pub value_at : (slots : List (ℕ × V)) (v w : V) → slots ≡ (0, v) ∷ [] → slots ≡ (0, w) ∷ [] → v ≡ w
  value_at slots v w is there = ap (first_of v) (sym is ∙ there)

module _ {V B E : Type 0} (base_of : V → B) (history_of : V → List E) (legal : B → List E → Type 0) (by : E → ℕ) where
  -- what is found in the slot as the turn has come is the value that the pass was shown
  pub shown_now : (m m' : Me V (View B E)) (value : V) → HasTurn base_of history_of legal by m m' → m.1 ≡ [] → m'.1 ≡ (0, value) ∷ rest m'.1
      → (m'.1 ≡ (0, value) ∷ []) × SeesValue base_of history_of legal by m.0 value m'.0
  shown_now m m' value turn free found =
      let only = turn.1 ∙ ap (λ l. (0, turn.0) ∷ l) free in
      let there = found ∙ ap (λ l. (0, value) ∷ rest l) only in
      (there, subst (λ v. SeesValue base_of history_of legal by m.0 v m'.0) (value_at m'.1 turn.0 value only there) turn.2)
