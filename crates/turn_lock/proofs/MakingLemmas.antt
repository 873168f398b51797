-- Passes that are made, and passes that are joined.
-- Each pass that is cut off from pass 1 has the next number, so the badges come in their order. As the passes are joined to
-- pass 1, its view keeps the entries of each and what each has seen.
use Rattle.std.proofs.Common.{◌≡◌, ℕ, ◌+◌, ◌⊎◌, zero, suc, List, [], ◌∷◌, ◌++◌, length, refl, ap, ◌∙◌, inl, inr, ⊎_elim, arith}
use Rattle.std.proofs.Common.{Option}
use Rattle.atomic_table.specs.Seated.{TableId}
use Rattle.atomic_table.specs.declared.shared.Seat.{Seat}
use Rattle.turn_lock.specs.declared.view.View.{View}
use Rattle.turn_lock.specs.declared.view.JoinedPass.{JoinedPass}
use Rattle.turn_lock.specs.Histories.{IsOneOf}
use Rattle.turn_lock.specs.Steps.{one_more, newcomer, joined_with}
use Rattle.turn_lock.specs.Passes.{PassModel, badge, badges, IsFresh}
use Rattle.turn_lock.specs.Seats.{pass_of, Making, gathered, all_gathered}
use Rattle.turn_lock.proofs.HistoryLemmas.{among_left, among_right}

module _ {B : Type 0} where
  pub badges-push : (id : TableId) (b : Option B) (turns n k m : ℕ) → m ≡ n + k
      → badges id b turns n (suc k) ≡ badges id b turns n k ++ record { lock = id; number = m; base = b; turns = turns; passes = 0 } ∷ []
  badges-push id b turns n zero m e = let is : n ≡ m = omega arith in
      λ i. record { lock = id; number = is i; base = b; turns = turns; passes = 0 } ∷ []
  badges-push id b turns n (suc k) m e = ap (λ l. record { lock = id; number = n; base = b; turns = turns; passes = 0 } ∷ l)
      (badges-push id b turns (suc n) k m (omega arith))

  pub length-badges : (id : TableId) (b : Option B) (turns n k : ℕ) → length (badges id b turns n k) ≡ k
  length-badges id b turns n zero = refl
  length-badges id b turns n (suc k) = ap suc (length-badges id b turns (suc n) k)

module _ {V B E : Type 0} where
  pub makes : (turns k : ℕ) (t u : Seat V (View B E)) → u.me ≡ (one_more t.me.0, t.me.1) → Making turns k t → Making turns (k + 1) u
  makes turns k t u e m = let v = ap (λ z. z.0) e in record {
    holds = ap (λ z. z.1) e ∙ m.holds;
    number = ap (λ w. w.number) v ∙ m.number;
    turns_is = ap (λ w. w.turns) v ∙ m.turns_is;
    passes = ap (λ w. w.passes) v ∙ ap (λ (n : ℕ). n + 1) m.passes;
    ticket = ap (λ w. w.ticket) v ∙ m.ticket;
    mine = ap (λ w. w.mine) v ∙ m.mine;
    stands = ap (λ w. w.stands) v ∙ m.stands;
    drawn = ap (λ w. w.drawn) v ∙ m.drawn;
    seen = ap (λ w. w.seen) v ∙ m.seen;
    own = ap (λ w. w.own) v ∙ m.own;
  }

  -- the pass that is cut off is fresh, and has the next number
  pub is_new : (turns k : ℕ) (id : TableId) (b : Option B) (t u : Seat V (View B E)) → Making turns k t → t.me.0.base ≡ b → u.table_id ≡ id
      → u.me ≡ (newcomer t.me.0, [])
      → (badge (pass_of u) ≡ record { lock = id; number = k + 1; base = b; turns = turns; passes = 0 }) × IsFresh (pass_of u)
  is_new turns k id b t u m based there e =
      let v = ap (λ z. z.0) e in
      let number : u.me.0.number ≡ k + 1 = ap (λ w. w.number) v ∙ ap (λ (n : ℕ). n + 1) m.passes in
      let base : u.me.0.base ≡ b = ap (λ w. w.base) v ∙ based in
      let its : u.me.0.turns ≡ turns = ap (λ w. w.turns) v ∙ m.turns_is in
      let none : u.me.0.passes ≡ 0 = ap (λ w. w.passes) v in (
        (λ i. record { lock = there i; number = number i; base = base i; turns = its i; passes = none i }),
        (ap (λ w. w.seen) v ∙ m.seen, ap (λ w. w.own) v, ap (λ w. w.drawn) v),
      )

  pub one_joins : (v : View B E) (t : Seat V (View B E)) (ps : List (PassModel B E)) → t.me.0.stands ≡ 1
      → all_gathered (joined_with v t.me.0) ps ≡ all_gathered v (pass_of t ∷ ps)
  one_joins v t ps one = ap (λ (n : ℕ). all_gathered (record (joined_with v t.me.0) { stands = v.stands + n }) ps) one

module _ {B E : Type 0} where
  -- what stays of the view of pass 1
  pub stays_one : (v : View B E) (ps : List (PassModel B E))
      → ((all_gathered v ps).number ≡ v.number) × ((all_gathered v ps).mine ≡ v.mine) × ((all_gathered v ps).passes ≡ v.passes)
      × ((all_gathered v ps).own ≡ v.own) × ((all_gathered v ps).stands ≡ v.stands + length ps)
  stays_one v [] = (refl, refl, refl, refl, omega arith)
  stays_one v (p ∷ ps) = let h = stays_one (gathered v p) ps in let s = h.4 in (h.0, h.1, h.2, h.3, omega arith)

  pub keeps_joined : (v : View B E) (ps : List (PassModel B E)) (left : JoinedPass E) → IsOneOf v.joined left → IsOneOf (all_gathered v ps).joined left
  keeps_joined v [] left a = a
  keeps_joined v (p ∷ ps) left a = keeps_joined (gathered v p) ps left
      (among_left v.joined (record { number = p.number; own = p.own } ∷ []) left a)

  -- each pass's entries are kept
  pub has_joined : (v : View B E) (ps : List (PassModel B E)) (p : PassModel B E) → IsOneOf ps p
      → IsOneOf (all_gathered v ps).joined (record { number = p.number; own = p.own })
  has_joined v [] p a = absurd a
  has_joined v (q ∷ ps) p a = ⊎_elim
      (λ e. keeps_joined (gathered v q) ps (record { number = p.number; own = p.own })
      (among_right v.joined (record { number = q.number; own = q.own } ∷ []) (record { number = p.number; own = p.own })
      (inl (ap (λ (q : PassModel B E). record { number = q.number; own = q.own }) e))))
      (λ m. has_joined (gathered v q) ps p m) a

  -- what pass 1 has seen, or was shown
  abbrev Has : View B E → List E → Type 0
  Has v h = (v.seen ≡ h) ⊎ IsOneOf v.joined_seen h

  pub keeps_seen : (v : View B E) (ps : List (PassModel B E)) (h : List E) → Has v h → Has (all_gathered v ps) h
  keeps_seen v [] h a = a
  keeps_seen v (p ∷ ps) h a = keeps_seen (gathered v p) ps h
      (inr (⊎_elim (λ e. among_right v.joined_seen (v.seen ∷ p.seen ∷ []) h (inl e)) (λ m. among_left v.joined_seen (v.seen ∷ p.seen ∷ []) h m) a))

  pub has_seen : (v : View B E) (ps : List (PassModel B E)) (p : PassModel B E) → IsOneOf ps p → Has (all_gathered v ps) p.seen
  has_seen v [] p a = absurd a
  has_seen v (q ∷ ps) p a = ⊎_elim
      (λ e. keeps_seen (gathered v q) ps p.seen (inr
      (among_right v.joined_seen (v.seen ∷ q.seen ∷ []) p.seen (inr (inl (ap (λ (q : PassModel B E). q.seen) e))))))
      (λ m. has_seen (gathered v q) ps p m) a
