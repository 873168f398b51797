-- Tickets: which are out, and with whom.
-- A view that keeps its ticket, or a new one without any, changes nothing. A drawn ticket is the first that is not out yet,
-- and a turn ends with the first that is.
use Rattle.std.proofs.Common.{◌≡◌, ◌≢◌, ℕ, ◌+◌, ◌<◌, ◌≤◌, List, [], ◌∷◌, ◌++◌, set, sym, refl, ap, ◌∙◌, inl, inr, ◌⊎◌, arith}
use Rattle.std.proofs.Common.{Option, Some, None}
use mathlib.Core.Logic.{dite}
use mathlib.Core.Option.{some}
use native.Mathlib.Decide.{ℕ_discrete}
use lib.ListN.{get_elem?}
use Rattle.atomic_table.proofs.Lists.{set_here, set_else, at_longer}
use Rattle.turn_lock.specs.declared.view.View.{View}
use Rattle.turn_lock.specs.Turns.{Tickets}
use Rattle.turn_lock.proofs.ViewLemmas.{inside, same_at, after, after_end, only}

pub has_none : (o : Option ℕ) (t : ℕ) → o ≡ None → o ≡ Some t → ⊥
has_none None t a b = cc b
has_none (Some n) t a b = cc a

pub same_some : {X : Type 0} (x y : X) → Some x ≡ Some y → x ≡ y
same_some x y e = ap (λ (o : Option _). elim o [ None ↦ x | Some z ↦ z ]) e

pub is_turn : (o : Option ℕ) (n : ℕ) → (o ≡ Some n) ⊎ (o ≢ Some n)
is_turn None n = inr (λ e. cc e)
is_turn (Some t) n = dite (ℕ_discrete t n) (λ e. inl (ap Some e)) (λ e. inr (λ p. e (same_some t n p)))

module _ {B E : Type 0} where
  pub Tickets-kept : (ended drawn : ℕ) (vs : List (View B E)) (id : ℕ) (v w : View B E) → get_elem? vs id ≡ some v → w.ticket ≡ v.ticket
      → Tickets ended drawn vs → Tickets ended drawn (set vs id w)
  Tickets-kept ended drawn vs id v w at is r = record {
    order = r.order;
    out = λ t low high. let o = r.out t low high in dite (ℕ_discrete o.0 id)
        (λ same. (
          id,
          w,
          set_here vs id w (inside vs id v at),
          is ∙ (ap (λ (v : View B E). v.ticket) (same_at vs id o.0 v o.1 at o.2 (sym same)) ∙ o.3),
        ))
        (λ other. (o.0, o.1, set_else vs id o.0 w other ∙ o.2, o.3));
    apart = λ i j u x t ai aj ti tj. after (λ i (u : View B E). u.ticket ≡ Some t → i ≡ j) vs id w
        (λ ti. after (λ j (x : View B E). x.ticket ≡ Some t → id ≡ j) vs id w (λ _. refl)
        (λ j x other there tj. r.apart id j v x t at there (sym is ∙ ti) tj) j x aj tj)
        (λ i u other there ti. after (λ j (x : View B E). x.ticket ≡ Some t → i ≡ j) vs id w
        (λ tj. r.apart i id u v t there at ti (sym is ∙ tj))
        (λ j x o2 there2 tj. r.apart i j u x t there there2 ti tj) j x aj tj) i u ai ti;
    held = λ i u t there e. after (λ i (u : View B E). u.ticket ≡ Some t → (ended ≤ t) × (t < drawn)) vs id w
        (λ e. r.held id v t at (sym is ∙ e)) (λ j u other there e. r.held j u t there e) i u there e;
  }

  pub Tickets-drawn : (ended drawn : ℕ) (vs : List (View B E)) (id : ℕ) (v w : View B E) → get_elem? vs id ≡ some v → v.ticket ≡ None
      → w.ticket ≡ Some drawn → Tickets ended drawn vs → Tickets ended (drawn + 1) (set vs id w)
  Tickets-drawn ended drawn vs id v w at free new r =
      let order = r.order in record {
        order = omega arith;
        out = λ t low high. dite (ℕ_discrete t drawn)
            (λ same. (id, w, set_here vs id w (inside vs id v at), new ∙ ap Some (sym same)))
            (λ other. let o = r.out t low (omega arith) in (
              o.0,
              o.1,
              set_else vs id o.0 w (λ e. has_none v.ticket t free
                  (ap (λ (v : View B E). v.ticket) (same_at vs id o.0 v o.1 at o.2 (sym e)) ∙ o.3)) ∙ o.2,
              o.3,
            ));
        apart = λ i j u x t ai aj ti tj. after (λ i (u : View B E). u.ticket ≡ Some t → i ≡ j) vs id w
            (λ ti. after (λ j (x : View B E). x.ticket ≡ Some t → id ≡ j) vs id w (λ _. refl)
            (λ j x other there tj. let h = (r.held j x t there tj).1 in let e = same_some drawn t (sym new ∙ ti) in
            absurd (omega arith)) j x aj tj)
            (λ i u other there ti. after (λ j (x : View B E). x.ticket ≡ Some t → i ≡ j) vs id w
            (λ tj. let h = (r.held i u t there ti).1 in let e = same_some drawn t (sym new ∙ tj) in absurd (omega arith))
            (λ j x o2 there2 tj. r.apart i j u x t there there2 ti tj) j x aj tj) i u ai ti;
        held = λ i u t there e. after (λ i (u : View B E). u.ticket ≡ Some t → (ended ≤ t) × (t < drawn + 1)) vs id w
            (λ e. let is = same_some drawn t (sym new ∙ e) in (omega arith, omega arith))
            (λ j u other there e. let old = r.held j u t there e in (old.0, let b = old.1 in omega arith)) i u there e;
      }

  pub Tickets-ended : (ended drawn : ℕ) (vs : List (View B E)) (id : ℕ) (v w : View B E) → get_elem? vs id ≡ some v → v.ticket ≡ Some ended
      → w.ticket ≡ None → Tickets ended drawn vs → Tickets (ended + 1) drawn (set vs id w)
  Tickets-ended ended drawn vs id v w at now free r =
      let below = (r.held id v ended at now).1 in record {
        order = omega arith;
        out = λ t low high. let o = r.out t (omega arith) high in (
          o.0,
          o.1,
          set_else vs id o.0 w (λ e. let is =
              same_some ended t (sym now ∙ (ap (λ (v : View B E). v.ticket) (same_at vs id o.0 v o.1 at o.2 (sym e)) ∙ o.3)) in
              absurd (omega arith)) ∙ o.2,
          o.3,
        );
        apart = λ i j u x t ai aj ti tj. after (λ i (u : View B E). u.ticket ≡ Some t → i ≡ j) vs id w
            (λ e. absurd (has_none w.ticket t free e))
            (λ i u other there ti. after (λ j (x : View B E). x.ticket ≡ Some t → i ≡ j) vs id w (λ e. absurd (has_none w.ticket t free e))
            (λ j x o2 there2 tj. r.apart i j u x t there there2 ti tj) j x aj tj) i u ai ti;
        held = λ i u t there e. after (λ i (u : View B E). u.ticket ≡ Some t → (ended + 1 ≤ t) × (t < drawn)) vs id w
            (λ e. absurd (has_none w.ticket t free e))
            (λ j u other there e. let old = r.held j u t there e in let low = old.0 in
            let not_now : ended ≢ t = λ same. other (sym (r.apart id j v u ended at there now (e ∙ ap Some (sym same)))) in
            (omega arith, old.1)) i u there e;
      }

  pub Tickets-longer : (ended drawn : ℕ) (vs : List (View B E)) (w : View B E) → w.ticket ≡ None → Tickets ended drawn vs
      → Tickets ended drawn (vs ++ w ∷ [])
  Tickets-longer ended drawn vs w free r = record {
    order = r.order;
    out = λ t low high. let o = r.out t low high in (o.0, o.1, at_longer vs (w ∷ []) o.0 o.1 o.2, o.3);
    apart = λ i j u x t ai aj ti tj. after_end (λ i (u : View B E). u.ticket ≡ Some t → i ≡ j) vs w
        (λ e. absurd (has_none w.ticket t free e))
        (λ i u there ti. after_end (λ j (x : View B E). x.ticket ≡ Some t → i ≡ j) vs w (λ e. absurd (has_none w.ticket t free e))
        (λ j x there2 tj. r.apart i j u x t there there2 ti tj) j x aj tj) i u ai ti;
    held = λ i u t there e. after_end (λ i (u : View B E). u.ticket ≡ Some t → (ended ≤ t) × (t < drawn)) vs w
        (λ e. absurd (has_none w.ticket t free e)) (λ j u there e. r.held j u t there e) i u there e;
  }

  pub Tickets-first : (w : View B E) → w.ticket ≡ None → Tickets 0 0 (w ∷ [])
  Tickets-first w free = record {
    order = omega arith;
    out = λ t low high. absurd (omega arith);
    apart = λ i j u x t ai aj ti tj. only (λ i (u : View B E). u.ticket ≡ Some t → i ≡ j) w
        (λ e. absurd (has_none w.ticket t free e)) i u ai ti;
    held = λ i u t there e. only (λ i (u : View B E). u.ticket ≡ Some t → (0 ≤ t) × (t < 0)) w
        (λ e. absurd (has_none w.ticket t free e)) i u there e;
  }
