-- What one event can do to a state: leave it as it is, give a hold back, ask an open question, accept a held one that no row refutes, or
-- record a row
-- that refutes a held one. A claim of the next state is shown by cases on these five, and on no reply.
use Rattle.std.proofs.Common.{◌≡◌, ℕ, ◌+◌, Bool, true, false, not, ◌||◌, cond, Option, Some, None, List, [], ◌∷◌, ◌++◌, length, refl}
use Rattle.std.proofs.Common.{nat_le, sym, ap, ◌∙◌, subst}
use Rattle.std.proofs.lemmas.Bool.{and_from}
use Rattle.std.specs.List.{list_all, list_any}
use Rattle.fca_model.specs.Sets.{Set, within, same}
use Rattle.fca_model.specs.Implications.{Rule, respects, respects_all, refutes}
use Rattle.fca_model.specs.Questions.{has_premise}
use Rattle.fca_model.specs.Exploration.{State, SetEvent, SetReply, RowName, SetHold, rules_of, open_in, held_by, given_back, holders_of}
use Rattle.fca_model.specs.Exploration.{least_held, first_with, first_missing, all_held, asked, draw_reply, confirm_unheard}
use Rattle.fca_model.specs.Exploration.{confirm_unrefuted, confirm_reply, row_new, row_unbroken, row_refuting, row_fitting, row_reply}
use Rattle.fca_model.specs.Exploration.{reply_to, release, accept, record_row, after_draw, after_confirm, after_row, after, next, expert_of}
use Rattle.fca_model.specs.declared.Event.TheVariants.{Draw, Confirm, Row, Leave}
use Rattle.fca_model.specs.declared.Reply.TheVariants.{Ask, AllHeld}
use Rattle.fca_model.specs.Invariant.{Among}
use Rattle.fca_model.proofs.ListLemmas.{find_all, list_all-from_none}

-- ---- searches with places

pub first_with_none : {X : Type 0} (p : X → Bool) (k : ℕ) (xs : List X) → first_with p k xs ≡ None → list_any p xs ≡ false
first_with_none p k [] h = refl
first_with_none p k (x ∷ xs) h = go (p x) h (first_with_none p (k + 1) xs)
  where
    go : (b : Bool) → cond b (Some (k, x)) (first_with p (k + 1) xs) ≡ None → (first_with p (k + 1) xs ≡ None → list_any p xs ≡ false)
        → (b || list_any p xs) ≡ false
    go true h rest = absurd (cc)
    go false h rest = rest h

pub first_missing_none : (k : ℕ) (P r : Set) → first_missing k P r ≡ None → within P r ≡ true
first_missing_none k [] r h = refl
first_missing_none k (true ∷ P) [] h = absurd (cc)
first_missing_none k (false ∷ P) [] h = first_missing_none (k + 1) P [] h
first_missing_none k (true ∷ P) (true ∷ r) h = first_missing_none (k + 1) P r h
first_missing_none k (true ∷ P) (false ∷ r) h = absurd (cc)
first_missing_none k (false ∷ P) (b ∷ r) h = first_missing_none (k + 1) P r h

-- a question that a draw is asked is open
pub draw_asks : (most : ℕ) (hs : List SetHold) (J : List Rule) (q : Rule) → draw_reply most hs J ≡ Ask q → Among J q
draw_asks most hs [] q h = absurd (cc)
draw_asks most hs (i ∷ J) q h = go (all_held most hs (i ∷ J)) (least_held hs (i ∷ J)) refl h
  where
    go : (b : Bool) (o : Option Rule) → least_held hs (i ∷ J) ≡ o → cond b AllHeld (asked o) ≡ Ask q → Among (i ∷ J) q
    go true o e h = absurd (cc)
    go false None e h = absurd (cc)
    go false (Some x) e h =
        let found : x ≡ q = cc in
        λ p t. find_all (λ x. list_all (λ y. nat_le (holders_of x.premise hs) (holders_of y.premise hs)) (i ∷ J)) p (i ∷ J) q
        (e ∙ ap Some found) t

-- ---- the five changes

module _ (s : State) (Goal : State → Type 0) (e : ℕ) (unchanged : Goal s) (released : Goal (release e s)) where
  draw_changes : ((q : Rule) → Among (open_in s) q
      → Goal (record s { held = given_back e s.held ++ record { expert = e; question = q } ∷ [] })) → Goal (next s (Draw e))
  unfolding after reply_to
  draw_changes ask = go (draw_reply s.settings.holders (given_back e s.held) (open_in s)) refl
    where
      go : (reply : SetReply) → draw_reply s.settings.holders (given_back e s.held) (open_in s) ≡ reply → Goal (after_draw e s reply)
      go (Ask q) h = ask q (draw_asks s.settings.holders (given_back e s.held) (open_in s) q h)
      go _ h = released

  confirm_changes : ((q : Rule) → held_by e s.held ≡ Some q → list_any (λ r. refutes r q) s.context.rows ≡ false
      → has_premise s.accepted q.premise ≡ false → Goal (release e (accept (Some q) s)))
      → Goal (next s (Confirm e))
  unfolding after reply_to
  confirm_changes accepted = go (held_by e s.held) refl
    where
      unheard : (q : Rule) → held_by e s.held ≡ Some q → list_any (λ r. refutes r q) s.context.rows ≡ false
          → (o : Option (ℕ × Rule)) → first_with (λ i. same i.premise q.premise) (length s.settings.known) s.accepted ≡ o
          → Goal (after_confirm e s (confirm_unheard s o))
      unheard q held unrefuted (Some f) h = released
      unheard q held unrefuted None h = subst (λ o. Goal (release e (accept o s))) (sym held)
          (accepted q held unrefuted (first_with_none (λ i. same i.premise q.premise) (length s.settings.known) s.accepted h))

      unrefuted : (q : Rule) → held_by e s.held ≡ Some q → (o : Option (ℕ × Set)) → first_with (λ r. refutes r q) 0 s.context.rows ≡ o
          → Goal (after_confirm e s (confirm_unrefuted s q o))
      unrefuted q held (Some f) h = released
      unrefuted q held None h = unheard q held (first_with_none (λ r. refutes r q) 0 s.context.rows h)
          (first_with (λ i. same i.premise q.premise) (length s.settings.known) s.accepted) refl

      go : (o : Option Rule) → held_by e s.held ≡ o → Goal (after_confirm e s (confirm_reply s o))
      go None h = unchanged
      go (Some q) h = unrefuted q h (first_with (λ r. refutes r q) 0 s.context.rows) refl

  row_changes : (name : RowName) (r : Set) → ((q : Rule) → held_by e s.held ≡ Some q → refutes r q ≡ true
      → respects_all (rules_of s) r ≡ true → list_any (λ r. refutes r q) s.context.rows ≡ false → Goal (release e (record_row name r s)))
      → Goal (next s (Row e name r))
  unfolding after reply_to
  row_changes name r recorded = go (held_by e s.held) refl
    where
      new : (q : Rule) → held_by e s.held ≡ Some q → refutes r q ≡ true → respects_all (rules_of s) r ≡ true
          → (o : Option (ℕ × Set)) → first_with (λ r. refutes r q) 0 s.context.rows ≡ o → Goal (after_row e name r s (row_new s o))
      new q held t kept (Some f) h = released
      new q held t kept None h = recorded q held t kept (first_with_none (λ r. refutes r q) 0 s.context.rows h)

      unbroken : (q : Rule) → held_by e s.held ≡ Some q → refutes r q ≡ true
          → (o : Option (ℕ × Rule)) → first_with (λ i. not (respects r i)) 0 (rules_of s) ≡ o
          → Goal (after_row e name r s (row_unbroken s q o))
      unbroken q held t (Some f) h = unchanged
      unbroken q held t None h = new q held t (list_all-from_none (respects r) (rules_of s)
          (first_with_none (λ i. not (respects r i)) 0 (rules_of s) h)) (first_with (λ r. refutes r q) 0 s.context.rows) refl

      refuting : (q : Rule) → held_by e s.held ≡ Some q → within q.premise r ≡ true → (b : Bool) → within q.conclusion r ≡ b
          → Goal (after_row e name r s (row_refuting s q r b))
      refuting q held p true h = unchanged
      refuting q held p false h = unbroken q held (and_from (within q.premise r) (not (within q.conclusion r)) p (ap not h))
          (first_with (λ i. not (respects r i)) 0 (rules_of s)) refl

      fitting : (q : Rule) → held_by e s.held ≡ Some q → (o : Option ℕ) → first_missing 0 q.premise r ≡ o
          → Goal (after_row e name r s (row_fitting s q r o))
      fitting q held (Some a) h = unchanged
      fitting q held None h = refuting q held (first_missing_none 0 q.premise r h) (within q.conclusion r) refl

      go : (o : Option Rule) → held_by e s.held ≡ o → Goal (after_row e name r s (row_reply s o r))
      go None h = unchanged
      go (Some q) h = fitting q h (first_missing 0 q.premise r) refl

  leave_changes : Goal (next s (Leave e))
  unfolding after reply_to
  leave_changes = released

-- a claim of the next state, by what the event can have done
pub by_change : (s : State) (event : SetEvent) (Goal : State → Type 0) → Goal s → Goal (release (expert_of event) s)
    → ((q : Rule) → Among (open_in s) q → Goal (record s
    { held = given_back (expert_of event) s.held ++ record { expert = expert_of event; question = q } ∷ [] }))
    → ((q : Rule) → held_by (expert_of event) s.held ≡ Some q → list_any (λ r. refutes r q) s.context.rows ≡ false
    → has_premise s.accepted q.premise ≡ false → Goal (release (expert_of event) (accept (Some q) s)))
    → ((name : RowName) (r : Set) (q : Rule) → event ≡ Row (expert_of event) name r → held_by (expert_of event) s.held ≡ Some q
    → refutes r q ≡ true → respects_all (rules_of s) r ≡ true
    → list_any (λ r. refutes r q) s.context.rows ≡ false → Goal (release (expert_of event) (record_row name r s)))
    → Goal (next s event)
by_change s (Draw e) Goal unchanged released ask accepted recorded = draw_changes s Goal e unchanged released ask
by_change s (Confirm e) Goal unchanged released ask accepted recorded = confirm_changes s Goal e unchanged released accepted
by_change s (Row e name r) Goal unchanged released ask accepted recorded =
    row_changes s Goal e unchanged released name r (λ q. recorded name r q refl)
by_change s (Leave e) Goal unchanged released ask accepted recorded = leave_changes s Goal e unchanged released
