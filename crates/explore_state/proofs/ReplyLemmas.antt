-- What a reply shows of the state. A confirmation is accepted only where no row refutes the question that is held and its premise is
-- new, and a row is taken only where it respects all rules.
use Rattle.std.proofs.Common.{◌≡◌, ℕ, ◌<◌, Bool, true, false, not, Option, Some, None, List, [], ◌++◌, length, eqb-true, refl, sym, ap, ◌∙◌}
use Rattle.std.proofs.Common.{subst}
use Rattle.std.specs.List.{list_any}
use Rattle.fca_model.specs.declared.Event.TheVariants.{Draw, Confirm, Row}
use Rattle.fca_model.specs.declared.Reply.TheVariants.{Accepted, Taken}
use Rattle.fca_model.specs.declared.TheConstants.{MAX_EXPERTS}
use Rattle.fca_model.specs.Sets.{Set, within, same}
use Rattle.fca_model.specs.Context.{Context}
use Rattle.fca_model.specs.Implications.{Rule, rule, respects, respects_all, refutes, holds}
use Rattle.fca_model.specs.Questions.{has_premise}
use Rattle.fca_model.specs.Invariant.{MayBeHeld}
use Rattle.fca_model.specs.Exploration.{State, RowName, SetHold, SetReply, rules_of, held_by, given_back, first_with, first_missing}
use Rattle.fca_model.specs.Exploration.{confirm_reply}
use Rattle.fca_model.specs.Exploration.{confirm_unrefuted, confirm_unheard, row_reply, row_fitting, row_refuting, row_unbroken, reply_to}
use Rattle.fca_model.proofs.ListLemmas.{list_all-from_none}
use Rattle.fca_model.proofs.StepLemmas.{first_with_none}
use Rattle.fca_model.proofs.ValidLemmas.{held_valid, unrefuted_holds, others_fewer}
use Rattle.explore_state.specs.Kept.{IsDue, IsTimely}

-- ---- a confirmation that is accepted

accepts : (s : State) (q : Rule) (k : ℕ) → confirm_reply s (Some q) ≡ Accepted k
    → (list_any (λ r. refutes r q) s.context.rows ≡ false) × (has_premise s.accepted q.premise ≡ false)
accepts s q k e = unrefuted (first_with (λ r. refutes r q) 0 s.context.rows) refl e
  where
    unheard : (m : Option (ℕ × Rule)) → first_with (λ i. same i.premise q.premise) (length s.settings.known) s.accepted ≡ m
        → confirm_unheard s m ≡ Accepted k → has_premise s.accepted q.premise ≡ false
    unheard None found e = first_with_none (λ i. same i.premise q.premise) (length s.settings.known) s.accepted found
    unheard (Some x) found e = absurd (cc)

    unrefuted : (m : Option (ℕ × Set)) → first_with (λ r. refutes r q) 0 s.context.rows ≡ m → confirm_unrefuted s q m ≡ Accepted k
        → (list_any (λ r. refutes r q) s.context.rows ≡ false) × (has_premise s.accepted q.premise ≡ false)
    unrefuted None found e = (
      first_with_none (λ r. refutes r q) 0 s.context.rows found,
      unheard (first_with (λ i. same i.premise q.premise) (length s.settings.known) s.accepted) refl e,
    )
    unrefuted (Some x) found e = absurd (cc)

module _ (S : List Rule) (K : Context) (acc : List Rule) (hs : List SetHold) where
  pub accepted_timely : (e k : ℕ) (reply : SetReply) → IsDue S K acc hs (Confirm e) reply → reply ≡ Accepted k → (q : Rule)
      → held_by e hs ≡ Some q → IsTimely S K acc q
  unfolding reply_to
  accepted_timely e k reply due is q held =
      let s = due.state in
      let mine : held_by e s.held ≡ Some q = ap (held_by e) due.shown.held ∙ held in
      let told = accepts s q k (ap (confirm_reply s) (sym mine) ∙ sym due.reply ∙ is) in
      let may = held_valid s due.valid e q mine in
      let here = unrefuted_holds s.context q may.conclusion_wide told.0 in
      record {
        may_be_held = subst (λ T. MayBeHeld T K acc q) due.known
            (subst (λ J. MayBeHeld s.settings.known K J q) due.shown.accepted
            (subst (λ L. MayBeHeld s.settings.known L s.accepted q) due.shown.context may));
        holds = subst (λ L. holds L q ≡ true) due.shown.context here;
        new = subst (λ J. has_premise J q.premise ≡ false) due.shown.accepted told.1;
      }

-- ---- a row that is taken

takes : (s : State) (h : Option Rule) (r : Set) (k : ℕ) → row_reply s h r ≡ Taken k → respects_all (rules_of s) r ≡ true
takes s None r k e = absurd (cc)
takes s (Some q) r k e = fitting (first_missing 0 q.premise r) e
  where
    unbroken : (m : Option (ℕ × Rule)) → first_with (λ i. not (respects r i)) 0 (rules_of s) ≡ m → row_unbroken s q m ≡ Taken k
        → respects_all (rules_of s) r ≡ true
    unbroken None found e = list_all-from_none (respects r) (rules_of s) (first_with_none (λ i. not (respects r i)) 0 (rules_of s) found)
    unbroken (Some x) found e = absurd (cc)

    refuting : (b : Bool) → row_refuting s q r b ≡ Taken k → respects_all (rules_of s) r ≡ true
    refuting true e = absurd (cc)
    refuting false e = unbroken (first_with (λ i. not (respects r i)) 0 (rules_of s)) refl e

    fitting : (m : Option ℕ) → row_fitting s q r m ≡ Taken k → respects_all (rules_of s) r ≡ true
    fitting None e = refuting (within q.conclusion r) e
    fitting (Some a) e = absurd (cc)

module _ (S : List Rule) (K : Context) (acc : List Rule) (hs : List SetHold) where
  pub taken_respects : (e k : ℕ) (name : RowName) (r : Set) (reply : SetReply) → IsDue S K acc hs (Row e name r) reply → reply ≡ Taken k
      → respects_all (S ++ acc) r ≡ true
  unfolding reply_to
  taken_respects e k name r reply due is =
      let s = due.state in
      let all = takes s (held_by e s.held) r k (sym due.reply ∙ is) in
      subst (λ T. respects_all (T ++ acc) r ≡ true) due.known
      (subst (λ J. respects_all (s.settings.known ++ J) r ≡ true) due.shown.accepted all)

  pub row_width : (e : ℕ) (name : RowName) (r : Set) (reply : SetReply) → IsDue S K acc hs (Row e name r) reply → length r ≡ K.width
  row_width e name r reply due = eqb-true (length r) K.width due.wide

  -- ---- a draw

  -- there is room for one more hold
  pub draw_room : (e : ℕ) (reply : SetReply) → IsDue S K acc hs (Draw e) reply → length (given_back e hs) < MAX_EXPERTS
  draw_room e reply due = subst (λ gs. length (given_back e gs) < MAX_EXPERTS) due.shown.held
      (others_fewer e (rule [] []) due.state.held due.expert due.valid.experts)
