-- Done is answered to draws alone, and only where no question is open; and from then on none is. So where an expert's last reply is Done,
-- no question is open after the whole history.
use Rattle.std.proofs.Common.{◌≡◌, ℕ, Bool, true, false, not, ◌||◌, Option, Some, None, List, [], ◌∷◌, ◌==◌, filter, length, inl, inr, refl}
use Rattle.std.proofs.Common.{sym, ap, ◌∙◌, subst}
use Rattle.std.proofs.lemmas.Bool.{cases_Bool, and_parts, or_left, or_right, false≢true}
use Rattle.std.specs.List.{list_any, list_all}
use Rattle.fca_model.specs.declared.Event.TheVariants.{Draw, Confirm, Row, Leave}
use Rattle.fca_model.specs.declared.Reply.TheVariants.{Done}
use Rattle.fca_model.specs.Sets.{Set, within, same}
use Rattle.fca_model.specs.Implications.{Rule, respects, refutes}
use Rattle.fca_model.specs.Exploration.{State, SetEvent, SetReply, SetEntry, rules_of, open_in, held_by, first_with, first_missing}
use Rattle.fca_model.specs.Exploration.{confirm_unheard}
use Rattle.fca_model.specs.Exploration.{confirm_unrefuted, confirm_reply, row_new, row_unbroken, row_refuting, row_fitting, row_reply}
use Rattle.fca_model.specs.Exploration.{reply_to, next}
use Rattle.fca_model.specs.Exploration.{state_after, journal_of, events_of, expert_of, is_expert, has_row_of_width, IsLegal, own}
use Rattle.fca_model.specs.Invariant.{IsValid}
use Rattle.fca_model.proofs.ListLemmas.{list_any-not, list_all-filter_kept}
use Rattle.fca_model.proofs.ValidLemmas.{next_valid}
use Rattle.fca_model.proofs.RunLemmas.{legal_events}
use Rattle.fca_model.proofs.CourseLemmas.{next_width, draw_done, run_done}
use Rattle.oracle_expert.specs.Runs.{is_done, ends_done}

-- ---- which replies are Done

confirm_goes_on : (s : State) (held : Option Rule) → is_done (confirm_reply s held) ≡ false
confirm_goes_on s None = refl
confirm_goes_on s (Some q) = unrefuted (first_with (λ r. refutes r q) 0 s.context.rows)
  where
    unheard : (m : Option (ℕ × Rule)) → is_done (confirm_unheard s m) ≡ false
    unheard None = refl
    unheard (Some found) = refl

    unrefuted : (m : Option (ℕ × Set)) → is_done (confirm_unrefuted s q m) ≡ false
    unrefuted None = unheard (first_with (λ i. same i.premise q.premise) (length s.settings.known) s.accepted)
    unrefuted (Some found) = refl

row_goes_on : (s : State) (held : Option Rule) (r : Set) → is_done (row_reply s held r) ≡ false
row_goes_on s None r = refl
row_goes_on s (Some q) r = fitting (first_missing 0 q.premise r)
  where
    new : (m : Option (ℕ × Set)) → is_done (row_new s m) ≡ false
    new None = refl
    new (Some found) = refl

    unbroken : (m : Option (ℕ × Rule)) → is_done (row_unbroken s q m) ≡ false
    unbroken None = new (first_with (λ r. refutes r q) 0 s.context.rows)
    unbroken (Some found) = refl

    refuting : (b : Bool) → is_done (row_refuting s q r b) ≡ false
    refuting true = refl
    refuting false = unbroken (first_with (λ i. not (respects r i)) 0 (rules_of s))

    fitting : (m : Option ℕ) → is_done (row_fitting s q r m) ≡ false
    fitting None = refuting (within q.conclusion r)
    fitting (Some a) = refl

is_Done : (reply : SetReply) → is_done reply ≡ true → reply ≡ Done
is_Done Done h = refl
is_Done _ h = cc

done_open : (s : State) (event : SetEvent) → is_done (reply_to s event) ≡ true → open_in s ≡ []
unfolding reply_to
done_open s (Draw e) h = (draw_done s e).0 (is_Done (reply_to s (Draw e)) h)
done_open s (Confirm e) h = absurd (false≢true (sym (confirm_goes_on s (held_by e s.held)) ∙ h))
done_open s (Row e name r) h = absurd (false≢true (sym (row_goes_on s (held_by e s.held) r) ∙ h))
done_open s (Leave e) h = absurd (false≢true h)

-- ---- in a history

done_closes : (s : State) (es : List SetEvent) → IsValid s → list_all (λ event. is_expert (expert_of event)) es ≡ true
    → list_all (has_row_of_width s.context.width) es ≡ true
    → list_any (λ entry. is_done entry.reply) (journal_of s es) ≡ true → open_in (state_after s es) ≡ []
unfolding state_after journal_of
done_closes s [] v i w h = absurd (false≢true h)
done_closes s (event ∷ es) v i w h = elim (cases_Bool (is_done (reply_to s event))) [
  | inl t ↦ (run_done s v (done_open s event t) (event ∷ es) i w).2
  | inr f ↦
      let is = and_parts (is_expert (expert_of event)) (list_all (λ event. is_expert (expert_of event)) es) i in
      let ws = and_parts (has_row_of_width s.context.width event) (list_all (has_row_of_width s.context.width) es) w in
      done_closes (next s event) es (next_valid s v event is.0) is.1
      (subst (λ n. list_all (has_row_of_width n) es ≡ true) (sym (next_width s event)) ws.1)
      (subst (λ b. (b || list_any (λ entry. is_done entry.reply) (journal_of (next s event) es)) ≡ true) f h)
]

list_any-filter : {X : Type 0} (p q : X → Bool) (xs : List X) → list_any p (filter q xs) ≡ true → list_any p xs ≡ true
list_any-filter p q xs h = elim (cases_Bool (list_all (λ x. not (p x)) xs)) [
  | inl t ↦ absurd (false≢true (sym (list_any-not p (filter q xs) ∙ ap not (list_all-filter_kept (λ x. not (p x)) q xs t)) ∙ h))
  | inr f ↦ list_any-not p xs ∙ ap not f
]

ends_any : (entries : List SetEntry) → ends_done entries ≡ true → list_any (λ entry. is_done entry.reply) entries ≡ true
ends_any [] h = h
ends_any (entry ∷ []) h = or_left (is_done entry.reply) false h
ends_any (entry ∷ other ∷ rest) h = or_right (is_done entry.reply) (list_any (λ entry. is_done entry.reply) (other ∷ rest))
    (ends_any (other ∷ rest) h)

-- where the last reply to an expert is Done, no question is open after the history
pub done_leaves_none : (s : State) (H : List SetEntry) (e : ℕ) → IsValid s → IsLegal s H → ends_done (own H e) ≡ true
    → open_in (state_after s (events_of H)) ≡ []
done_leaves_none s H e v legal h =
    let events = legal_events s H legal in
    done_closes s (events_of H) v events.0 events.1
    (subst (λ J. list_any (λ entry. is_done entry.reply) J ≡ true) (sym legal.replayed)
    (list_any-filter (λ entry. is_done entry.reply) (λ entry. expert_of entry.event == e) H (ends_any (own H e) h)))
