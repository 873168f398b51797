-- What the parts of an exploration show of its state, and how one event keeps it. The journal is legal, so the state after it is valid;
-- the reply is read off the settings, the rows, the accepted implications and the holds.
use Rattle.std.proofs.Common.{◌≡◌, ℕ, true, Some, None, List, [], ◌∷◌, ◌++◌, leb, le-leb, leb-true, refl, sym, ap, ap₂, ◌∙◌, subst, arith}
use Rattle.std.proofs.lemmas.Bool.{and_parts, and_from}
use Rattle.fca_model.specs.declared.Event.TheVariants.{Draw, Confirm, Row, Leave}
use Rattle.fca_model.specs.declared.Reply.TheVariants.{NotHeld, Left}
use Rattle.fca_model.specs.declared.TheConstants.{MAX_EXPERTS}
use Rattle.fca_model.specs.Sets.{Set}
use Rattle.fca_model.specs.Context.{Context}
use Rattle.fca_model.specs.Implications.{Rule, respects_all}
use Rattle.fca_model.specs.Questions.{open_questions}
use Rattle.fca_model.specs.Invariant.{IsValid, rows_respect}
use Rattle.fca_model.specs.Exploration.{State, Settings, RowName, rules_of, held_by, confirm_reply, row_reply, SetHold, SetEvent, SetEntry}
use Rattle.fca_model.specs.Exploration.{SetReply}
use Rattle.fca_model.specs.Exploration.{plain, open_in, given_back, draw_reply, reply_to, after, next, state_after, events_of, expert_of}
use Rattle.fca_model.specs.Exploration.{has_row_of_width}
use Rattle.fca_model.specs.Exploration.{is_expert, IsLegal}
use Rattle.fca_model.proofs.ListLemmas.{list_all_from}
use Rattle.fca_model.proofs.ValidLemmas.{opening_valid}
use Rattle.fca_model.proofs.RunLemmas.{state_after-push, events_of-push, legal_none, legal_push, legal_valid}
use Rattle.fca_model.proofs.CourseLemmas.{run_settings, run_width}
use Rattle.explore_state.specs.History.{Opening, opening_state, Admits}
use Rattle.explore_state.specs.Kept.{IsShown, IsKept, IsDue}

-- with nothing known, what holds at the opening
pub opened_valid : (o : Opening) → o.settings ≡ plain → IsValid (opening_state o)
opened_valid o p = opening_valid o.table.context o.table.objects o.settings
    (subst (λ (t : Settings). rows_respect t.known o.table.context ≡ true) (sym p)
    (list_all_from (respects_all []) (λ row. refl) o.table.context.rows))

pub kept_opening : (o : Opening) (J : List SetEntry) (K : Context) (acc : List Rule) (hs : List SetHold) → is_expert o.experts ≡ true
    → rows_respect o.settings.known o.table.context ≡ true
    → J ≡ [] → K ≡ o.table.context → acc ≡ [] → hs ≡ [] → IsKept o J K acc hs
unfolding state_after
kept_opening o J K acc hs e respecting no_entry rows nothing none = subst (λ H. IsKept o H K acc hs) (sym no_entry) (record {
  shown = record { context = sym rows; accepted = sym nothing; held = sym none };
  legal = legal_none (opening_state o);
  experts = e;
  known = respecting;
})

module _ (o : Opening) (J : List SetEntry) (K : Context) (acc : List Rule) (hs : List SetHold) (kept : IsKept o J K acc hs) where
  abbrev s : State
  s = state_after (opening_state o) (events_of J)

  -- an expert of the exploration is one of any
  pub admitted_expert : (event : SetEvent) → Admits o event → is_expert (expert_of event) ≡ true
  admitted_expert event ok =
      let most = leb-true o.experts MAX_EXPERTS (and_parts (leb 1 o.experts) (leb o.experts MAX_EXPERTS) kept.experts).1 in
      let first = ok.first in
      let last = ok.last in
      and_from (leb 1 (expert_of event)) (leb (expert_of event) MAX_EXPERTS) (le-leb 1 (expert_of event) first)
      (le-leb (expert_of event) MAX_EXPERTS (omega arith))

  pub kept_width : K.width ≡ o.table.context.width
  kept_width = ap (λ (L : Context). L.width) (sym kept.shown.context) ∙ run_width (opening_state o) (events_of J)

  pub kept_settings : s.settings ≡ o.settings
  kept_settings = run_settings (opening_state o) (events_of J)

  pub kept_known : s.settings.known ≡ o.settings.known
  kept_known = ap (λ (t : Settings). t.known) kept_settings

  pub kept_rules : rules_of s ≡ o.settings.known ++ acc
  kept_rules = ap₂ (λ S A. S ++ A) kept_known kept.shown.accepted

  pub kept_opened : IsValid (opening_state o)
  kept_opened = opening_valid o.table.context o.table.objects o.settings kept.known

  pub kept_valid : IsValid s
  kept_valid = legal_valid (opening_state o) J kept_opened kept.legal

  -- one entry more
  pub kept_push : (event : SetEvent) (reply : SetReply) (J' : List SetEntry) (K' : Context) (acc' : List Rule) (hs' : List SetHold)
      → Admits o event → reply ≡ reply_to s event
      → J' ≡ J ++ record { event = event; reply = reply } ∷ [] → IsShown (after s event reply) K' acc' hs' → IsKept o J' K' acc' hs'
  kept_push event reply J' K' acc' hs' ok is more shown =
      let entry : SetEntry = record { event = event; reply = reply } in
      let events : events_of J' ≡ events_of J ++ event ∷ [] = ap events_of more ∙ events_of-push J entry in
      let moved : state_after (opening_state o) (events_of J') ≡ after s event reply =
      ap (state_after (opening_state o)) events ∙ state_after-push (opening_state o) (events_of J) event ∙ ap (after s event) (sym is) in
      record {
        shown = subst (λ t. IsShown t K' acc' hs') (sym moved) shown;
        legal = subst (IsLegal (opening_state o)) (sym (more ∙ ap (λ r. J ++ record { event = event; reply = r } ∷ []) is))
            (legal_push (opening_state o) J event kept.legal (admitted_expert event ok) ok.wide);
        experts = kept.experts;
        known = kept.known;
      }

-- one entry was put on a journal: one that equals this journal, with a reply that equals this reply
pub entry_put : (J roomy J' : List SetEntry) (event : SetEvent) (reply copy : SetReply)
    → J' ≡ roomy ++ record { event = event; reply = copy } ∷ [] → roomy ≡ J → copy ≡ reply
    → J' ≡ J ++ record { event = event; reply = reply } ∷ []
entry_put J roomy J' event reply copy put same again =
    put ∙ ap (λ (L : List SetEntry). L ++ record { event = event; reply = copy } ∷ []) same
    ∙ ap (λ (r : SetReply). J ++ record { event = event; reply = r } ∷ []) again

-- the state moves by one step
pub state_moves : (s : State) (J J' : List SetEntry) (event : SetEvent) (reply : SetReply)
    → J' ≡ J ++ record { event = event; reply = reply } ∷ [] → state_after s (events_of J') ≡ next (state_after s (events_of J)) event
state_moves s J J' event reply more =
    let entry : SetEntry = record { event = event; reply = reply } in
    ap (state_after s) (ap events_of more ∙ events_of-push J entry) ∙ state_after-push s (events_of J) event

-- ---- the reply, read off what the state shows

module _ (o : Opening) (J : List SetEntry) (K : Context) (acc : List Rule) (hs : List SetHold) (kept : IsKept o J K acc hs) where
  abbrev now : State
  now = state_after (opening_state o) (events_of J)

  known : now.settings.known ≡ o.settings.known
  known = kept_known o J K acc hs kept

  pub reply_to-draw : (e : ℕ) → reply_to now (Draw e) ≡ draw_reply o.settings.holders (given_back e hs)
      (open_questions o.settings.known K acc)
  unfolding reply_to
  reply_to-draw e =
      ap (λ n. draw_reply n (given_back e now.held) (open_in now)) (ap (λ (t : Settings). t.holders) (kept_settings o J K acc hs kept))
      ∙ ap (λ gs. draw_reply o.settings.holders (given_back e gs) (open_in now)) kept.shown.held
      ∙ ap (λ S. draw_reply o.settings.holders (given_back e hs) (open_questions S now.context now.accepted)) known
      ∙ ap₂ (λ L A. draw_reply o.settings.holders (given_back e hs) (open_questions o.settings.known L A)) kept.shown.context
      kept.shown.accepted

  pub reply_to-confirm : (e : ℕ) (q : Rule) (r : SetReply) → held_by e hs ≡ Some q
      → ((t : State) → t.context ≡ K → t.accepted ≡ acc → t.settings.known ≡ o.settings.known → r ≡ confirm_reply t (Some q))
      → r ≡ reply_to now (Confirm e)
  unfolding reply_to
  reply_to-confirm e q r held is = is now kept.shown.context kept.shown.accepted known
      ∙ sym (ap (confirm_reply now) (ap (held_by e) kept.shown.held ∙ held))

  pub reply_to-confirm_none : (e : ℕ) → held_by e hs ≡ None → NotHeld ≡ reply_to now (Confirm e)
  unfolding reply_to
  reply_to-confirm_none e held = sym (ap (confirm_reply now) (ap (held_by e) kept.shown.held ∙ held))

  pub reply_to-row : (e : ℕ) (name : RowName) (row : Set) (q : Rule) (r : SetReply) → held_by e hs ≡ Some q
      → ((t : State) → t.context ≡ K → rules_of t ≡ o.settings.known ++ acc → r ≡ row_reply t (Some q) row)
      → r ≡ reply_to now (Row e name row)
  unfolding reply_to
  reply_to-row e name row q r held is = is now kept.shown.context (kept_rules o J K acc hs kept)
      ∙ sym (ap (λ m. row_reply now m row) (ap (held_by e) kept.shown.held ∙ held))

  pub reply_to-row_none : (e : ℕ) (name : RowName) (row : Set) → held_by e hs ≡ None → NotHeld ≡ reply_to now (Row e name row)
  unfolding reply_to
  reply_to-row_none e name row held = sym (ap (λ m. row_reply now m row) (ap (held_by e) kept.shown.held ∙ held))

  pub reply_to-leave : (e : ℕ) → Left ≡ reply_to now (Leave e)
  unfolding reply_to
  reply_to-leave e = refl

  -- an event that is admitted is due its reply
  pub kept_due : (event : SetEvent) (reply : SetReply) → Admits o event → reply ≡ reply_to now event
      → IsDue o.settings.known K acc hs event reply
  kept_due event reply ok is = record {
    state = now;
    shown = kept.shown;
    known = known;
    valid = kept_valid o J K acc hs kept;
    expert = admitted_expert o J K acc hs kept event ok;
    wide = subst (λ n. has_row_of_width n event ≡ true) (sym (kept_width o J K acc hs kept)) ok.wide;
    reply = is;
  }
