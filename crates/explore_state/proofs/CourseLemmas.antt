-- What the course of an exploration shows a caller: the rows of the table stay in front, and where no question
-- is open the accepted implications are the basis beside what is known.
use Rattle.std.proofs.Common.{◌≡◌, ◌≢◌, ℕ, Bool, true, false, cond, Option, Some, None, List, [], ◌∷◌, ◌++◌, refl, sym, ap, ◌∙◌, subst}
use Rattle.std.proofs.Common.{append-nil, ◌↔◌}
use Rattle.std.proofs.lemmas.List.{append_assoc}
use Rattle.std.specs.List.{list_all}
use Rattle.fca_model.specs.declared.Event.TheVariants.{Draw, Leave}
use Rattle.fca_model.specs.declared.Reply.TheVariants.{Ask, Done, AllHeld}
use Rattle.fca_model.specs.declared.TheConstants.{MAX_EXPERTS}
use Rattle.fca_model.specs.Sets.{Set, within}
use Rattle.fca_model.specs.Context.{Context, closure}
use Rattle.fca_model.specs.Implications.{Rule, holds}
use Rattle.fca_model.specs.Questions.{open_questions}
use Rattle.fca_model.specs.Invariant.{is_member, Among, IsAccepted}
use Rattle.fca_model.specs.Exploration.{State, Settings, SetHold, SetEvent, SetEntry, open_in, given_back, draw_reply, all_held, least_held}
use Rattle.fca_model.specs.Exploration.{asked, reply_to, next, state_after, events_of}
use Rattle.fca_model.proofs.ListLemmas.{list_all-mono}
use Rattle.fca_model.proofs.SetLemmas.{within_refl}
use Rattle.fca_model.proofs.InvariantLemmas.{member_parts}
use Rattle.fca_model.proofs.StepLemmas.{by_change, draw_asks}
use Rattle.fca_model.proofs.ValidLemmas.{never_all_held}
use Rattle.fca_model.proofs.RunLemmas.{legal_events}
use Rattle.fca_model.proofs.CourseLemmas.{exploration_count, draw_done, run_width}
use Rattle.fca_model.proofs.DoneLemmas.{accepted_members, accepted_length, accepted_sorted, accepted_complete, accepted_least}
use Rattle.explore_state.specs.History.{Opening, opening_state, Admits}
use Rattle.explore_state.specs.Kept.{IsKept}
use Rattle.explore_state.specs.Basis.{IsBasisBeside, HasRecordedRows}
use Rattle.explore_state.proofs.KeptLemmas.{kept_settings, kept_known, kept_opened, kept_valid, admitted_expert}

-- ---- the rows

next_rows : (s : State) (event : SetEvent) → (rows : List Set) × ((next s event).context.rows ≡ s.context.rows ++ rows)
next_rows s event =
    let same : (rows : List Set) × (s.context.rows ≡ s.context.rows ++ rows) = ([], sym (append-nil s.context.rows)) in
    by_change s event (λ t. (rows : List Set) × (t.context.rows ≡ s.context.rows ++ rows)) same same (λ _ _. same) (λ _ _ _ _. same)
    (λ name r q _ _ _ _ _. (r ∷ [], refl))

run_rows : (s : State) (events : List SetEvent) → (rows : List Set) × ((state_after s events).context.rows ≡ s.context.rows ++ rows)
unfolding state_after
run_rows s [] = ([], sym (append-nil s.context.rows))
run_rows s (event ∷ events) =
    let one = next_rows s event in
    let more = run_rows (next s event) events in
    (one.0 ++ more.0, more.1 ∙ ap (λ rows. rows ++ more.0) one.1 ∙ append_assoc s.context.rows one.0 more.0)

-- ---- what callers see

module _ (o : Opening) (J : List SetEntry) (K : Context) (acc : List Rule) (hs : List SetHold) (kept : IsKept o J K acc hs) where
  abbrev now : State
  now = state_after (opening_state o) (events_of J)

  abbrev S : List Rule
  S = o.settings.known

  opened : open_in now ≡ open_questions S now.context now.accepted
  opened = ap (λ T. open_questions T now.context now.accepted) (kept_known o J K acc hs kept)

  pub draw_is_done : (e : ℕ) → (reply_to now (Draw e) ≡ Done) ↔ (open_questions S now.context now.accepted ≡ [])
  draw_is_done e = (λ h. sym opened ∙ (draw_done now e).0 h, λ none. (draw_done now e).1 (opened ∙ none))

  pub draw_is_open : (e : ℕ) (q : Rule) → reply_to now (Draw e) ≡ Ask q → Among (open_questions S now.context now.accepted) q
  unfolding reply_to
  draw_is_open e q h = subst (λ L. Among L q) opened (draw_asks now.settings.holders (given_back e now.held) (open_in now) q h)

  pub draw_is_free : o.settings.holders ≡ MAX_EXPERTS → (e : ℕ) → Admits o (Draw e) → reply_to now (Draw e) ≢ AllHeld
  draw_is_free most e ok = never_all_held now (kept_valid o J K acc hs kept)
      (ap (λ (t : Settings). t.holders) (kept_settings o J K acc hs kept) ∙ most) e (admitted_expert o J K acc hs kept (Draw e) ok)

  pub accepted_is : IsAccepted S now.context now.accepted
  accepted_is = subst (λ T. IsAccepted T now.context now.accepted) (kept_known o J K acc hs kept) (kept_valid o J K acc hs kept).accepted

  pub accepted_hold : list_all (holds now.context) now.accepted ≡ true
  accepted_hold = list_all-mono (is_member S now.context) (holds now.context) (λ i m.
      subst (λ C. within C (closure now.context i.premise) ≡ true)
      (sym (ap (λ (j : Rule). j.conclusion) (member_parts S now.context i m).2)) (within_refl (closure now.context i.premise)))
      now.accepted accepted_is.members

  pub basis_is : list_all (holds now.context) S ≡ true → open_questions S now.context now.accepted ≡ []
      → IsBasisBeside S now.context now.accepted
  basis_is known done = record {
    members = accepted_members S now.context now.accepted accepted_is done;
    once = accepted_length S now.context now.accepted accepted_is done;
    sorted = accepted_sorted S now.context now.accepted accepted_is done;
    complete = accepted_complete S now.context now.accepted accepted_is done known;
    least = accepted_least S now.context now.accepted accepted_is done known;
  }

  pub recorded_is : HasRecordedRows o.table.context now.context now.accepted
  recorded_is =
      let rows = run_rows (opening_state o) (events_of J) in
      record {
        recorded = rows.0;
        rows = rows.1;
        width = run_width (opening_state o) (events_of J);
        count = exploration_count (opening_state o) (kept_opened o J K acc hs kept) (events_of J)
            (legal_events (opening_state o) J kept.legal).0 rows.0 rows.1;
      }
