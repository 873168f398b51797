-- What is promised of an exploration follows from the laws of its steps: each front of a legal history is one too, and so each
-- reply is the one at its moment.
use Rattle.std.proofs.Common.{◌≡◌, ◌↔◌, ◌++◌, ◌∷◌, [], ℕ, Bool, List, Option, Some, None, cond, length, eqb, nat_le, true, false, refl, sym}
use Rattle.std.proofs.Common.{◌==◌, ap, ◌∙◌, subst, append_assoc, append-nil}
use Rattle.std.proofs.lemmas.Bool.{and_parts}
use Rattle.std.specs.List.{list_all}
use Rattle.fca_model.specs.Tables.{NamedContext}
use Rattle.fca_model.specs.Exploration.{State, SetReply, SetEntry, SetHold, Settings, is_expert, open_in, given_back, holders_of, all_held}
use Rattle.fca_model.specs.Exploration.{least_held, asked, draw_reply, reply_to, state_after, events_of, expert_of, own, IsLegal}
use Rattle.fca_model.specs.declared.Event.TheVariants.{Draw}
use Rattle.fca_model.specs.declared.Reply.TheVariants.{Ask, AllHeld, Done}
use Rattle.fca_model.specs.Context.{Context}
use Rattle.fca_model.specs.Implications.{Rule, holds}
use Rattle.fca_model.specs.Invariant.{IsValid, rows_respect}
use Rattle.fca_model.proofs.ListLemmas.{list_all-mono, find_passes}
use Rattle.fca_model.proofs.ClosureLemmas.{known_hold}
use Rattle.fca_model.proofs.InvariantLemmas.{accepted_smallest}
use Rattle.fca_model.proofs.StepLemmas.{draw_asks}
use Rattle.fca_model.proofs.ValidLemmas.{opening_valid}
use Rattle.fca_model.proofs.RunLemmas.{legal_front, legal_reply, legal_valid}
use Rattle.fca_model.proofs.CourseLemmas.{draw_done, run_width}
use Rattle.implication_closure.specs.Closing.{has_width, HaveWidth}
use Rattle.explore_state.specs.History.{Opening, opening_state}
use Rattle.explore_state.specs.Kept.{IsKept}
use Rattle.explore_state.proofs.KeptLemmas.{kept_known, kept_valid}
use Rattle.explore_state.proofs.CourseLemmas.{basis_is}
use Rattle.command_io.specs.Explorations.{Exploration, opening_of, IsOnCourse, IsAsked, SeesLegalHistories, IsExplored}

-- ---- moments

moment-then : (s : State) (H before after : List SetEntry) → IsValid s → IsLegal s H → H ≡ before ++ after
    → IsOnCourse (state_after s (events_of before))
moment-then s H before after valid legal split =
    let now : State = state_after s (events_of before) in
    let there : IsValid now = legal_valid s before valid (legal_front s before after (subst (IsLegal s) split legal)) in
    record { valid = there; smallest = accepted_smallest now.settings.known now.context now.accepted there.accepted }

-- ---- draws

-- what is asked is the question chosen
asks-chosen : (most : ℕ) (hs : List SetHold) (J : List Rule) (q : Rule) → draw_reply most hs J ≡ Ask q → least_held hs J ≡ Some q
asks-chosen most hs [] q h = absurd (cc)
asks-chosen most hs (i ∷ J) q h = go (all_held most hs (i ∷ J)) (least_held hs (i ∷ J)) refl h
  where
    go : (b : Bool) (o : Option Rule) → least_held hs (i ∷ J) ≡ o → cond b AllHeld (asked o) ≡ Ask q → least_held hs (i ∷ J) ≡ Some q
    go true o e h = absurd (cc)
    go false None e h = absurd (cc)
    go false (Some x) e h = let found : x ≡ q = cc in e ∙ ap Some found

draw-asked : (s : State) (e : ℕ) (q : Rule) → reply_to s (Draw e) ≡ Ask q → IsAsked s e q
unfolding reply_to
draw-asked s e q h =
    let hs = given_back e s.held in
    let chosen = asks-chosen s.settings.holders hs (open_in s) q h in record {
      among = draw_asks s.settings.holders hs (open_in s) q h;
      fewest = find_passes (λ i. list_all (λ j. nat_le (holders_of i.premise hs) (holders_of j.premise hs)) (open_in s))
          (open_in s) q chosen;
      first = chosen;
    }

-- the reply to an entry is the one at its moment
replied : (s : State) (H before after : List SetEntry) (entry : SetEntry) → IsLegal s H → H ≡ before ++ entry ∷ after
    → entry.reply ≡ reply_to (state_after s (events_of before)) entry.event
replied s H before after entry legal split =
    let joined = split ∙ sym (append_assoc before (entry ∷ []) after) in
    legal_reply s before entry (legal_front s (before ++ entry ∷ []) after (subst (IsLegal s) joined legal))

asked-then : (s : State) (H before after : List SetEntry) (e : ℕ) (q : Rule) → IsLegal s H
    → H ≡ before ++ record { event = Draw e; reply = Ask q } ∷ after
    → IsAsked (state_after s (events_of before)) e q
asked-then s H before after e q legal split =
    let entry : SetEntry = record { event = Draw e; reply = Ask q } in
    draw-asked (state_after s (events_of before)) e q (sym (replied s H before after entry legal split))

done-then : (s : State) (H before after : List SetEntry) (e : ℕ) (reply : SetReply) → IsLegal s H
    → H ≡ before ++ record { event = Draw e; reply = reply } ∷ after
    → (reply ≡ Done) ↔ (open_in (state_after s (events_of before)) ≡ [])
done-then s H before after e reply legal split =
    let entry : SetEntry = record { event = Draw e; reply = reply } in
    let output = replied s H before after entry legal split in
    let law = draw_done (state_after s (events_of before)) e in
    (λ done. law.0 (sym output ∙ done), λ none. output ∙ law.1 none)

-- ---- what an expert has seen

-- between what it has seen and what is left of the journal stand entries of others
sees-on : (r : Exploration) (e : ℕ) (seen between rest : List SetEntry) → IsLegal (opening_state r.opening) r.journal
    → r.journal ≡ (seen ++ between) ++ rest
    → SeesLegalHistories r seen (own rest e)
sees-on r e seen between [] legal split = (between, split ∙ append-nil (seen ++ between))
sees-on r e seen between (entry ∷ rest) legal split =
    let s : State = opening_state r.opening in
    let next : List SetEntry = (seen ++ between) ++ entry ∷ [] in
    let joined : r.journal ≡ next ++ rest = split ∙ sym (append_assoc (seen ++ between) (entry ∷ []) rest) in
    elim (expert_of entry.event == e) as (λ b. SeesLegalHistories r seen (cond b (entry ∷ own rest e) (own rest e))) [
      | true ↦ (
        between,
        legal_front s next rest (subst (IsLegal s) joined legal),
        sees-on r e next [] rest legal (joined ∙ ap (λ l. l ++ rest) (sym (append-nil next))),
      )
      | false ↦ sees-on r e seen (between ++ entry ∷ []) rest legal (joined ∙ ap (λ l. l ++ rest) (append_assoc seen between (entry ∷ [])))
    ]

-- ---- all that is promised

-- what every row respects, of sets as wide as the rows, holds
known_holds : (S : List Rule) (K : Context) → HaveWidth K.width S → rows_respect S K ≡ true → list_all (holds K) S ≡ true
known_holds S K wide respecting =
    known_hold S K (list_all-mono (has_width K.width) (λ i. eqb (length i.conclusion) K.width)
    (λ i w. (and_parts (eqb (length i.premise) K.width) (eqb (length i.conclusion) K.width) w).1) S wide) respecting

pub legal-course : (table : NamedContext) (experts : ℕ) (settings : Settings) (H : List SetEntry) → is_expert experts ≡ true
    → rows_respect settings.known table.context ≡ true → HaveWidth table.context.width settings.known
    → IsLegal (opening_state (opening_of table experts settings)) H
    → IsExplored (record { opening = opening_of table experts settings; journal = H })
legal-course table experts settings H expert respecting wide legal =
    let o : Opening = opening_of table experts settings in
    let s : State = opening_state o in
    let now : State = state_after s (events_of H) in
    let kept : IsKept o H now.context now.accepted now.held = record {
      shown = record { context = refl; accepted = refl; held = refl };
      legal = legal;
      experts = expert;
      known = respecting;
    } in
    let Respect : List Rule → Type 0 = λ S. rows_respect S now.context ≡ true in
    let Wide : ℕ → Type 0 = λ n. HaveWidth n settings.known in
    let known : list_all (holds now.context) settings.known ≡ true =
    known_holds settings.known now.context (subst Wide (sym (run_width s (events_of H))) wide)
    (subst Respect (kept_known o H now.context now.accepted now.held kept) (kept_valid o H now.context now.accepted now.held kept).known)
    in
    record {
      legal = legal;
      moments = λ before after split. moment-then s H before after
          (opening_valid table.context table.objects settings respecting) legal split;
      seen = λ e. sees-on (record { opening = o; journal = H }) e [] [] H legal refl;
      asked = λ before after e q split. asked-then s H before after e q legal split;
      done = λ before after e reply split. done-then s H before after e reply legal split;
      basis = λ none. basis_is o H now.context now.accepted now.held kept known none;
    }
