-- What the laws of oracles say of an exploration at a gate. Each oracle's share in the history is its own entries, so they are few; and
-- with few attributes they are fewer than its turns. Where all tables have one context, a number of no expert has no entry, and stands
-- for an expert of any such table.
use Rattle.std.proofs.Common.{◌≡◌, ℕ, zero, suc, ◌+◌, ◌-◌, ◌*◌, ◌<◌, ◌≤◌, ◌⊎◌, ◌↔◌, Bool, true, false, Option, Some, None, List, [], ◌∷◌}
use Rattle.std.proofs.Common.{◌++◌}
use Rattle.std.proofs.Common.{length, get_or, slice_get, All, inl, inr, refl, sym, ap, ◌∙◌, subst, arith, le-leb, leb}
use Rattle.std.proofs.lemmas.Bool.{cases_Bool, cases_lt, and_from, and_parts, leb-true, false≢true}
use Rattle.std.proofs.lemmas.List.{get_or_past}
use Rattle.std.proofs.lemmas.Option.{get_or_from_slice_get, slice_get_within, slice_get-get_or}
use Rattle.fca_model.specs.declared.Event.TheVariants.{Draw}
use Rattle.fca_model.specs.declared.TheConstants.{MAX_EXPERTS, MAX_SURVEYED, MAX_TURNS}
use Rattle.fca_model.specs.Context.{Context}
use Rattle.fca_model.specs.Tables.{NamedContext}
use Rattle.fca_model.specs.Pseudo.{basis_known}
use Rattle.fca_model.specs.Invariant.{IsValid, SameMembers, rows_respect}
use Rattle.fca_model.specs.Implications.{Rule, holds}
use Rattle.fca_model.specs.Questions.{open_questions}
use Rattle.std.specs.List.{list_all}
use Rattle.fca_model.specs.Exploration.{State, Settings, SetEntry, opening, open_in, state_after, events_of, is_expert, own, IsLegal}
use Rattle.fca_model.proofs.CourseLemmas.{run_settings}
use Rattle.fca_model.proofs.ClosureLemmas.{known_hold}
use Rattle.implication_closure.specs.Closing.{HaveWidth}
use Rattle.explore_state.specs.History.{Opening, ExploreModel, opening_state, state_of, open_of}
use Rattle.explore_state.proofs.OpenLemmas.{wide_conclusions}
use Rattle.oracle_expert.specs.Counts.{answers_recorded_in, dropped_count}
use Rattle.oracle_expert.specs.Oracles.{Recall, no_conflict}
use Rattle.oracle_expert.specs.Runs.{IsOracleFront, ends_done, conflicts_of}
use Rattle.oracle_expert.proofs.CountLemmas.{oracle_turns, call_turns, oracle_few}
use Rattle.oracle_expert.proofs.DrawLemmas.{draws_apart}
use Rattle.oracle_expert.specs.Intents.{HasIntentsOf, are_intents}
use Rattle.oracle_expert.proofs.IntentLemmas.{of_intents, intents_among, known-intents, one_basis-intents}
use Rattle.oracle_expert.proofs.LikeLemmas.{IsLike, like_itself, like_intents, nothing_dropped, one_basis, one_accepted}
use Rattle.oracle_expert.proofs.RunLemmas.{IsOracles, oracle_runs}
use Rattle.turn_lock.specs.Passes.{Badge}
use Rattle.expert_panel.specs.declared.seat.Seat.{Seat}
use Rattle.expert_panel.specs.declared.end.SeatEnd.{SeatEnd}
use Rattle.expert_panel.specs.declared.end.SeatEnd.TheVariants.{Done, Spent, Memory}
use Rattle.expert_panel.specs.Seats.{IsEnd}
use Rattle.expert_panel.specs.Explorations.{IsOraclesShare, EachNumbered, HasFewRows, most_turns, most_turns_between, IsWithinMostTurns}
use Rattle.expert_panel.specs.Explorations.{HasMadeAtMost, SeatsTurns, HasAgreed, HasEvenRows}
use Rattle.expert_panel.proofs.ShareLemmas.{Run}

-- the rows of a new exploration respect what is known
pub respecting_new : (h : ExploreModel) → h.journal ≡ [] → IsValid (state_of h)
    → rows_respect h.opening.settings.known h.opening.table.context ≡ true
unfolding state_after
respecting_new h new v = (subst (λ (J : List SetEntry). IsValid (state_after (opening_state h.opening) (events_of J))) new v).known

-- what the rows of a context respect holds there
pub known_holds : (S : List Rule) (C : Context) (n : ℕ) → HaveWidth n S → C.width ≡ n → rows_respect S C ≡ true
    → list_all (holds C) S ≡ true
known_holds S C n even wide respecting = known_hold S C (wide_conclusions C.width S (subst (λ k. HaveWidth k S) (sym wide) even)) respecting

module _ (o : Opening) (H : List SetEntry) (turns : ℕ) (oracles : List Recall)
    (respecting : rows_respect o.settings.known o.table.context ≡ true) (most : o.settings.holders ≡ MAX_EXPERTS)
    (legal : IsLegal (opening_state o) H) (count : length oracles ≤ MAX_EXPERTS)
    (shares : EachNumbered (IsOraclesShare turns H) oracles) where
  abbrev K : Context
  K = o.table.context

  abbrev first : State
  first = opening_state o

  is_number : (k : ℕ) (oracle : Recall) → slice_get oracles k ≡ Some oracle → is_expert (k + 1) ≡ true
  is_number k oracle at =
      let within = slice_get_within oracles k oracle at in
      and_from (leb 1 (k + 1)) (leb (k + 1) MAX_EXPERTS) (le-leb 1 (k + 1) (omega arith)) (le-leb (k + 1) MAX_EXPERTS (omega arith))

  pub within_turns : EachNumbered (IsWithinMostTurns H) oracles
  within_turns = λ k oracle at.
      let share = shares k oracle at in
      subst (λ (cs : List (Option ℕ)). length (own H (k + 1)) ≤ 2 * answers_recorded_in H + dropped_count cs + 1) (sym share.conflicts)
      (oracle_turns K o.table.objects o.settings H respecting most legal oracle.table (k + 1) (is_number k oracle at) []
      (own H (k + 1)) refl share.front)

  -- with few attributes each has its last reply Done
  done_by_few : (k : ℕ) (oracle : Recall) → slice_get oracles k ≡ Some oracle → HasFewRows oracle → turns ≡ MAX_TURNS
      → K.width ≤ MAX_SURVEYED → ends_done (own H (k + 1)) ≡ true
  done_by_few k oracle at small many narrow = by_end (shares k oracle at).end
    where
      by_end : (ends_done (own H (k + 1)) ≡ true) ⊎ ((ends_done (own H (k + 1)) ≡ false) × (length (own H (k + 1)) ≡ turns))
          → ends_done (own H (k + 1)) ≡ true
      by_end (inl done) = done
      by_end (inr all) =
          let few : length (own H (k + 1)) < MAX_TURNS =
          oracle_few K o.table.objects o.settings H respecting most legal oracle.table (k + 1) (is_number k oracle at) []
          (own H (k + 1)) refl (shares k oracle at).front narrow small in
          let taken = all.1 in
          absurd (omega arith)

  pub never_spent : (spent : Bool) → (spent ≡ true) ↔ ((e : ℕ) × (1 ≤ e) × (e ≤ length oracles) × (ends_done (own H e) ≡ false))
      → All HasFewRows oracles → turns ≡ MAX_TURNS → K.width ≤ MAX_SURVEYED → spent ≡ false
  never_spent spent when small many narrow = elim (cases_Bool spent) [
    | inr f ↦ f
    | inl t ↦ (let e = when.0 t in absurd (none_undone e.0 e.1 e.2 e.3))
  ]
    where
      none_undone : (e : ℕ) → 1 ≤ e → e ≤ length oracles → ends_done (own H e) ≡ false → ⊥
      none_undone zero from to h = omega arith
      none_undone (suc k) from to h =
          let oracle = get_or oracles k (record { table = o.table; conflicts = []; given = None }) in
          let next : k + 1 ≡ suc k = omega arith in
          let done : ends_done (own H (k + 1)) ≡ true =
          done_by_few k oracle (slice_get-get_or oracles k (record { table = o.table; conflicts = []; given = None }) (omega arith))
          (small k (record { table = o.table; conflicts = []; given = None }) (omega arith)) many narrow in
          false≢true (sym h ∙ subst (λ (n : ℕ). ends_done (own H n) ≡ true) next done)

  -- ---- tables with the intents of one context

  module _ (C : Context) (wide : C.width ≡ K.width) (part : are_intents C K.rows ≡ true)
      (known : list_all (holds C) o.settings.known ≡ true)
      (same : All (λ (oracle : Recall). HasIntentsOf C oracle.table.context) oracles) (even : All HasEvenRows oracles)
      (others : (e : ℕ) → (e ≡ 0) ⊎ (length oracles < e) → own H e ≡ []) where
    abbrev all : Context
    all = of_intents C

    -- an oracle of all intents that knows no names
    abbrev bare : Recall
    bare = record { table = record { title = None; objects = []; attributes = []; context = all }; conflicts = []; given = None }

    abbrev oracle_of : ℕ → Recall
    oracle_of zero = bare
    oracle_of (suc k) = get_or oracles k bare

    abbrev table_of : ℕ → NamedContext
    table_of e = (oracle_of e).table

    alike : (e : ℕ) → IsLike all (table_of e).context
    alike zero = like_itself all
    alike (suc k) = elim (cases_lt k (length oracles)) [
      | inl lt ↦ like_intents C (get_or oracles k bare).table.context (same k bare lt) (even k bare lt)
      | inr ge ↦ subst (λ (r : Recall). IsLike all r.table.context) (sym (get_or_past oracles k bare ge)) (like_itself all)
    ]

    no_entries : (e : ℕ) → own H e ≡ [] → IsOracleFront (table_of e) e (own H e)
    no_entries e none = subst (IsOracleFront (table_of e) e) (sym none) tt

    fronts : (e : ℕ) → IsOracleFront (table_of e) e (own H e)
    fronts zero = no_entries zero (others zero (inl refl))
    fronts (suc k) = elim (cases_lt k (length oracles)) [
      | inl lt ↦
          let next : k + 1 ≡ suc k = omega arith in
          let front = (shares k (get_or oracles k bare) (slice_get-get_or oracles k bare lt)).front in
          subst (λ (n : ℕ). IsOracleFront (get_or oracles k bare).table n (own H n)) next front
      | inr ge ↦ no_entries (suc k) (others (suc k) (inr (omega arith)))
    ]

    none_dropped : All (λ (oracle : Recall). oracle.conflicts ≡ no_conflict oracle.table) oracles
    none_dropped k d within =
        let oracle = get_or oracles k d in
        let at = slice_get-get_or oracles k d within in
        let next : k + 1 ≡ suc k = omega arith in
        let mine : get_or oracles k bare ≡ oracle = get_or_from_slice_get oracles k oracle bare at in
        (shares k oracle at).conflicts ∙ ap (λ (n : ℕ). conflicts_of oracle.table (own H n)) next
        ∙ ap (λ (r : Recall). conflicts_of r.table (own H (suc k))) (sym mine)
        ∙ nothing_dropped all table_of alike K o.table.objects o.settings H respecting most
        (known-intents C o.settings.known known) legal wide (intents_among C K.rows part) fronts (suc k)
        ∙ ap (λ (r : Recall). no_conflict r.table) mine

    pub agreed : (explore : ExploreModel) (spent : Bool) → explore.opening ≡ o → explore.journal ≡ H → (spent ≡ false → open_of explore ≡ [])
        → HasAgreed C explore oracles spent
    agreed explore spent opened journal finished =
        let final : State = state_after first (events_of H) in
        let is : state_of explore ≡ final = ap (λ (p : Opening). state_after (opening_state p) (events_of explore.journal)) opened
        ∙ ap (λ (J : List SetEntry). state_after (opening_state o) (events_of J)) journal in
        let settings : explore.opening.settings ≡ o.settings = ap (λ (p : Opening). p.settings) opened in
        let done : spent ≡ false → open_in final ≡ [] = λ h.
        ap (λ (S : Settings). open_questions S.known final.context final.accepted) (run_settings first (events_of H) ∙ sym settings)
        ∙ ap (λ (t : State). open_questions explore.opening.settings.known t.context t.accepted) (sym is) ∙ finished h in
        record {
          kept = none_dropped;
          accepted = λ h.
              subst (λ (S : Settings). SameMembers (state_of explore).accepted (basis_known S.known C)) (sym settings)
              (subst (λ (t : State). SameMembers t.accepted (basis_known o.settings.known C)) (sym is) (λ p.
              one_accepted all table_of alike K o.table.objects o.settings H respecting most
              (known-intents C o.settings.known known) legal wide (intents_among C K.rows part) fronts (done h) p
              ∙ ap (list_all p) (one_basis-intents o.settings.known C)));
          basis = λ h.
              subst (λ (S : Settings). basis_known S.known (state_of explore).context ≡ basis_known S.known C) (sym settings)
              (ap (λ (t : State). basis_known o.settings.known t.context) is
              ∙ one_basis all table_of alike K o.table.objects o.settings H respecting most
              (known-intents C o.settings.known known) legal wide (intents_among C K.rows part) fronts (done h)
              ∙ one_basis-intents o.settings.known C);
        }

-- ---- one seat

module _ (o : Opening) (old new : Seat Recall) (respecting : rows_respect o.settings.known o.table.context ≡ true)
    (most : o.settings.holders ≡ MAX_EXPERTS) (run : Run o old new) (H : List SetEntry) (legal : IsLegal (opening_state o) H)
    (i : is_expert new.pass.number ≡ true) (owns : own H new.pass.number ≡ new.pass.own) where
  same_number : new.pass.number ≡ old.pass.number
  same_number = ap (λ (b : Badge Opening). b.number) run.attended.pass.same

  is : is_expert old.pass.number ≡ true
  is = subst (λ (n : ℕ). is_expert n ≡ true) same_number i

  own_is : own H old.pass.number ≡ old.pass.own ++ run.attended.entries
  own_is = ap (own H) (sym same_number) ∙ owns ∙ run.attended.pass.own

  by_end : (bound : ℕ) (end : SeatEnd) → new.ended ≡ Some end → IsEnd end old.pass run.attended.entries new.pass
      → length run.attended.entries ≤ bound → HasMadeAtMost bound old new
  by_end n Done e end few = inl (let took = end.1 in omega arith)
  by_end n Spent e end few = inl (let took = end.1 in omega arith)
  by_end n Memory e end few = elim end.1 [
    | inl took ↦ inl (let made = took.0 in omega arith)
    | inr took ↦ inr (e, omega arith)
  ]

  pub turns_between : HasMadeAtMost (most_turns_between H old.expert new.expert) old new
  turns_between =
      by_end (most_turns_between H old.expert new.expert) run.end run.ended run.attended.end
      (call_turns o.table.context o.table.objects o.settings H respecting most legal old.pass.number is old.expert new.expert old.pass.own
      run.attended.entries own_is run.attended.run)

  -- where nothing was dropped before
  pub turns_of_seat : old.expert.conflicts ≡ no_conflict old.expert.table → SeatsTurns H old new
  turns_of_seat free =
      let D = old.expert.table in
      let entries = run.attended.entries in
      let oracles : IsOracles D old.pass.number (record { due = None; conflicts = no_conflict D }) entries new.expert =
      oracle_runs D old.pass.number None (no_conflict D) old.expert entries new.expert refl free run.attended.run in
      by_end (most_turns H new.expert) run.end run.ended run.attended.end
      (subst (λ (cs : List (Option ℕ)). length entries ≤ 2 * answers_recorded_in H + dropped_count cs + 1) (sym oracles.conflicts)
      (oracle_turns o.table.context o.table.objects o.settings H respecting most legal D old.pass.number is old.pass.own entries own_is
      oracles.run))

  pub draws_of_seat : (before between after : List SetEntry) (first second : SetEntry) → H ≡ before ++ (first ∷ between ++ second ∷ after)
      → length old.pass.own ≤ length (own before old.pass.number)
      → first.event ≡ Draw old.pass.number → second.event ≡ Draw old.pass.number → 1 ≤ answers_recorded_in between
  draws_of_seat = draws_apart o.table.context o.table.objects o.settings H respecting most legal old.pass.number is old.expert new.expert
      old.pass.own run.attended.entries own_is run.attended.run
