-- Oracles of tables that know the same: their rows are rows of one context, and what holds in one of them holds there. None of them ever
-- drops a row. For as long as that is so, a row that is given is a row of the context, and a question that is confirmed holds there. So all
-- that is accepted holds in the context, its rows respect it, and none breaks it. Once no question is open the accepted implications are
-- the basis of the recorded rows. They hold in the context and the recorded rows are rows of it, so both have one basis. For tables with
-- the same intents it is the context of all these.
use Rattle.std.proofs.Common.{◌≡◌, ℕ, zero, suc, ◌+◌, ◌<◌, Bool, true, false, not, ◌&&◌, ◌||◌, cond, eqb, eq-eqb, Option, Some, None, List}
use Rattle.std.proofs.Common.{[], ◌∷◌}
use Rattle.std.proofs.Common.{◌++◌, All, length, map, get_or, refl, sym, ap, ◌∙◌, subst, arith}
use Rattle.std.proofs.lemmas.Bool.{and_parts, and_from, or_left, or_right, false≢true, not-true, eqb-true}
use Rattle.std.proofs.lemmas.List.Folds.{list_all-append}
use Rattle.std.proofs.lemmas.Iterator.Adapters.{position_from-zero}
use Rattle.std.specs.List.{list_all, list_any, position_from, zip}
use Rattle.fca_model.specs.declared.TheConstants.{MAX_EXPERTS}
use Rattle.fca_model.specs.Sets.{Set, within, same}
use Rattle.fca_model.specs.Context.{Context, closure}
use Rattle.fca_model.specs.Tables.{NamedContext}
use Rattle.fca_model.specs.Implications.{Rule, rule, holds, respects, respects_all, refutes}
use Rattle.fca_model.specs.Pseudo.{basis_known}
use Rattle.fca_model.specs.Invariant.{IsValid, SameMembers, rows_respect}
use Rattle.fca_model.specs.Exploration.{State, Settings, RowName, SetEvent, SetReply, SetEntry, rules_of, open_in, reply_to, next, opening}
use Rattle.fca_model.specs.Exploration.{state_after, journal_of, events_of, expert_of, is_expert, IsLegal, own}
use Rattle.fca_model.proofs.ListLemmas.{and_true, list_all-mono}
use Rattle.fca_model.proofs.SetLemmas.{within_trans, same_refl}
use Rattle.fca_model.proofs.SortedLemmas.{at_member}
use Rattle.fca_model.proofs.ClosureLemmas.{closure_in_rows, respects_at, respects_from}
use Rattle.fca_model.proofs.ValidLemmas.{held_valid, unrefuted_holds, next_valid, opening_valid, run_valid}
use Rattle.fca_model.proofs.DoneLemmas.{accepted_members}
use Rattle.fca_model.proofs.AgreeLemmas.{agreeing_basis}
use Rattle.fca_model.proofs.CourseLemmas.{next_settings, next_width, run_settings, run_width}
use Rattle.fca_model.proofs.RunLemmas.{legal_events}
use Rattle.oracle_expert.specs.Intents.{HasIntentsOf}
use Rattle.oracle_expert.specs.Answers.{event_of}
use Rattle.oracle_expert.specs.Oracles.{Conflicts, no_conflict, is_counterexample, counterexample, answer_with}
use Rattle.oracle_expert.specs.Runs.{OracleMoment, IsOracleFront, OracleRunsFrom, event_due, moment_after, moment_at, conflicts_of}
use Rattle.oracle_expert.proofs.AnswerLemmas.{counterexample_is}
use Rattle.oracle_expert.proofs.IntentLemmas.{of_intents, of_intents-same, intents_among, holds-intents, rows_closed}
use Rattle.oracle_expert.proofs.TurnLemmas.{moment, draws, confirms, gives}
use Rattle.oracle_expert.proofs.CountLemmas.{Holding, held_new, held_by_other}

-- ---- lists

all_at : {X : Type 0} (p : X → Bool) (xs : List X) (i : ℕ) (d : X) → i < length xs → list_all p xs ≡ true → p (get_or xs i d) ≡ true
all_at p [] i d lt h = absurd (omega arith)
all_at p (x ∷ xs) zero d lt h = (and_parts (p x) (list_all p xs) h).0
all_at p (x ∷ xs) (suc i) d lt h = all_at p xs i d (omega arith) (and_parts (p x) (list_all p xs) h).1

none_from : {X : Type 0} (p : X → Bool) (k : ℕ) (xs : List X) → position_from p k xs ≡ None → list_any p xs ≡ false
none_from p k [] h = refl
none_from p k (x ∷ xs) h = go (p x) h (none_from p (k + 1) xs)
  where
    go : (b : Bool) → cond b (Some k) (position_from p (k + 1) xs) ≡ None → (position_from p (k + 1) xs ≡ None → list_any p xs ≡ false)
        → (b || list_any p xs) ≡ false
    go true h more = absurd (cc)
    go false h more = more h

-- ---- a table of which no row was dropped

free_rows : (q : Rule) (rows : List Set) → list_any (is_counterexample q) (zip rows (map (λ _. None) rows)) ≡ list_any
    (λ r. refutes r q) rows
free_rows q [] = refl
free_rows q (r ∷ rows) = ap (λ b. b || list_any (is_counterexample q) (zip rows (map (λ _. None) rows))) (and_true (refutes r q))
    ∙ ap (λ b. refutes r q || b) (free_rows q rows)

-- what is confirmed holds
confirmed : (T : NamedContext) (q : Rule) → length q.conclusion ≡ T.context.width → counterexample T (no_conflict T) q ≡ None
    → holds T.context q ≡ true
confirmed T q wide none =
    unrefuted_holds T.context q wide
    (sym (free_rows q T.context.rows) ∙ none_from (is_counterexample q) 0 (zip T.context.rows (no_conflict T))
    (sym (position_from-zero (is_counterexample q) (zip T.context.rows (no_conflict T))) ∙ none))

-- a row of a context respects what holds there
row_respects : (D : Context) (r : Set) (j : Rule) → list_any (same r) D.rows ≡ true → holds D j ≡ true → respects r j ≡ true
row_respects D r j there h =
    let closed = at_member (λ row. respects row (rule j.premise (closure D j.premise))) r D.rows there (closure_in_rows D j.premise) in
    respects_from r j (λ inside. within_trans j.conclusion (closure D j.premise) r h
    (respects_at r (rule j.premise (closure D j.premise)) closed inside))

-- ---- a table that knows no more than a context

-- the rows of T are rows of D, and what holds in T holds in D
pub record IsLike (D T : Context) : Type 0 where
  pub width : T.width ≡ D.width
  pub rows : list_all (λ row. list_any (same row) D.rows) T.rows ≡ true
  pub rules : (q : Rule) → holds T q ≡ true → holds D q ≡ true

all_among : (Ys Xs : List Set) → ((A : Set) → list_any (same A) Xs ≡ true → list_any (same A) Ys ≡ true)
    → list_all (λ row. list_any (same row) Ys) Xs ≡ true
all_among Ys [] up = refl
all_among Ys (X ∷ Xs) up =
    and_from (list_any (same X) Ys) (list_all (λ row. list_any (same row) Ys) Xs)
    (up X (or_left (same X X) (list_any (same X) Xs) (same_refl X)))
    (all_among Ys Xs (λ A h. up A (or_right (same A X) (list_any (same A) Xs) h)))

pub like_itself : (D : Context) → IsLike D D
like_itself D = record { width = refl; rows = all_among D.rows D.rows (λ A h. h); rules = λ q h. h }

pub like_intents : (C T : Context) → HasIntentsOf C T → All (λ (row : Set). length row ≡ T.width) T.rows → IsLike (of_intents C) T
like_intents C T known even =
    let same_context = of_intents-same C T known in
    record {
      width = known.width;
      rows = subst (λ (D : Context). list_all (λ row. list_any (same row) D.rows) T.rows ≡ true) same_context
          (intents_among T T.rows (rows_closed T even));
      rules = λ q h. subst (λ (D : Context). holds D q ≡ true) same_context (holds-intents T q h);
    }

-- ---- a state of which all is in the table

pub record IsWithin (D : Context) (s : State) : Type 0 where
  pub rows : list_all (λ row. list_any (same row) D.rows) s.context.rows ≡ true
  pub rules : list_all (holds D) s.accepted ≡ true

-- all that is known holds in the table, and all experts may hold one question
pub record IsOpenTo (D : Context) (s : State) : Type 0 where
  pub known : list_all (holds D) s.settings.known ≡ true
  pub all : s.settings.holders ≡ MAX_EXPERTS

module _ (D : Context) (T : NamedContext) (like : IsLike D T.context) (e : ℕ) (i : is_expert e ≡ true) where
  abbrev Step : State → OracleMoment → SetReply → Type 0
  Step t m reply = IsWithin D t × (m.conflicts ≡ no_conflict T) × Holding e t m.due

  abbrev Turned : State → Conflicts → Option Rule → SetEvent → Type 0
  Turned s cs due x = Step (next s x) (moment_after T (moment due cs) (reply_to s x)) (reply_to s x)

  -- a turn of one of the oracles
  within_turn : (s : State) (due : Option Rule) → IsValid s → IsOpenTo D s → D.width ≡ s.context.width → IsWithin D s → Holding e s due
      → Turned s (no_conflict T) due (event_due T e (no_conflict T) due)
  within_turn s None v open_to wide inside held =
      draws s T e (no_conflict T) Step v open_to.all i
      (λ q _. (record { rows = inside.rows; rules = inside.rules }, refl, held_new e q s.held))
      (record { rows = inside.rows; rules = inside.rules }, refl, tt)
  within_turn s (Some q) v open_to wide inside held = go (counterexample T (no_conflict T) q) refl
    where
      in_rows : (r : Set) → list_any (same r) D.rows ≡ true → list_all (λ row. list_any (same row) D.rows) (s.context.rows ++ r ∷ []) ≡ true
      in_rows r h =
          list_all-append (λ row. list_any (same row) D.rows) s.context.rows (r ∷ [])
          ∙ and_from (list_all (λ row. list_any (same row) D.rows) s.context.rows) (list_any (same r) D.rows && true) inside.rows
          (and_from (list_any (same r) D.rows) true h refl)

      in_rules : holds D q ≡ true → list_all (holds D) (s.accepted ++ q ∷ []) ≡ true
      in_rules h =
          list_all-append (holds D) s.accepted (q ∷ [])
          ∙ and_from (list_all (holds D) s.accepted) (holds D q && true) inside.rules (and_from (holds D q) true h refl)

      go : (m : Option ℕ) → counterexample T (no_conflict T) q ≡ m → Turned s (no_conflict T) (Some q) (event_of e (answer_with T m))
      go None none =
          let true_here = like.rules q (confirmed T q ((held_valid s v e q held).conclusion_wide ∙ sym wide ∙ sym like.width) none) in
          confirms s T e (no_conflict T) Step q held
          (λ _ _ k. (record { rows = inside.rows; rules = in_rules true_here }, refl, tt))
          (λ _ reply. (record { rows = inside.rows; rules = inside.rules }, refl, tt))
      go (Some j) found =
          let c = counterexample_is T (no_conflict T) q j found in
          let r = get_or T.context.rows j [] in
          let parts = and_parts (within q.premise r) (not (within q.conclusion r)) (c.refutes []) in
          let there : list_any (same r) D.rows ≡ true =
          all_at (λ row. list_any (same row) D.rows) T.context.rows j [] c.in_table like.rows in
          let kept : respects_all s.accepted r ≡ true =
          list_all-mono (holds D) (respects r) (λ k h. row_respects D r k there h) s.accepted inside.rules in
          let known : respects_all s.settings.known r ≡ true =
          list_all-mono (holds D) (respects r) (λ k h. row_respects D r k there h) s.settings.known open_to.known in
          let kept_all : respects_all (rules_of s) r ≡ true = list_all-append (respects r) s.settings.known s.accepted
          ∙ and_from (respects_all s.settings.known r) (respects_all s.accepted r) known kept in
          gives s T e (no_conflict T) Step q held (get_or T.objects j []) r parts.0 (not-true (within q.conclusion r) parts.1)
          (λ _ _ k. (record { rows = in_rows r there; rules = inside.rules }, refl, tt))
          (λ _ reply. (record { rows = inside.rows; rules = inside.rules }, refl, tt))
          (λ broken k other. absurd (false≢true (sym broken ∙ kept_all)))

-- ---- the whole course

module _ (D : Context) (tables : ℕ → NamedContext) (like : (e : ℕ) → IsLike D (tables e).context) where
  -- where each expert stands
  pub record AllStand (s : State) (at : ℕ → OracleMoment) (es : List SetEvent) : Type 0 where
    pub free : (e : ℕ) → (at e).conflicts ≡ no_conflict (tables e)
    pub held : (e : ℕ) → Holding e s (at e).due
    pub runs : (e : ℕ) → OracleRunsFrom (tables e) e (at e) (own (journal_of s es) e)

  -- after an event of expert e0
  abbrev moved : State → (ℕ → OracleMoment) → SetEvent → ℕ → OracleMoment
  moved s at x e = cond (eqb (expert_of x) e) (moment_after (tables e) (at e) (reply_to s x)) (at e)

  module _ (s : State) (at : ℕ → OracleMoment) (x : SetEvent) (es : List SetEvent) (v : IsValid s) (open_to : IsOpenTo D s)
      (wide : D.width ≡ s.context.width) (inside : IsWithin D s) (i : is_expert (expert_of x) ≡ true)
      (stand : AllStand s at (x ∷ es)) where
    abbrev entry : SetEntry
    entry = record { event = x; reply = reply_to s x }

    abbrev rest : ℕ → List SetEntry
    rest e = own (journal_of (next s x) es) e

    runs_here : (e : ℕ) (b : Bool) → eqb (expert_of x) e ≡ b → OracleRunsFrom (tables e) e (at e) (cond b (entry ∷ rest e) (rest e))
    unfolding journal_of
    runs_here e b h = subst (λ b. OracleRunsFrom (tables e) e (at e) (cond b (entry ∷ rest e) (rest e))) h (stand.runs e)

    its_turn : (e : ℕ) → eqb (expert_of x) e ≡ true
        → IsWithin D (next s x) × ((moment_after (tables e) (at e) (reply_to s x)).conflicts ≡ no_conflict (tables e))
        × Holding e (next s x) (moment_after (tables e) (at e) (reply_to s x)).due
    its_turn e t =
        let T = tables e in
        let due = (at e).due in
        let is_due : x ≡ event_due T e (no_conflict T) due = (runs_here e true t).0
        ∙ ap (λ (cs : Conflicts). event_due T e cs due) (stand.free e) in
        let expert : is_expert e ≡ true = subst (λ (k : ℕ). is_expert k ≡ true) (eqb-true (expert_of x) e t) i in
        let turned : Turned D T (like e) e expert s (no_conflict T) due x =
        subst (Turned D T (like e) e expert s (no_conflict T) due) (sym is_due)
        (within_turn D T (like e) e expert s due v open_to wide inside (stand.held e)) in
        let back = ap (λ (cs : Conflicts). (moment_after T (moment due cs) (reply_to s x)).conflicts) (stand.free e) in
        (turned.0, back ∙ turned.1, turned.2)

    pub stays_within : IsWithin D (next s x)
    stays_within = (its_turn (expert_of x) (eq-eqb (expert_of x) (expert_of x) refl)).0

    free_on : (e : ℕ) (b : Bool) → eqb (expert_of x) e ≡ b
        → (cond b (moment_after (tables e) (at e) (reply_to s x)) (at e)).conflicts ≡ no_conflict (tables e)
    free_on e true t = (its_turn e t).1
    free_on e false f = stand.free e

    held_same : (e : ℕ) (due : Option Rule) → eqb (expert_of x) e ≡ false → Holding e s due → Holding e (next s x) due
    held_same e None f h = tt
    held_same e (Some q) f h = held_by_other s x e f ∙ h

    held_on : (e : ℕ) (b : Bool) → eqb (expert_of x) e ≡ b
        → Holding e (next s x) (cond b (moment_after (tables e) (at e) (reply_to s x)) (at e)).due
    held_on e true t = (its_turn e t).2
    held_on e false f = held_same e (at e).due f (stand.held e)

    runs_on : (e : ℕ) (b : Bool) → eqb (expert_of x) e ≡ b
        → OracleRunsFrom (tables e) e (cond b (moment_after (tables e) (at e) (reply_to s x)) (at e)) (rest e)
    runs_on e true t = (runs_here e true t).2
    runs_on e false f = runs_here e false f

    pub stand_on : AllStand (next s x) (moved s at x) es
    stand_on = record {
      free = λ e. free_on e (eqb (expert_of x) e) refl;
      held = λ e. held_on e (eqb (expert_of x) e) refl;
      runs = λ e. runs_on e (eqb (expert_of x) e) refl;
    }

    -- where an expert stands at the end
    pub ends_alike : (e : ℕ) (b : Bool) → (moment_at (tables e) (cond b (moment_after (tables e) (at e) (reply_to s x)) (at e))
        (rest e)).conflicts ≡ (moment_at (tables e) (at e) (cond b (entry ∷ rest e) (rest e))).conflicts
    ends_alike e true = refl
    ends_alike e false = refl

  open_on : (s : State) (x : SetEvent) → IsOpenTo D s → IsOpenTo D (next s x)
  open_on s x open_to = record {
    known = subst (λ (t : Settings). list_all (holds D) t.known ≡ true) (sym (next_settings s x)) open_to.known;
    all = ap (λ (t : Settings). t.holders) (next_settings s x) ∙ open_to.all;
  }

  course : (es : List SetEvent) (s : State) (at : ℕ → OracleMoment) → IsValid s → IsOpenTo D s → D.width ≡ s.context.width
      → list_all (λ event. is_expert (expert_of event)) es ≡ true → IsWithin D s → AllStand s at es
      → IsWithin D (state_after s es) × ((e : ℕ) → (moment_at (tables e) (at e) (own (journal_of s es) e)).conflicts ≡ no_conflict
      (tables e))
  unfolding state_after journal_of
  course [] s at v open_to wide is inside stand = (inside, stand.free)
  course (x ∷ es) s at v open_to wide is inside stand =
      let parts = and_parts (is_expert (expert_of x)) (list_all (λ event. is_expert (expert_of event)) es) is in
      let more = course es (next s x) (moved s at x) (next_valid s v x parts.0) (open_on s x open_to) (wide ∙ sym (next_width s x)) parts.1
      (stays_within s at x es v open_to wide inside parts.0 stand) (stand_on s at x es v open_to wide inside parts.0 stand) in
      (more.0, λ e. sym (ends_alike s at x es v open_to wide inside parts.0 stand e (eqb (expert_of x) e)) ∙ more.1 e)

  module _ (K : Context) (names : List RowName) (settings : Settings) (H : List SetEntry)
      (respecting : rows_respect settings.known K ≡ true) (most : settings.holders ≡ MAX_EXPERTS)
      (known : list_all (holds D) settings.known ≡ true) (legal : IsLegal (opening K names settings) H) (wide : D.width ≡ K.width)
      (part : list_all (λ row. list_any (same row) D.rows) K.rows ≡ true)
      (runs : (e : ℕ) → IsOracleFront (tables e) e (own H e)) where
    abbrev first : State
    first = opening K names settings

    abbrev final : State
    final = state_after first (events_of H)

    valid : IsValid first
    valid = opening_valid K names settings respecting

    whole : IsWithin D final × ((e : ℕ) → conflicts_of (tables e) (own H e) ≡ no_conflict (tables e))
    whole =
        let events = legal_events first H legal in
        let all = course (events_of H) first (λ e. moment None (no_conflict (tables e))) valid
        (record { known = known; all = most }) wide events.0 (record { rows = part; rules = refl })
        (record {
          free = λ e. refl;
          held = λ e. tt;
          runs =
              λ e. subst (λ J. OracleRunsFrom (tables e) e (moment None (no_conflict (tables e))) (own J e)) (sym legal.replayed) (runs e);
        })
        in (
          all.0,
          λ e. subst (λ J. (moment_at (tables e) (moment None (no_conflict (tables e))) (own J e)).conflicts ≡ no_conflict
              (tables e)) legal.replayed (all.1 e),
        )

    -- nothing is dropped
    pub nothing_dropped : (e : ℕ) → conflicts_of (tables e) (own H e) ≡ no_conflict (tables e)
    nothing_dropped e = whole.1 e

    -- and once no question is open, the basis is the table's
    module _ (done : open_in final ≡ []) where
      settled : final.settings ≡ settings
      settled = run_settings first (events_of H)

      accepted_all : SameMembers final.accepted (basis_known settings.known final.context)
      accepted_all =
          let v = run_valid first (events_of H) (legal_events first H legal).0 valid in
          subst (λ (S : Settings). SameMembers final.accepted (basis_known S.known final.context)) settled
          (accepted_members final.settings.known final.context final.accepted v.accepted done)

      pub one_basis : basis_known settings.known final.context ≡ basis_known settings.known D
      one_basis = agreeing_basis settings.known final.context D (wide ∙ sym (run_width first (events_of H))) whole.0.rows known
          (sym (accepted_all (holds D)) ∙ whole.0.rules)

      pub one_accepted : SameMembers final.accepted (basis_known settings.known D)
      one_accepted = λ p. accepted_all p ∙ ap (list_all p) one_basis
