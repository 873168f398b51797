-- Between two draws of an oracle an answer is recorded. The question by which the first draw is answered is open, so it is not stale.
-- While it is not stale, the oracle's answer to it is recorded, or breaks a rule and leaves the question due; and it becomes stale only
-- where an answer of another is recorded. So a draw, which is due where no question is, comes after a recorded answer.
use Rattle.std.proofs.Common.{◌≡◌, ℕ, ◌≤◌, ◌⊎◌, Bool, true, false, not, cond, eqb, eq-eqb, get_or, Option, Some, None, List, [], ◌∷◌, ◌++◌}
use Rattle.std.proofs.Common.{length}
use Rattle.std.proofs.Common.{filter, refl, inl, inr, sym, ap, ◌∙◌, subst, arith, length-append}
use Rattle.std.proofs.lemmas.Bool.{cases_Bool, and_parts, false≢true, not-true}
use Rattle.std.specs.List.{list_all}
use Rattle.fca_model.specs.declared.Event.TheVariants.{Draw}
use Rattle.fca_model.specs.declared.TheConstants.{MAX_EXPERTS}
use Rattle.fca_model.specs.Sets.{within}
use Rattle.fca_model.specs.Tables.{NamedContext}
use Rattle.fca_model.specs.Context.{Context}
use Rattle.fca_model.specs.Implications.{Rule}
use Rattle.fca_model.specs.Invariant.{IsValid, rows_respect}
use Rattle.fca_model.specs.Exploration.{State, Settings, RowName, SetEvent, SetReply, SetEntry, held_by, reply_to, next, journal_of}
use Rattle.fca_model.specs.Exploration.{events_of, expert_of, is_expert, opening, IsLegal, own}
use Rattle.fca_model.proofs.StepLemmas.{by_change}
use Rattle.fca_model.proofs.ValidLemmas.{next_valid}
use Rattle.fca_model.proofs.CourseLemmas.{next_settings}
use Rattle.fca_model.proofs.RunLemmas.{legal_events, own-append}
use Rattle.exploration_terms.specs.Recorded.{is_recorded}
use Rattle.oracle_expert.specs.declared.expert.Answer.{Answer}
use Rattle.oracle_expert.specs.declared.expert.Answer.TheVariants.{Confirm, Row}
use Rattle.oracle_expert.specs.Answers.{event_of}
use Rattle.oracle_expert.specs.Oracles.{Conflicts, Recall, Answers, Learns, counterexample, answer_with, answer_of}
use Rattle.oracle_expert.specs.Counts.{answers_recorded_in}
use Rattle.oracle_expert.specs.Runs.{OracleMoment, OracleRunsFrom, SeatRun, event_due, moment_after, moment_at, is_done}
use Rattle.oracle_expert.proofs.AnswerLemmas.{counterexample_is}
use Rattle.oracle_expert.proofs.TurnLemmas.{is_stale, moment, draws, confirms, gives}
use Rattle.oracle_expert.proofs.RunLemmas.{oracle_runs}
use Rattle.oracle_expert.proofs.CountLemmas.{held_new, held_by_other, open_fresh, rows_and_rules, adds, next_adds, stops, valid}

-- ---- one event

-- where nothing is recorded, no question becomes stale
quiet_stays : (s : State) (x : SetEvent) (q : Rule) → is_recorded (reply_to s x) ≡ false → is_stale (next s x) q ≡ is_stale s q
quiet_stays s x q quiet =
    by_change s x (λ t. rows_and_rules t ≡ rows_and_rules s → is_stale t q ≡ is_stale s q) (λ _. refl) (λ _. refl) (λ _ _ _. refl)
    (λ p _ _ _ same. absurd (omega (arith, length-append s.accepted (p ∷ []))))
    (λ name r p _ _ _ _ _ same. absurd (omega (arith, length-append s.context.rows (r ∷ [])))) still
  where
    still : rows_and_rules (next s x) ≡ rows_and_rules s
    still =
        let more = next_adds s x in
        let none : adds (reply_to s x) ≡ 0 = ap (λ (b : Bool). cond {A = ℕ} b 1 0) quiet in
        omega arith

no_draw : (e : ℕ) (a : Answer) → event_of e a ≡ Draw e → ⊥
no_draw e Confirm h = cc
no_draw e (Row name row) h = cc

draw_is_own : (e : ℕ) (y : SetEntry) → y.event ≡ Draw e → eqb (expert_of y.event) e ≡ true
draw_is_own e y h = ap (λ x. eqb (expert_of x) e) h ∙ eq-eqb e e refl

module _ (D : NamedContext) (e : ℕ) where
  -- a draw of the expert comes next
  draws_next : (m : OracleMoment) (y : SetEntry) (after : List SetEntry) → y.event ≡ Draw e → OracleRunsFrom D e m (own (y ∷ after) e)
      → OracleRunsFrom D e m (y ∷ own after e)
  draws_next m y after h = subst (λ b. OracleRunsFrom D e m (cond b (y ∷ own after e) (own after e))) (draw_is_own e y h)

  -- the answer is recorded, or the question is still due in the same state
  abbrev Answered : State → Rule → State → OracleMoment → SetReply → Type 0
  Answered s q t m reply = (is_recorded reply ≡ true) ⊎ ((t ≡ s) × (m.due ≡ Some q))

  abbrev AnsweredBy : State → Rule → Conflicts → SetEvent → Type 0
  AnsweredBy s q cs x = Answered s q (next s x) (moment_after D (moment (Some q) cs) (reply_to s x)) (reply_to s x)

  fresh_answer : (s : State) (q : Rule) (cs : Conflicts) → held_by e s.held ≡ Some q → is_stale s q ≡ false
      → AnsweredBy s q cs (event_due D e cs (Some q))
  fresh_answer s q cs held fresh = go (counterexample D cs q) refl
    where
      stale : {X : Type 0} → is_stale s q ≡ true → X
      stale old = absurd (false≢true (sym fresh ∙ old))

      go : (m : Option ℕ) → counterexample D cs q ≡ m → AnsweredBy s q cs (event_of e (answer_with D m))
      go None none = confirms s D e cs (Answered s q) q held (λ _ _ k. inl refl) (λ old reply. stale old)
      go (Some j) found =
          let r = get_or D.context.rows j [] in
          let parts = and_parts (within q.premise r) (not (within q.conclusion r)) ((counterexample_is D cs q j found).refutes []) in
          gives s D e cs (Answered s q) q held (get_or D.objects j []) r parts.0 (not-true (within q.conclusion r) parts.1)
          (λ _ _ k. inl refl) (λ old reply. stale old) (λ _ k other. inr (refl, refl))

  -- ---- from a question on

  -- what is known from a state on, where the question is held and not stale
  abbrev On : State → Rule → List SetEntry → List SetEntry → Type 0
  On s q between rest = (cs : Conflicts) → held_by e s.held ≡ Some q → is_stale s q ≡ false
      → OracleRunsFrom D e (moment (Some q) cs) (own rest e) → 1 ≤ answers_recorded_in between

  -- until a draw of the expert comes, something is recorded
  until_recorded : (es : List SetEvent) (s : State) (cs : Conflicts) (q : Rule) → held_by e s.held ≡ Some q → is_stale s q ≡ false
      → (between after : List SetEntry) (second : SetEntry)
      → journal_of s es ≡ between ++ second ∷ after → second.event ≡ Draw e
      → OracleRunsFrom D e (moment (Some q) cs) (own (between ++ second ∷ after) e) → 1 ≤ answers_recorded_in between
  unfolding journal_of
  until_recorded [] s cs q held fresh [] after second all draw run = cc
  until_recorded [] s cs q held fresh (b ∷ between) after second all draw run = cc
  until_recorded (x ∷ es) s cs q held fresh [] after second all draw run =
      absurd (no_draw e (answer_of D cs q) (sym (draws_next (moment (Some q) cs) second after draw run).0 ∙ draw))
  until_recorded (x ∷ es) s cs q held fresh (b ∷ between) after second all draw run = elim (cases_Bool (is_recorded b.reply)) [
    | inl t ↦ subst (λ c. 1 ≤ length (cond c (b ∷ filter (λ (h : SetEntry). is_recorded h.reply) between)
        (filter (λ (h : SetEntry). is_recorded h.reply) between))) (sym t) (omega arith)
    | inr f ↦
        subst (λ c. 1 ≤ length (cond c (b ∷ filter (λ (h : SetEntry). is_recorded h.reply) between)
        (filter (λ (h : SetEntry). is_recorded h.reply) between))) (sym f)
        (go (λ cs h f run. until_recorded es (next s x) cs q h f between after second rest draw run) f (eqb (expert_of b.event) e) refl run)
  ]
    where
      here : b ≡ record { event = x; reply = reply_to s x }
      here = cc

      rest : journal_of (next s x) es ≡ between ++ second ∷ after
      rest = cc

      event : b.event ≡ x
      event = ap (λ (y : SetEntry). y.event) here

      reply : b.reply ≡ reply_to s x
      reply = ap (λ (y : SetEntry). y.reply) here

      fresh_on : is_recorded b.reply ≡ false → is_stale (next s x) q ≡ false
      fresh_on f = quiet_stays s x q (ap is_recorded (sym reply) ∙ f) ∙ fresh

      mine : On (next s x) q between (between ++ second ∷ after) → is_recorded b.reply ≡ false → AnsweredBy s q cs x
          → OracleRunsFrom D e (moment_after D (moment (Some q) cs) b.reply) (own (between ++ second ∷ after) e) → 1 ≤ answers_recorded_in between
      mine on f (inl recorded) run = absurd (false≢true (sym f ∙ ap is_recorded reply ∙ recorded))
      mine on f (inr same) run =
          let m = moment_after D (moment (Some q) cs) b.reply in
          let due : m.due ≡ Some q = ap (λ r. (moment_after D (moment (Some q) cs) r).due) reply ∙ same.1 in
          on m.conflicts (ap (λ (t : State). held_by e t.held) same.0 ∙ held) (fresh_on f)
          (subst (λ d. OracleRunsFrom D e (moment d m.conflicts) (own (between ++ second ∷ after) e)) due run)

      go : On (next s x) q between (between ++ second ∷ after) → is_recorded b.reply ≡ false → (c : Bool) → eqb (expert_of b.event) e ≡ c
          → OracleRunsFrom D e (moment (Some q) cs) (cond c (b ∷ own (between ++ second ∷ after) e) (own (between ++ second ∷ after) e))
          → 1 ≤ answers_recorded_in between
      go on f true own_event run =
          let is_due : x ≡ event_due D e cs (Some q) = sym event ∙ run.0 in
          mine on f (subst (AnsweredBy s q cs) (sym is_due) (fresh_answer s q cs held fresh)) run.2
      go on f false other run = on cs (held_by_other s x e (ap (λ y. eqb (expert_of y) e) (sym event) ∙ other) ∙ held) (fresh_on f) run

  -- ---- from the first draw on

  -- the draw is answered by an open question, which the expert holds, or by Done
  abbrev Drawn : State → OracleMoment → SetReply → Type 0
  Drawn t m reply = (is_done reply ≡ true) ⊎ ((q : Rule) × (held_by e t.held ≡ Some q) × (is_stale t q ≡ false) × (m.due ≡ Some q))

  abbrev DrawnFrom : State → Conflicts → SetEvent → Type 0
  DrawnFrom s cs x = Drawn (next s x) (moment_after D (moment None cs) (reply_to s x)) (reply_to s x)

  own_is_some : (between after : List SetEntry) (y : SetEntry) → y.event ≡ Draw e → own (between ++ y ∷ after) e ≡ [] → ⊥
  own_is_some [] after y draw none = cons (subst (λ b. cond b (y ∷ own after e) (own after e) ≡ []) (draw_is_own e y draw) none)
    where
      cons : y ∷ own after e ≡ [] → ⊥
      cons h = cc
  own_is_some (b ∷ between) after y draw none = go (own_is_some between after y draw) (eqb (expert_of b.event) e) none
    where
      go : (own (between ++ y ∷ after) e ≡ [] → ⊥) → (c : Bool)
          → cond c (b ∷ own (between ++ y ∷ after) e) (own (between ++ y ∷ after) e) ≡ [] → ⊥
      go on true h = cc
      go on false h = on h

  module _ (i : is_expert e ≡ true) where
    pub recorded_between : (es : List SetEvent) (s : State) → IsValid s → s.settings.holders ≡ MAX_EXPERTS
        → list_all (λ event. is_expert (expert_of event)) es ≡ true
        → (m : OracleMoment) (before between after : List SetEntry) (first second : SetEntry)
        → journal_of s es ≡ before ++ (first ∷ between ++ second ∷ after)
        → first.event ≡ Draw e → second.event ≡ Draw e → OracleRunsFrom D e m (own (first ∷ between ++ second ∷ after) e)
        → 1 ≤ answers_recorded_in between
    unfolding journal_of
    recorded_between [] s v holders is m [] between after first second all draw again run = cc
    recorded_between [] s v holders is m (b ∷ before) between after first second all draw again run = cc
    recorded_between (x ∷ es) s v holders is m (b ∷ before) between after first second all draw again run =
        let parts = and_parts (is_expert (expert_of x)) (list_all (λ event. is_expert (expert_of event)) es) is in
        let still = ap (λ (t : Settings). t.holders) (next_settings s x) ∙ holders in
        recorded_between es (next s x) (next_valid s v x parts.0) still parts.1 m before between after first second (cc) draw again run
    recorded_between (x ∷ es) s v holders is m [] between after first second all draw again run =
        due m.due (draws_next m first (between ++ second ∷ after) draw run)
      where
        here : first ≡ record { event = x; reply = reply_to s x }
        here = cc

        rest : journal_of (next s x) es ≡ between ++ second ∷ after
        rest = cc

        is_draw : x ≡ Draw e
        is_draw = sym (ap (λ (y : SetEntry). y.event) here) ∙ draw

        reply : first.reply ≡ reply_to s x
        reply = ap (λ (y : SetEntry). y.reply) here

        drawn : DrawnFrom s m.conflicts x
        drawn = subst (DrawnFrom s m.conflicts) (sym is_draw)
            (draws s D e m.conflicts Drawn v holders i (λ q among. inr (q, held_new e q s.held, open_fresh s q among, refl)) (inl refl))

        due : (d : Option Rule) → OracleRunsFrom D e (moment d m.conflicts) (first ∷ own (between ++ second ∷ after) e)
            → 1 ≤ answers_recorded_in between
        due (Some q) run = absurd (no_draw e (answer_of D m.conflicts q) (sym run.0 ∙ draw))
        due None run = elim drawn [
          | inl done ↦ absurd (own_is_some between after second again
              (stops D e i 0 first.reply (own (between ++ second ∷ after) e) (ap is_done reply ∙ done) run.1))
          | inr asked ↦
              let later = moment_after D (moment None m.conflicts) first.reply in
              let is : later.due ≡ Some asked.0 = ap (λ r. (moment_after D (moment None m.conflicts) r).due) reply ∙ asked.3 in
              until_recorded es (next s x) later.conflicts asked.0 asked.1 asked.2 between after second rest again
              (subst (λ d. OracleRunsFrom D e (moment d later.conflicts) (own (between ++ second ∷ after) e)) is run.2)
        ]

-- ---- in a history

-- of a run the entries behind some of them are a run
pub runs_on : (D : NamedContext) (e : ℕ) (m : OracleMoment) (xs ys : List SetEntry) → OracleRunsFrom D e m (xs ++ ys)
    → OracleRunsFrom D e (moment_at D m xs) ys
runs_on D e m [] ys run = run
runs_on D e m (x ∷ xs) ys run = runs_on D e (moment_after D m x.reply) xs ys run.2

-- of two ways to cut a list, the one that cuts later goes on from the other
cut_later : (xs ys zs ws : List SetEntry) → xs ++ ys ≡ zs ++ ws → length xs ≤ length zs → (begun : List SetEntry) × (ys ≡ begun ++ ws)
cut_later [] ys zs ws h le = (zs, h)
cut_later (x ∷ xs) ys [] ws h le = absurd (omega arith)
cut_later (x ∷ xs) ys (z ∷ zs) ws h le = cut_later xs ys zs ws (cc) (omega arith)

module _ (K : Context) (names : List RowName) (settings : Settings) (H : List SetEntry) (respecting : rows_respect settings.known K ≡ true)
    (most : settings.holders ≡ MAX_EXPERTS) (legal : IsLegal (opening K names settings) H) where
  pub draws_apart : (e : ℕ) → is_expert e ≡ true → (old new : Recall) (earlier entries : List SetEntry) → own H e ≡ earlier ++ entries
      → SeatRun Answers Learns e old entries new
      → (before between after : List SetEntry) (first second : SetEntry) → H ≡ before ++ (first ∷ between ++ second ∷ after)
      → length earlier ≤ length (own before e)
      → first.event ≡ Draw e → second.event ≡ Draw e → 1 ≤ answers_recorded_in between
  draws_apart e i old new earlier entries own_is run before between after first second cut late draw again =
      let D = old.table in
      let from = first ∷ between ++ second ∷ after in
      let same : earlier ++ entries ≡ own before e ++ own from e = sym own_is ∙ ap (λ J. own J e) cut ∙ own-append before from e in
      let begun = cut_later earlier entries (own before e) (own from e) same late in
      let its = (oracle_runs D e None old.conflicts old entries new refl refl run).run in
      let on = runs_on D e (moment None old.conflicts) begun.0 (own from e)
      (subst (OracleRunsFrom D e (moment None old.conflicts)) begun.1 its) in
      let events = legal_events (opening K names settings) H legal in
      recorded_between D e i (events_of H) (opening K names settings) (valid K names settings H respecting most legal) most events.0
      (moment_at D (moment None old.conflicts) begun.0) before between after first second
      (legal.replayed ∙ cut) draw again on
