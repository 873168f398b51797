-- How many turns an oracle takes. Two turns, a draw and an answer, go with each question; and in the time from one draw to the next an
-- answer was recorded, by the oracle or, where its question was stale when it answered, by another. So twice what was recorded, and one
-- turn more for each row that was dropped, is an upper bound of the turns that were taken when a draw is due. While a question is due the
-- bound has one turn less, and two more where the question is still fresh, for then what is recorded for it is yet to come. The last
-- draw, which is answered Done, is one turn more.
use Rattle.std.proofs.Common.{◌≡◌, append-nil, append_assoc, ℕ, suc, ◌+◌, ◌*◌, ◌-◌, ◌^◌, ◌<◌, ◌≤◌, ◌⊎◌, Bool, true, false, not, ◌&&◌, ◌||◌}
use Rattle.std.proofs.Common.{cond, eqb}
use Rattle.std.proofs.Common.{eq-eqb, option_map, find, get_or, zero, Option, Some, None, List, [], ◌∷◌, ◌++◌, length, map, filter}
use Rattle.std.proofs.Common.{slice_get}
use Rattle.std.proofs.Common.{slice_set, refl, inl, inr, sym, ap, ◌∙◌, subst, arith, length-append}
use Rattle.std.proofs.Math.Pow.{pow_mono}
use Rattle.std.proofs.lemmas.List.{length-map, length-set}
use Rattle.std.proofs.lemmas.Bool.{and_parts, or_from, false≢true, not-true, eqb-true}
use Rattle.std.proofs.lemmas.Option.{slice_get-get_or}
use Rattle.std.specs.List.{list_all, list_any}
use Rattle.std.specs.Option.{is_none}
use Rattle.fca_model.specs.declared.Event.TheVariants.{Draw, Confirm, Row, Leave}
use Rattle.fca_model.specs.declared.Reply.TheVariants.{Done, Accepted, Taken, Breaks}
use Rattle.fca_model.specs.declared.TheConstants.{MAX_EXPERTS, MAX_OBJECTS, MAX_SURVEYED, MAX_TURNS}
use Rattle.fca_model.specs.Sets.{Set, within, same, size}
use Rattle.fca_model.specs.Tables.{NamedContext}
use Rattle.fca_model.specs.Context.{Context}
use Rattle.fca_model.specs.Implications.{Rule, holds, respects, refutes}
use Rattle.fca_model.specs.Questions.{has_premise, waiting, open_questions, least_size}
use Rattle.fca_model.specs.Pseudo.{basis_known}
use Rattle.fca_model.specs.Invariant.{Among, IsValid, rows_respect}
use Rattle.fca_model.specs.Exploration.{State, Settings, RowName, opening, SetHold, SetEvent, SetReply, SetEntry, rules_of, open_in}
use Rattle.fca_model.specs.Exploration.{held_by}
use Rattle.fca_model.specs.Exploration.{given_back, first_with, first_missing, draw_reply, confirm_unheard, confirm_unrefuted}
use Rattle.fca_model.specs.Exploration.{confirm_reply, row_new}
use Rattle.fca_model.specs.Exploration.{row_unbroken, row_refuting, row_fitting, row_reply, release, accept, after, after_draw}
use Rattle.fca_model.specs.Exploration.{after_confirm}
use Rattle.fca_model.specs.Exploration.{after_row, reply_to, next, state_after, journal_of, events_of, expert_of, is_expert, IsLegal, own}
use Rattle.fca_model.proofs.ListLemmas.{list_all-filter_kept, filter_passes}
use Rattle.fca_model.proofs.ClosureLemmas.{holds_by_rows}
use Rattle.fca_model.proofs.PseudoLemmas.{basis_holds}
use Rattle.fca_model.proofs.InvariantLemmas.{draw_gives_held}
use Rattle.fca_model.proofs.StepLemmas.{by_change}
use Rattle.fca_model.proofs.ValidLemmas.{next_valid, opening_valid}
use Rattle.fca_model.proofs.CourseLemmas.{next_settings, exploration_count}
use Rattle.fca_model.proofs.RunLemmas.{legal_events}
use Rattle.exploration_terms.specs.Recorded.{is_recorded}
use Rattle.exploration_terms.proofs.RecordedLemmas.{draw_not_recorded}
use Rattle.oracle_expert.specs.Answers.{event_of}
use Rattle.oracle_expert.specs.Oracles.{Conflicts, Recall, Answers, Learns, no_conflict, conflicts_told, counterexample, answer_with}
use Rattle.oracle_expert.specs.Oracles.{drop_given, drop_at}
use Rattle.oracle_expert.specs.Runs.{OracleMoment, SeatRun, IsOracleFront, conflicts_of, row_due, OracleRunsFrom, StopsAtDone, event_due}
use Rattle.oracle_expert.specs.Runs.{moment_after, moment_at, is_done}
use Rattle.oracle_expert.proofs.AnswerLemmas.{counterexample_is}
use Rattle.oracle_expert.specs.Counts.{answers_recorded_in, dropped_count}
use Rattle.oracle_expert.proofs.TurnLemmas.{is_stale, moment, draws, confirms, gives}
use Rattle.oracle_expert.proofs.RunLemmas.{oracle_runs}

-- ---- holds

pub held_new : (e : ℕ) (q : Rule) (hs : List SetHold) → held_by e (given_back e hs ++ record { expert = e; question = q } ∷ []) ≡ Some q
held_new e q [] = ap (λ b. option_map (λ (h : SetHold). h.question) (cond b (Some record { expert = e; question = q }) None))
    (eq-eqb e e refl)
held_new e q (h ∷ hs) = go (eqb h.expert e) refl (held_new e q hs)
  where
    go : (b : Bool) → eqb h.expert e ≡ b → held_by e (given_back e hs ++ record { expert = e; question = q } ∷ []) ≡ Some q
        → held_by e (cond (not b) (h ∷ given_back e hs) (given_back e hs) ++ record { expert = e; question = q } ∷ []) ≡ Some q
    go true t more = more
    go false f more =
        ap (λ b. option_map (λ (h : SetHold). h.question)
        (cond b (Some h) (find (λ h. eqb h.expert e) (given_back e hs ++ record { expert = e; question = q } ∷ [])))) f ∙ more

module _ (e f : ℕ) (other : eqb e f ≡ false) where
  held_past : (q : Rule) (hs : List SetHold) → held_by f (hs ++ record { expert = e; question = q } ∷ []) ≡ held_by f hs
  held_past q [] = ap (λ b. option_map (λ (h : SetHold). h.question) (cond b (Some record { expert = e; question = q }) None)) other
  held_past q (h ∷ hs) = go (eqb h.expert f) (held_past q hs)
    where
      go : (b : Bool) → held_by f (hs ++ record { expert = e; question = q } ∷ []) ≡ held_by f hs
          → option_map (λ (h : SetHold). h.question) (cond b (Some h)
          (find (λ h. eqb h.expert f) (hs ++ record { expert = e; question = q } ∷ [])))
          ≡ option_map (λ (h : SetHold). h.question) (cond b (Some h) (find (λ h. eqb h.expert f) hs))
      go true more = refl
      go false more = more

  held_still : (hs : List SetHold) → held_by f (given_back e hs) ≡ held_by f hs
  held_still [] = refl
  held_still (h ∷ hs) = go (eqb h.expert e) refl (held_still hs)
    where
      go : (b : Bool) → eqb h.expert e ≡ b → held_by f (given_back e hs) ≡ held_by f hs
          → held_by f (cond (not b) (h ∷ given_back e hs) (given_back e hs)) ≡ held_by f (h ∷ hs)
      go true t more =
          let not_f : eqb h.expert f ≡ false = ap (λ k. eqb k f) (eqb-true h.expert e t) ∙ other in
          more ∙ sym (ap (λ b. option_map (λ (h : SetHold). h.question) (cond b (Some h) (find (λ h. eqb h.expert f) hs))) not_f)
      go false n more = both (eqb h.expert f) more
        where
          both : (b : Bool) → held_by f (given_back e hs) ≡ held_by f hs
              → option_map (λ (h : SetHold). h.question) (cond b (Some h) (find (λ h. eqb h.expert f) (given_back e hs)))
              ≡ option_map (λ (h : SetHold). h.question) (cond b (Some h) (find (λ h. eqb h.expert f) hs))
          both true more = refl
          both false more = more

-- an event of another leaves what f holds
pub held_by_other : (s : State) (x : SetEvent) (f : ℕ) → eqb (expert_of x) f ≡ false → held_by f (next s x).held ≡ held_by f s.held
held_by_other s x f other =
    let still = held_still (expert_of x) f other s.held in
    by_change s x (λ t. held_by f t.held ≡ held_by f s.held) refl still
    (λ q _. held_past (expert_of x) f other q (given_back (expert_of x) s.held) ∙ still) (λ _ _ _ _. still) (λ _ _ _ _ _ _ _ _. still)

-- ---- a question that is open is not stale

unrefuted : (rows : List Set) (q : Rule) → list_all (λ r. respects r q) rows ≡ true → list_any (λ r. refutes r q) rows ≡ false
unrefuted [] q h = refl
unrefuted (r ∷ rows) q h =
    let parts = and_parts (respects r q) (list_all (λ r. respects r q) rows) h in
    or_from (refutes r q) (list_any (λ r. refutes r q) rows) (turn (within q.premise r) (within q.conclusion r) parts.0)
    (unrefuted rows q parts.1)
  where
    turn : (a b : Bool) → (not a || b) ≡ true → (a && not b) ≡ false
    turn true true h = refl
    turn true false h = absurd (false≢true h)
    turn false b h = refl

open_all : (S : List Rule) (K : Context) (acc : List Rule) (p : Rule → Bool) → list_all p (waiting S K acc) ≡ true
    → list_all p (open_questions S K acc) ≡ true
unfolding open_questions
open_all S K acc p h = list_all-filter_kept p (λ i. eqb (size i.premise) (least_size (waiting S K acc))) (waiting S K acc) h

pub open_fresh : (s : State) (q : Rule) → Among (open_in s) q → is_stale s q ≡ false
unfolding waiting
open_fresh s q among =
    let S = s.settings.known in
    let new : Rule → Bool = λ i. not (has_premise s.accepted i.premise) in
    let unheard : not (has_premise s.accepted q.premise) ≡ true =
    among new (open_all S s.context s.accepted new (filter_passes new (basis_known S s.context))) in
    let true_here : holds s.context q ≡ true = among (holds s.context)
    (open_all S s.context s.accepted (holds s.context)
    (list_all-filter_kept (holds s.context) new (basis_known S s.context) (basis_holds S s.context))) in
    let wide = (draw_gives_held S s.context s.accepted q among).conclusion_wide in
    or_from (list_any (λ r. refutes r q) s.context.rows) (has_premise s.accepted q.premise)
    (unrefuted s.context.rows q (sym (holds_by_rows s.context q wide) ∙ true_here))
    (not-true (has_premise s.accepted q.premise) unheard)

-- ---- rows that are dropped

dropped-set : (cs : Conflicts) (i k : ℕ) (d : Option ℕ) → i < length cs → get_or cs i d ≡ None
    → dropped_count (slice_set cs i (Some k)) ≡ suc (dropped_count cs)
dropped-set [] i k d lt e = absurd (omega arith)
dropped-set (None ∷ cs) zero k d lt e = refl
dropped-set (Some j ∷ cs) zero k d lt e = absurd (cc)
dropped-set (None ∷ cs) (suc i) k d lt e = dropped-set cs i k d (omega arith) e
dropped-set (Some j ∷ cs) (suc i) k d lt e = ap suc (dropped-set cs i k d (omega arith) e)

one_dropped : (D : NamedContext) (cs : Conflicts) (q : Rule) (i k : ℕ) → counterexample D cs q ≡ Some i
    → dropped_count (drop_given cs (counterexample D cs q) k) ≡ suc (dropped_count cs)
one_dropped D cs q i k e =
    let c = counterexample_is D cs q i e in
    let free : get_or cs i None ≡ None = is_None (get_or cs i None) (c.undropped None) in
    let there : slice_get cs i ≡ Some None = slice_get-get_or cs i None c.in_conflicts ∙ ap (λ x. Some x) free in
    ap (λ m. dropped_count (drop_given cs m k)) e ∙ ap (λ m. dropped_count (drop_at cs i k m)) there ∙ dropped-set cs i k None c.in_conflicts free
  where
    is_None : (m : Option ℕ) → is_none m ≡ true → m ≡ None
    is_None None h = refl
    is_None (Some x) h = cc

-- ---- the bound

abbrev pub rows_and_rules : State → ℕ
rows_and_rules s = length s.context.rows + length s.accepted

-- what a question that is due adds to the bound
abbrev to_come : Bool → ℕ
to_come true = 0
to_come false = 2

abbrev Bounded : ℕ → ℕ → State → Conflicts → Option Rule → Type 0
Bounded c n s cs None = n + 2 * c ≤ 2 * rows_and_rules s + dropped_count cs
Bounded c n s cs (Some q) = n + 1 + 2 * c ≤ 2 * rows_and_rules s + dropped_count cs + to_come (is_stale s q)

abbrev pub Holding : ℕ → State → Option Rule → Type 0
Holding e s None = Unit {0}
Holding e s (Some q) = held_by e s.held ≡ Some q

at_most_two : (b : Bool) → to_come b ≤ 2
at_most_two true = omega arith
at_most_two false = omega arith

pub grows : (s : State) (x : SetEvent) → rows_and_rules s ≤ rows_and_rules (next s x)
grows s x = by_change s x (λ t. rows_and_rules s ≤ rows_and_rules t) (omega arith) (omega arith) (λ _ _. omega arith)
    (λ q _ _ _. omega (arith, length-append s.accepted (q ∷ [])))
    (λ name r q _ _ _ _ _. omega (arith, length-append s.context.rows (r ∷ [])))

grows_on : (s : State) (es : List SetEvent) → rows_and_rules s ≤ rows_and_rules (state_after s es)
unfolding state_after
grows_on s [] = omega arith
grows_on s (x ∷ es) =
    let one = grows s x in
    let more = grows_on (next s x) es in
    omega arith

-- an event of another keeps the bound
others_keep : (c n : ℕ) (s : State) (cs : Conflicts) (due : Option Rule) (x : SetEvent) → Bounded c n s cs due
    → Bounded c n (next s x) cs due
others_keep c n s cs None x b =
    let more = grows s x in
    omega arith
others_keep c n s cs (Some q) x b =
    let two = at_most_two (is_stale s q) in
    by_change s x (λ t. Bounded c n t cs (Some q)) b b (λ _ _. b)
    (λ p _ _ _. let longer = length-append s.accepted (p ∷ []) in omega arith)
    (λ name r p _ _ _ _ _. let longer = length-append s.context.rows (r ∷ []) in omega arith)

module _ (D : NamedContext) (e : ℕ) (i : is_expert e ≡ true) (c : ℕ) where
  abbrev Step : ℕ → State → OracleMoment → SetReply → Type 0
  Step n t m reply = ((is_done reply ≡ true) × (n + 1 + 2 * c ≤ 2 * rows_and_rules t + dropped_count m.conflicts + 1))
      ⊎ (Bounded c (n + 1) t m.conflicts m.due × Holding e t m.due)

  abbrev Turned : ℕ → State → Conflicts → Option Rule → SetEvent → Type 0
  Turned n s cs due x = Step n (next s x) (moment_after D (moment due cs) (reply_to s x)) (reply_to s x)

  own_turn : (n : ℕ) (s : State) (cs : Conflicts) (due : Option Rule) → IsValid s → s.settings.holders ≡ MAX_EXPERTS → Bounded c n s cs due
      → Holding e s due → Turned n s cs due (event_due D e cs due)
  own_turn n s cs None v holders b held =
      draws s D e cs (Step n) v holders i
      (λ q among. inr (asked q among, held_new e q s.held))
      (inl (refl, omega arith))
    where
      asked : (q : Rule) → Among (open_in s) q → Bounded c (n + 1) s cs (Some q)
      asked q among =
          let fresh : to_come (is_stale s q) ≡ 2 = ap to_come (open_fresh s q among) in
          omega arith
  own_turn n s cs (Some q) v holders b held = go (counterexample D cs q) refl
    where
      two : to_come (is_stale s q) ≤ 2
      two = at_most_two (is_stale s q)

      stale : is_stale s q ≡ true → (reply : SetReply) → Step n (release e s) (moment None cs) reply
      stale old reply = inr (let none : to_come (is_stale s q) ≡ 0 = ap to_come old in omega arith, tt)

      go : (m : Option ℕ) → counterexample D cs q ≡ m → Turned n s cs (Some q) (event_of e (answer_with D m))
      go None none =
          confirms s D e cs (Step n) q held
          (λ _ _ k. inr (let more = two in let longer = length-append s.accepted (q ∷ []) in omega arith, tt))
          stale
      go (Some j) found =
          let r = get_or D.context.rows j [] in
          let parts = and_parts (within q.premise r) (not (within q.conclusion r)) ((counterexample_is D cs q j found).refutes []) in
          gives s D e cs (Step n) q held (get_or D.objects j []) r parts.0 (not-true (within q.conclusion r) parts.1)
          (λ _ _ k. inr (let more = two in let longer = length-append s.context.rows (r ∷ []) in omega arith, tt))
          stale
          (λ _ k other. inr (let one = one_dropped D cs q j k found in omega arith, held))

  pub stops : (reply : SetReply) (rest : List SetEntry) → is_done reply ≡ true → StopsAtDone reply rest → rest ≡ []
  stops Done rest d h = h
  stops _ rest d h = cc

  -- an event with its reply, and the expert's entries behind it
  abbrev entry : State → SetEvent → SetEntry
  entry s x = record { event = x; reply = reply_to s x }

  abbrev rest : State → SetEvent → List SetEvent → List SetEntry
  rest s x es = own (journal_of (next s x) es) e

  abbrev Bound : List SetEntry → ℕ → Option Rule → Conflicts → State → Type 0
  Bound entries n due cs t = length entries + n + 2 * c ≤ 2 * rows_and_rules t + dropped_count (moment_at D (moment due cs) entries).conflicts + 1

  -- what is known of the rest of a run
  abbrev On : State → SetEvent → List SetEvent → Type 0
  On s x es = (n : ℕ) (cs : Conflicts) (due : Option Rule) → Bounded c n (next s x) cs due → Holding e (next s x) due
      → OracleRunsFrom D e (moment due cs) (rest s x es)
      → Bound (rest s x es) n due cs (state_after (next s x) es)

  run_bound : (es : List SetEvent) (n : ℕ) (s : State) (cs : Conflicts) (due : Option Rule) → IsValid s → s.settings.holders ≡ MAX_EXPERTS
      → list_all (λ event. is_expert (expert_of event)) es ≡ true
      → Bounded c n s cs due → Holding e s due → OracleRunsFrom D e (moment due cs) (own (journal_of s es) e)
      → Bound (own (journal_of s es) e) n due cs (state_after s es)
  unfolding state_after journal_of
  run_bound [] n s cs None v holders is b held runs = omega arith
  run_bound [] n s cs (Some q) v holders is b held runs =
      let two = at_most_two (is_stale s q) in
      omega arith
  run_bound (x ∷ es) n s cs due v holders is b held runs =
      let parts = and_parts (is_expert (expert_of x)) (list_all (λ event. is_expert (expert_of event)) es) is in
      let still = ap (λ (t : Settings). t.holders) (next_settings s x) ∙ holders in
      go (λ n cs due. run_bound es n (next s x) cs due (next_valid s v x parts.0) still parts.1) (eqb (expert_of x) e) refl runs
    where
      held_on : (due : Option Rule) → eqb (expert_of x) e ≡ false → Holding e s due → Holding e (next s x) due
      held_on None f h = tt
      held_on (Some q) f h = held_by_other s x e f ∙ h

      turn : On s x es → x ≡ event_due D e cs due → StopsAtDone (reply_to s x) (rest s x es)
          → OracleRunsFrom D e (moment_after D (moment due cs) (reply_to s x)) (rest s x es)
          → Bound (entry s x ∷ rest s x es) n due cs (state_after (next s x) es)
      turn ih is_due last more = elim (subst (Turned n s cs due) (sym is_due) (own_turn n s cs due v holders b held)) [
        | inl done ↦
            let none : (rest s x es) ≡ [] = stops (reply_to s x) (rest s x es) done.0 last in
            let grown = grows_on (next s x) es in
            let bound = done.1 in
            subst (λ xs. Bound (entry s x ∷ xs) n due cs (state_after (next s x) es)) (sym none) (omega arith)
        | inr on ↦
            let m = moment_after D (moment due cs) (reply_to s x) in
            let bound = ih (n + 1) m.conflicts m.due on.0 on.1 more in
            omega arith
      ]

      go : On s x es → (b' : Bool) → eqb (expert_of x) e ≡ b'
          → OracleRunsFrom D e (moment due cs) (cond b' (entry s x ∷ rest s x es) (rest s x es))
          → Bound (cond b' (entry s x ∷ rest s x es) (rest s x es)) n due cs (state_after (next s x) es)
      go ih true t h = turn ih h.0 h.1 h.2
      go ih false f h = ih n cs due (others_keep c n s cs due x b) (held_on due f held) h

-- ---- from the opening

none_dropped : (rows : List Set) → dropped_count (map (λ _. None) rows) ≡ 0
none_dropped [] = refl
none_dropped (row ∷ rows) = none_dropped rows

-- as many places as rows
length-told : (cs : Conflicts) (given : Option ℕ) (reply : SetReply) → length (conflicts_told cs given reply) ≡ length cs
length-told cs None (Breaks k i) = refl
length-told cs (Some j) (Breaks k i) = at (slice_get cs j)
  where
    at : (m : Option (Option ℕ)) → length (drop_at cs j k m) ≡ length cs
    at None = refl
    at (Some None) = length-set cs j (Some k)
    at (Some (Some other)) = refl
length-told cs given _ = refl

length-conflicts : (D : NamedContext) (m : OracleMoment) (entries : List SetEntry) → length (moment_at D m entries).conflicts ≡ length m.conflicts
length-conflicts D m [] = refl
length-conflicts D m (entry ∷ entries) = length-conflicts D (moment_after D m entry.reply) entries
    ∙ length-told m.conflicts (row_due D m) entry.reply

dropped_within : (cs : Conflicts) → dropped_count cs ≤ length cs
dropped_within [] = omega arith
dropped_within (None ∷ cs) =
    let more = dropped_within cs in
    omega arith
dropped_within (Some k ∷ cs) =
    let more = dropped_within cs in
    omega arith

pub few_dropped : (D : NamedContext) (entries : List SetEntry) → dropped_count (conflicts_of D entries) ≤ length D.context.rows
few_dropped D entries =
    let all : length (conflicts_of D entries) ≡ length D.context.rows = length-conflicts D (moment None (no_conflict D)) entries
    ∙ length-map D.context.rows (λ (row : Set). None) in
    let within = dropped_within (conflicts_of D entries) in
    omega arith

-- ---- what is recorded

-- what an entry with this reply adds to the rows and the accepted implications
abbrev pub adds : SetReply → ℕ
adds reply = cond (is_recorded reply) 1 0

module _ (s : State) where
  abbrev Adds : State → SetReply → Type 0
  Adds t reply = rows_and_rules t ≡ rows_and_rules s + adds reply

  draw_adds : (e : ℕ) → Adds (next s (Draw e)) (reply_to s (Draw e))
  unfolding after reply_to
  draw_adds e = go (draw_reply s.settings.holders (given_back e s.held) (open_in s)) (draw_not_recorded s e)
    where
      go : (reply : SetReply) → is_recorded reply ≡ false → Adds (after_draw e s reply) reply
      go (Accepted k) h = absurd (false≢true (sym h))
      go (Taken k) h = absurd (false≢true (sym h))
      go _ h = omega arith

  confirm_adds : (e : ℕ) → Adds (next s (Confirm e)) (reply_to s (Confirm e))
  unfolding after reply_to
  confirm_adds e = go (held_by e s.held) refl
    where
      unheard : (q : Rule) → held_by e s.held ≡ Some q → (o : Option (ℕ × Rule))
          → Adds (after_confirm e s (confirm_unheard s o)) (confirm_unheard s o)
      unheard q held (Some found) = omega arith
      unheard q held None = subst (λ o. rows_and_rules (release e (accept o s)) ≡ rows_and_rules s + 1) (sym held)
          (omega (arith, length-append s.accepted (q ∷ [])))

      unrefuted : (q : Rule) → held_by e s.held ≡ Some q → (o : Option (ℕ × Set))
          → Adds (after_confirm e s (confirm_unrefuted s q o)) (confirm_unrefuted s q o)
      unrefuted q held (Some found) = omega arith
      unrefuted q held None = unheard q held (first_with (λ i. same i.premise q.premise) (length s.settings.known) s.accepted)

      go : (o : Option Rule) → held_by e s.held ≡ o → Adds (after_confirm e s (confirm_reply s o)) (confirm_reply s o)
      go None h = omega arith
      go (Some q) h = unrefuted q h (first_with (λ r. refutes r q) 0 s.context.rows)

  abbrev RowAdds : ℕ → RowName → Set → SetReply → Type 0
  RowAdds e name r reply = Adds (after_row e name r s reply) reply

  row_adds : (e : ℕ) (name : RowName) (r : Set) → Adds (next s (Row e name r)) (reply_to s (Row e name r))
  unfolding after reply_to
  row_adds e name r = go (held_by e s.held)
    where
      new : (o : Option (ℕ × Set)) → RowAdds e name r (row_new s o)
      new (Some found) = omega arith
      new None = omega (arith, length-append s.context.rows (r ∷ []))

      unbroken : (q : Rule) (o : Option (ℕ × Rule)) → RowAdds e name r (row_unbroken s q o)
      unbroken q (Some found) = omega arith
      unbroken q None = new (first_with (λ r. refutes r q) 0 s.context.rows)

      refuting : (q : Rule) (b : Bool) → RowAdds e name r (row_refuting s q r b)
      refuting q true = omega arith
      refuting q false = unbroken q (first_with (λ i. not (respects r i)) 0 (rules_of s))

      fitting : (q : Rule) (o : Option ℕ) → RowAdds e name r (row_fitting s q r o)
      fitting q (Some a) = omega arith
      fitting q None = refuting q (within q.conclusion r)

      go : (o : Option Rule) → RowAdds e name r (row_reply s o r)
      go None = omega arith
      go (Some q) = fitting q (first_missing 0 q.premise r)

  pub next_adds : (x : SetEvent) → Adds (next s x) (reply_to s x)
  unfolding after reply_to
  next_adds (Draw e) = draw_adds e
  next_adds (Confirm e) = confirm_adds e
  next_adds (Row e name r) = row_adds e name r
  next_adds (Leave e) = omega arith

length-one_more : {X : Type 0} (b : Bool) (x : X) (xs : List X) → length (cond b (x ∷ xs) xs) ≡ cond b 1 0 + length xs
length-one_more true x xs = omega arith
length-one_more false x xs = omega arith

-- the rows and the accepted implications are those that were there and those that were recorded
pub run_adds : (s : State) (es : List SetEvent) → rows_and_rules (state_after s es) ≡ rows_and_rules s + answers_recorded_in (journal_of s es)
unfolding state_after journal_of
run_adds s [] = omega arith
run_adds s (x ∷ es) =
    let here = next_adds s x in
    let more = run_adds (next s x) es in
    let entry : SetEntry = record { event = x; reply = reply_to s x } in
    let counted = length-one_more (is_recorded (reply_to s x)) entry
    (filter (λ (h : SetEntry). is_recorded h.reply) (journal_of (next s x) es)) in
    omega arith

recorded_rows : (s : State) (es : List SetEvent) → (rows : List Set) × ((state_after s es).context.rows ≡ s.context.rows ++ rows)
unfolding state_after
recorded_rows s [] = ([], sym (append-nil s.context.rows))
recorded_rows s (x ∷ es) =
    let same : (rows : List Set) × (s.context.rows ≡ s.context.rows ++ rows) = ([], sym (append-nil s.context.rows)) in
    let one = by_change s x (λ t. (rows : List Set) × (t.context.rows ≡ s.context.rows ++ rows)) same same (λ _ _. same) (λ _ _ _ _. same)
    (λ name r q _ _ _ _ _. (r ∷ [], refl)) in
    let more = recorded_rows (next s x) es in
    (one.0 ++ more.0, more.1 ∙ ap (λ rows. rows ++ more.0) one.1 ∙ append_assoc s.context.rows one.0 more.0)

-- ---- the entries behind some that an expert has already

module _ (D : NamedContext) (e : ℕ) (i : is_expert e ≡ true) (cs : Conflicts) (entries : List SetEntry)
    (runs : OracleRunsFrom D e (moment None cs) entries) where
  -- the bound of what was recorded from the state on, where these rows were dropped before
  abbrev Later : State → List SetEvent → Type 0
  Later s es = length entries + dropped_count cs + 2 * rows_and_rules s ≤ 2 * rows_and_rules (state_after s es) + dropped_count
      (moment_at D (moment None cs) entries).conflicts + 1

  later_bound : (es : List SetEvent) (s : State) (before : List SetEntry) → IsValid s → s.settings.holders ≡ MAX_EXPERTS
      → list_all (λ event. is_expert (expert_of event)) es ≡ true
      → own (journal_of s es) e ≡ before ++ entries → Later s es
  unfolding state_after journal_of
  later_bound es s [] v holders is own_is =
      let bound : Bound D e i (rows_and_rules s) entries (dropped_count cs) None cs (state_after s es) =
      subst (λ xs. OracleRunsFrom D e (moment None cs) xs
      → Bound D e i (rows_and_rules s) xs (dropped_count cs) None cs (state_after s es)) own_is
      (run_bound D e i (rows_and_rules s) es (dropped_count cs) s cs None v holders is (omega arith) tt) runs in
      omega arith
  later_bound [] s (b ∷ before) v holders is own_is = cc
  later_bound (x ∷ es) s (b ∷ before) v holders is own_is =
      let parts = and_parts (is_expert (expert_of x)) (list_all (λ event. is_expert (expert_of event)) es) is in
      let still = ap (λ (t : Settings). t.holders) (next_settings s x) ∙ holders in
      let grown = grows s x in
      let more : Later (next s x) es =
      go (eqb (expert_of x) e) (λ before. later_bound es (next s x) before (next_valid s v x parts.0) still parts.1) own_is in
      omega arith
    where
      go : (mine : Bool) → ((before : List SetEntry) → own (journal_of (next s x) es) e ≡ before ++ entries → Later (next s x) es)
          → cond mine (record { event = x; reply = reply_to s x } ∷ own (journal_of (next s x) es) e) (own (journal_of (next s x) es) e)
          ≡ b ∷ before ++ entries → Later (next s x) es
      go true on h = on before (cc)
      go false on h = on (b ∷ before) h

module _ (K : Context) (names : List RowName) (settings : Settings) (H : List SetEntry) (respecting : rows_respect settings.known K ≡ true)
    (most : settings.holders ≡ MAX_EXPERTS) (legal : IsLegal (opening K names settings) H) where
  abbrev first : State
  first = opening K names settings

  pub valid : IsValid first
  valid = opening_valid K names settings respecting

  counted : rows_and_rules (state_after first (events_of H)) ≡ rows_and_rules first + answers_recorded_in H
  counted = run_adds first (events_of H) ∙ ap (λ J. rows_and_rules first + answers_recorded_in J) legal.replayed

  -- of an oracle that has dropped these rows before
  any_turns : (D : NamedContext) (e : ℕ) → is_expert e ≡ true → (cs : Conflicts) (before entries : List SetEntry)
      → own H e ≡ before ++ entries → OracleRunsFrom D e (moment None cs) entries
      → length entries + dropped_count cs ≤ 2 * answers_recorded_in H + dropped_count (moment_at D (moment None cs) entries).conflicts + 1
  any_turns D e i cs before entries own_is runs =
      let events = legal_events first H legal in
      let bound = later_bound D e i cs entries runs (events_of H) first before valid most events.0
      (ap (λ J. own J e) legal.replayed ∙ own_is) in
      let all = counted in
      omega arith

  pub oracle_turns : (D : NamedContext) (e : ℕ) → is_expert e ≡ true → (before entries : List SetEntry) → own H e ≡ before ++ entries
      → IsOracleFront D e entries
      → length entries ≤ 2 * answers_recorded_in H + dropped_count (conflicts_of D entries) + 1
  oracle_turns D e i before entries own_is front =
      let none : dropped_count (no_conflict D) ≡ 0 = none_dropped D.context.rows in
      let turns = any_turns D e i (no_conflict D) before entries own_is front in
      omega arith

  pub call_turns : (e : ℕ) → is_expert e ≡ true → (old new : Recall) (before entries : List SetEntry) → own H e ≡ before ++ entries
      → SeatRun Answers Learns e old entries new
      → length entries ≤ 2 * answers_recorded_in H + (dropped_count new.conflicts - dropped_count old.conflicts) + 1
  call_turns e i old new before entries own_is run =
      let its = oracle_runs old.table e None old.conflicts old entries new refl refl run in
      let turns = any_turns old.table e i old.conflicts before entries own_is its.run in
      let after : dropped_count new.conflicts ≡ dropped_count (moment_at old.table (moment None old.conflicts) entries).conflicts =
      ap dropped_count its.conflicts in
      omega arith

  pub recorded_few : answers_recorded_in H ≤ 2 ^ K.width
  recorded_few =
      let events = legal_events first H legal in
      let rows = recorded_rows first (events_of H) in
      let count = exploration_count first valid (events_of H) events.0 rows.0 rows.1 in
      let longer : length (state_after first (events_of H)).context.rows ≡ length K.rows + length rows.0 = ap length rows.1
      ∙ length-append K.rows rows.0 in
      let all = counted in
      omega arith

  pub oracle_few : (D : NamedContext) (e : ℕ) → is_expert e ≡ true → (before entries : List SetEntry) → own H e ≡ before ++ entries
      → IsOracleFront D e entries
      → K.width ≤ MAX_SURVEYED → length D.context.rows ≤ MAX_OBJECTS → length entries < MAX_TURNS
  oracle_few D e i before entries own_is front narrow small =
      let turns = oracle_turns D e i before entries own_is front in
      let drops = few_dropped D entries in
      let count = recorded_few in
      let most : 2 ^ K.width ≤ 2 ^ 46 = pow_mono narrow in
      omega arith
