-- How an exploration goes. Each recorded row adds an intent, so rows and accepted implications are bounded by all sets. Where no question
-- is open, a
-- held question that no row refutes would be a member of the basis, so it is accepted already; and a row that respects the rules is an
-- intent, so it
-- refutes nothing that holds. So nothing changes from then on.
use Rattle.std.proofs.Common.{◌≡◌, ℕ, ◌+◌, ◌^◌, ◌≤◌, Bool, true, false, not, cond, Option, Some, None, List, [], ◌∷◌, ◌++◌, length, refl}
use Rattle.std.proofs.Common.{sym, ap, ◌∙◌, subst, arith, inl, inr, ◌↔◌, eqb-true, leb, le-leb, leb-true}
use Rattle.std.proofs.lemmas.Bool.{false≢true, and_parts, and_from, cases_lt, or_left, or_right, not-true}
use Rattle.std.proofs.lemmas.List.{length-append}
use Rattle.std.specs.List.{list_all, list_any}
use Rattle.fca_model.specs.Sets.{Set, within}
use Rattle.fca_model.specs.Context.{closure}
use Rattle.fca_model.specs.Implications.{Rule, respects, respects_all, refutes, holds}
use Rattle.fca_model.specs.Pseudo.{intents}
use Rattle.fca_model.specs.Questions.{has_premise, open_questions}
use Rattle.fca_model.specs.Exploration.{State, SetEvent, SetHold, Settings, rules_of, open_in, held_by, given_back, holders_of, all_held}
use Rattle.fca_model.specs.Exploration.{least_held, asked, draw_reply, reply_to, next, state_after, expert_of, is_expert, has_row_of_width}
use Rattle.fca_model.specs.declared.Event.TheVariants.{Draw}
use Rattle.fca_model.specs.declared.Reply.TheVariants.{AllHeld, Done}
use Rattle.fca_model.specs.Invariant.{IsValid}
use Rattle.fca_model.proofs.ListLemmas.{find_none}
use Rattle.fca_model.proofs.SetLemmas.{within_trans, same-true}
use Rattle.fca_model.proofs.ClosureLemmas.{closure_monotone}
use Rattle.fca_model.proofs.PseudoLemmas.{basis_at, respecting_closed}
use Rattle.fca_model.proofs.QuestionLemmas.{open_none}
use Rattle.fca_model.proofs.InvariantLemmas.{held_member, member_parts}
use Rattle.fca_model.proofs.CountLemmas.{intents_and_accepted, refuting_adds_intent}
use Rattle.fca_model.proofs.DoneLemmas.{accepted_members}
use Rattle.fca_model.proofs.StepLemmas.{by_change}
use Rattle.fca_model.proofs.ValidLemmas.{held_valid, rules_parts, unrefuted_holds, next_valid, run_valid}

-- ---- what no event changes

pub next_width : (s : State) (event : SetEvent) → (next s event).context.width ≡ s.context.width
next_width s event = by_change s event (λ t. t.context.width ≡ s.context.width) refl refl (λ _ _. refl) (λ _ _ _ _. refl)
    (λ _ _ _ _ _ _ _ _. refl)

pub next_settings : (s : State) (event : SetEvent) → (next s event).settings ≡ s.settings
next_settings s event = by_change s event (λ t. t.settings ≡ s.settings) refl refl (λ _ _. refl) (λ _ _ _ _. refl) (λ _ _ _ _ _ _ _ _. refl)

pub run_width : (s : State) (es : List SetEvent) → (state_after s es).context.width ≡ s.context.width
unfolding state_after
run_width s [] = refl
run_width s (x ∷ es) = run_width (next s x) es ∙ next_width s x

pub run_settings : (s : State) (es : List SetEvent) → (state_after s es).settings ≡ s.settings
unfolding state_after
run_settings s [] = refl
run_settings s (x ∷ es) = run_settings (next s x) es ∙ next_settings s x

-- ---- count

-- what one event records, it adds in intents
next_count : (s : State) → IsValid s → (event : SetEvent)
    → length (intents s.context) + length (next s event).context.rows ≤ length (intents (next s event).context) + length s.context.rows
next_count s v event =
    let Goal : State → Type 0 = λ t. length (intents s.context) + length t.context.rows ≤ length
    (intents t.context) + length s.context.rows in
    by_change s event Goal (omega arith) (omega arith) (λ _ _. omega arith) (λ _ _ _ _. omega arith)
    (λ name r q _ held refuted _ unrefuted.
    let h = held_valid s v (expert_of event) q held in
    let more = refuting_adds_intent s.context r q h.premise_wide (unrefuted_holds s.context q h.conclusion_wide unrefuted) refuted in
    omega (arith, more, length-append s.context.rows (r ∷ [])))

run_count : (s : State) → IsValid s → (es : List SetEvent) → list_all (λ event. is_expert (expert_of event)) es ≡ true
    → length (intents s.context) + length (state_after s es).context.rows ≤ length
    (intents (state_after s es).context) + length s.context.rows
unfolding state_after
run_count s v [] i = omega arith
run_count s v (x ∷ es) i =
    let parts = and_parts (is_expert (expert_of x)) (list_all (λ event. is_expert (expert_of event)) es) i in
    omega (arith, next_count s v x, run_count (next s x) (next_valid s v x parts.0) es parts.1)

-- the intents at the opening, the recorded rows and the accepted implications are no more than all sets
pub exploration_count : (s : State) → IsValid s → (es : List SetEvent) → list_all (λ event. is_expert (expert_of event)) es ≡ true
    → (rows : List Set) → (state_after s es).context.rows ≡ s.context.rows ++ rows
    → length (intents s.context) + length rows + length (state_after s es).accepted ≤ 2 ^ s.context.width
exploration_count s v es i rows e =
    let t = state_after s es in
    let valid = run_valid s es i v in
    let fit = intents_and_accepted t.settings.known t.context t.accepted valid.accepted.members valid.accepted.distinct in
    let sets : 2 ^ t.context.width ≡ 2 ^ s.context.width = ap (λ n. 2 ^ n) (run_width s es) in
    let recorded : length t.context.rows ≡ length s.context.rows + length rows = ap length e ∙ length-append s.context.rows rows in
    omega (arith, fit, sets, recorded, run_count s v es i)

-- ---- done

-- some member of a list has the least number
least_of : (f : Rule → ℕ) (i : Rule) (J : List Rule)
    → (x : Rule) × (list_all (λ y. leb (f x) (f y)) (i ∷ J) ≡ true) × ((p : Rule → Bool) → p x ≡ true → list_any p (i ∷ J) ≡ true)
least_of f i [] = (i, and_from (leb (f i) (f i)) true (le-leb (f i) (f i) (omega arith)) refl, λ p t. or_left (p i) false t)
least_of f i (j ∷ J) =
    let rest = least_of f j J in
    elim (cases_lt (f i) (f rest.0)) [
      | inl lt ↦ (
        i,
        and_from (leb (f i) (f i)) (list_all (λ y. leb (f i) (f y)) (j ∷ J)) (le-leb (f i) (f i) (omega arith)) (below rest.0
            (j ∷ J) (omega arith) rest.1),
        λ p t. or_left (p i) (list_any p (j ∷ J)) t,
      )
      | inr ge ↦ (
        rest.0,
        and_from (leb (f rest.0) (f i)) (list_all (λ y. leb (f rest.0) (f y)) (j ∷ J)) (le-leb (f rest.0)
            (f i) ge) rest.1,
        λ p t. or_right (p i) (list_any p (j ∷ J)) (rest.2 p t),
      )
    ]
  where
    below : (x : Rule) (ys : List Rule) → f i ≤ f x → list_all (λ y. leb (f x) (f y)) ys ≡ true → list_all (λ y. leb (f i) (f y)) ys ≡ true
    below x [] le a = refl
    below x (y ∷ ys) le a =
        let parts = and_parts (leb (f x) (f y)) (list_all (λ y. leb (f x) (f y)) ys) a in
        and_from (leb (f i) (f y)) (list_all (λ y. leb (f i) (f y)) ys) (le-leb (f i) (f y) (omega (arith, leb-true (f x) (f y) parts.0)))
        (below x ys le parts.1)

-- a draw answers Done exactly where no question is open
pub draw_done : (s : State) (e : ℕ) → reply_to s (Draw e) ≡ Done ↔ open_in s ≡ []
unfolding reply_to
draw_done s e = (
  done s.settings.holders (given_back e s.held) (open_in s),
  λ none. ap (draw_reply s.settings.holders (given_back e s.held)) none,
)
  where
    done : (most : ℕ) (hs : List SetHold) (J : List Rule) → draw_reply most hs J ≡ Done → J ≡ []
    done most hs [] h = refl
    done most hs (i ∷ J) h = absurd (go (all_held most hs (i ∷ J)) (least_held hs (i ∷ J)) refl h)
      where
        go : (b : Bool) (o : Option Rule) → least_held hs (i ∷ J) ≡ o → cond b AllHeld (asked o) ≡ Done → ⊥
        go true o e h = absurd (cc)
        go false (Some q) e h = absurd (cc)
        go false None e h =
            let fewest : Rule → Bool = λ x. list_all (λ y. leb (holders_of x.premise hs) (holders_of y.premise hs)) (i ∷ J) in
            let least = least_of (λ x. holders_of x.premise hs) i J in
            false≢true (sym (find_none fewest (i ∷ J) e) ∙ least.2 fewest least.1)

module _ (s : State) (v : IsValid s) (done : open_in s ≡ []) where
  -- what is held and holds was accepted
  held_heard : (e : ℕ) (q : Rule) → held_by e s.held ≡ Some q → list_any (λ r. refutes r q) s.context.rows ≡ false
      → has_premise s.accepted q.premise ≡ true
  held_heard e q held unrefuted =
      let S = s.settings.known in
      let K = s.context in
      let h = held_valid s v e q held in
      let parts = member_parts S K q (held_member S K s.accepted v.accepted q h (unrefuted_holds K q h.conclusion_wide unrefuted)) in
      basis_at S K (λ i. has_premise s.accepted i.premise) q.premise parts.0 parts.1 ((open_none S K s.accepted).0 done)

  -- a row that respects the rules refutes nothing that holds
  row_respects : (r : Set) (q : Rule) → length r ≡ s.context.width → respects_all (rules_of s) r ≡ true → holds s.context q ≡ true
      → refutes r q ≡ true → ⊥
  row_respects r q e kept true_here t =
      let S = s.settings.known in
      let K = s.context in
      let both = rules_parts s v r kept in
      let closed = respecting_closed S K r e both.0 (sym (accepted_members S K s.accepted v.accepted done (λ i. respects r i)) ∙ both.1) in
      let parts = and_parts (within q.premise r) (not (within q.conclusion r)) t in
      let up = subst (λ X. within (closure K q.premise) X ≡ true) (sym (same-true r (closure K r) closed))
      (closure_monotone K q.premise r parts.0) in
      false≢true (sym (not-true (within q.conclusion r) parts.1) ∙ within_trans q.conclusion (closure K q.premise) r true_here up)

  -- no event changes the rows or the accepted implications
  pub done_stays : (event : SetEvent) → has_row_of_width s.context.width event ≡ true
      → ((next s event).context ≡ s.context) × ((next s event).accepted ≡ s.accepted)
  done_stays event w =
      let e = expert_of event in
      by_change s event (λ t. (t.context ≡ s.context) × (t.accepted ≡ s.accepted)) (refl, refl) (refl, refl) (λ _ _. (refl, refl))
      (λ q held unrefuted new. absurd (false≢true (sym new ∙ held_heard e q held unrefuted)))
      (λ name r q is held refuted kept unrefuted.
      let h = held_valid s v e q held in
      absurd (row_respects r q (eqb-true (length r) s.context.width (subst (λ x. has_row_of_width s.context.width x ≡ true) is w)) kept
      (unrefuted_holds s.context q h.conclusion_wide unrefuted) refuted))

  pub next_done : (event : SetEvent) → has_row_of_width s.context.width event ≡ true → open_in (next s event) ≡ []
  next_done event w =
      let same = done_stays event w in
      ap (λ (x : Settings). open_questions x.known (next s event).context (next s event).accepted) (next_settings s event)
      ∙ ap (λ K. open_questions s.settings.known K (next s event).accepted) same.0
      ∙ ap (open_questions s.settings.known s.context) same.1 ∙ done

-- and so from then on
pub run_done : (s : State) → IsValid s → open_in s ≡ [] → (es : List SetEvent) → list_all (λ event. is_expert (expert_of event)) es ≡ true
    → list_all (has_row_of_width s.context.width) es ≡ true
    → ((state_after s es).context ≡ s.context) × ((state_after s es).accepted ≡ s.accepted) × (open_in (state_after s es) ≡ [])
unfolding state_after
run_done s v done [] i w = (refl, refl, done)
run_done s v done (x ∷ es) i w =
    let is = and_parts (is_expert (expert_of x)) (list_all (λ event. is_expert (expert_of event)) es) i in
    let ws = and_parts (has_row_of_width s.context.width x) (list_all (has_row_of_width s.context.width) es) w in
    let first = done_stays s v done x ws.0 in
    let rest = run_done (next s x) (next_valid s v x is.0) (next_done s v done x ws.0) es is.1
    (subst (λ n. list_all (has_row_of_width n) es ≡ true) (sym (next_width s x)) ws.1) in
    (rest.0 ∙ first.0, rest.1 ∙ first.1, rest.2)
