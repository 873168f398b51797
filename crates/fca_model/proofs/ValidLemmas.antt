-- What holds of the state at the opening is kept by each event of an expert: of the five changes, a hold that is given back takes nothing
-- away, an open
-- question may be held, and what a confirmation or a row keeps was shown for lists. With as many holders as experts some question is always
-- free,
-- since each expert holds one at most.
use Rattle.std.proofs.Common.{◌≡◌, ◌≢◌, ℕ, zero, suc, ◌+◌, ◌<◌, ◌≤◌, Bool, true, false, not, ◌&&◌, ◌||◌, cond, Option, Some, None, List, []}
use Rattle.std.proofs.Common.{◌∷◌, ◌++◌, length, find, option_map, refl, sym, ap, ◌∙◌, subst, arith, inl, inr, eqb, eqb-true, leb, le-leb}
use Rattle.std.proofs.Common.{leb-true}
use Rattle.std.proofs.lemmas.Bool.{false≢true, and_parts, and_from, cases_Bool, or_parts, or_from, not-true, eqb-false}
use Rattle.std.proofs.lemmas.List.Folds.{list_all-append, list_any-append}
use Rattle.std.proofs.lemmas.List.Elements.{All-append, All-cons, All-head, All-tail, All-nil, All-filter, All-weaker}
use Rattle.std.specs.List.{All, list_all, list_any}
use Rattle.fca_model.specs.declared.TheConstants.{MAX_EXPERTS}
use Rattle.fca_model.specs.Sets.{Set, within, same}
use Rattle.fca_model.specs.Context.{Context, with_row}
use Rattle.fca_model.specs.Implications.{Rule, respects, respects_all, refutes, holds}
use Rattle.fca_model.specs.Questions.{has_premise}
use Rattle.fca_model.specs.Exploration.{State, SetEvent, SetHold, RowName, Settings, rules_of, open_in, held_by, given_back, holders_of}
use Rattle.fca_model.specs.Exploration.{all_held, least_held, asked, draw_reply, reply_to, release, accept, record_row, next, opening}
use Rattle.fca_model.specs.Exploration.{state_after, expert_of, is_expert}
use Rattle.fca_model.specs.declared.Event.TheVariants.{Draw}
use Rattle.fca_model.specs.declared.Reply.TheVariants.{AllHeld}
use Rattle.fca_model.specs.Invariant.{Among, MayBeHeld, IsValid, rows_respect, is_holding, have_distinct_experts}
use Rattle.fca_model.proofs.ListLemmas.{filter_all}
use Rattle.fca_model.proofs.ClosureLemmas.{holds_by_rows}
use Rattle.fca_model.proofs.InvariantLemmas.{row_keeps_accepted, row_keeps_held, confirm_keeps_accepted, confirm_keeps_held}
use Rattle.fca_model.proofs.InvariantLemmas.{draw_gives_held}
use Rattle.fca_model.proofs.StepLemmas.{by_change}

-- ---- holds

is_holding-given_back : (hs : List SetHold) (e f : ℕ) → is_holding hs f ≡ false → is_holding (given_back e hs) f ≡ false
is_holding-given_back [] e f n = refl
is_holding-given_back (h ∷ hs) e f n =
    let ns = or_parts (eqb h.expert f) (is_holding hs f) n in
    elim (eqb h.expert e) as (λ b. is_holding (cond (not b) (h ∷ given_back e hs) (given_back e hs)) f ≡ false) [
      | true ↦ is_holding-given_back hs e f ns.1
      | false ↦ or_from (eqb h.expert f) (is_holding (given_back e hs) f) ns.0 (is_holding-given_back hs e f ns.1)
    ]

distinct_parts : (h : SetHold) (hs : List SetHold) → have_distinct_experts (h ∷ hs) ≡ true
    → (is_expert h.expert ≡ true) × (is_holding hs h.expert ≡ false) × (have_distinct_experts hs ≡ true)
distinct_parts h hs d =
    let outer = and_parts (is_expert h.expert && not (is_holding hs h.expert)) (have_distinct_experts hs) d in
    let inner = and_parts (is_expert h.expert) (not (is_holding hs h.expert)) outer.0 in
    (inner.0, not-true (is_holding hs h.expert) inner.1, outer.1)

distinct_from : (h : SetHold) (hs : List SetHold) → is_expert h.expert ≡ true → is_holding hs h.expert ≡ false → have_distinct_experts hs ≡ true
    → have_distinct_experts (h ∷ hs) ≡ true
distinct_from h hs i n d = and_from (is_expert h.expert && not (is_holding hs h.expert)) (have_distinct_experts hs)
    (and_from (is_expert h.expert) (not (is_holding hs h.expert)) i (ap not n)) d

pub have_distinct_experts-given_back : (e : ℕ) (hs : List SetHold) → have_distinct_experts hs ≡ true → have_distinct_experts (given_back e hs) ≡ true
have_distinct_experts-given_back e [] d = refl
have_distinct_experts-given_back e (h ∷ hs) d =
    let ds = distinct_parts h hs d in
    elim (eqb h.expert e) as (λ b. have_distinct_experts (cond (not b) (h ∷ given_back e hs) (given_back e hs)) ≡ true) [
      | true ↦ have_distinct_experts-given_back e hs ds.2
      | false ↦ distinct_from h (given_back e hs) ds.0 (is_holding-given_back hs e h.expert ds.1) (have_distinct_experts-given_back e hs ds.2)
    ]

-- after e's hold was given back, e holds nothing
none_held : (e : ℕ) (hs : List SetHold) → is_holding (given_back e hs) e ≡ false
none_held e [] = refl
none_held e (h ∷ hs) = go (eqb h.expert e) refl (none_held e hs)
  where
    go : (b : Bool) → eqb h.expert e ≡ b → is_holding (given_back e hs) e ≡ false
        → is_holding (cond (not b) (h ∷ given_back e hs) (given_back e hs)) e ≡ false
    go true t rest = rest
    go false f rest = or_from (eqb h.expert e) (is_holding (given_back e hs) e) f rest

have_distinct_experts-push : (hs : List SetHold) (h : SetHold) → is_expert h.expert ≡ true → is_holding hs h.expert ≡ false
    → have_distinct_experts hs ≡ true → have_distinct_experts (hs ++ h ∷ []) ≡ true
have_distinct_experts-push [] h i n d = distinct_from h [] i refl refl
have_distinct_experts-push (g ∷ hs) h i n d =
    let ns = or_parts (eqb g.expert h.expert) (is_holding hs h.expert) n in
    let ds = distinct_parts g hs d in
    let other : eqb h.expert g.expert ≡ false = not_equal h.expert g.expert ns.0 in
    distinct_from g (hs ++ h ∷ []) ds.0 (list_any-append (λ x. eqb x.expert g.expert) hs (h ∷ [])
    ∙ or_from (is_holding hs g.expert) (eqb h.expert g.expert || false) ds.1 (or_from (eqb h.expert g.expert) false other refl))
    (have_distinct_experts-push hs h i ns.1 ds.2)
  where
    not_equal : (a b : ℕ) → eqb b a ≡ false → eqb a b ≡ false
    not_equal a b f = elim (cases_Bool (eqb a b)) [
      | inl t ↦ absurd (eqb-false b a f (sym (eqb-true a b t)))
      | inr g ↦ g
    ]

-- what is held by an expert is one of the holds' questions
held_all : (P : Rule → Type 0) (e : ℕ) (hs : List SetHold) (q : Rule) → All (λ h. P h.question) hs → held_by e hs ≡ Some q → P q
held_all P e [] q a h = absurd (cc)
held_all P e (x ∷ hs) q a h = go (eqb x.expert e) h (held_all P e hs q (All-tail (λ h. P h.question) x hs a))
  where
    go : (b : Bool) → option_map (λ h. h.question) (cond b (Some x) (find (λ h. eqb h.expert e) hs)) ≡ Some q
        → (held_by e hs ≡ Some q → P q) → P q
    go true h rest = let found : x.question ≡ q = cc in subst P found (All-head (λ h. P h.question) x hs a)
    go false h rest = rest h

-- ---- each event keeps what holds

-- what no row refutes holds
pub unrefuted_holds : (K : Context) (q : Rule) → length q.conclusion ≡ K.width → list_any (λ r. refutes r q) K.rows ≡ false
    → holds K q ≡ true
unrefuted_holds K q e h = holds_by_rows K q e ∙ each_respects K.rows h
  where
    each_respects : (rows : List Set) → list_any (λ r. refutes r q) rows ≡ false → list_all (λ r. respects r q) rows ≡ true
    each_respects [] h = refl
    each_respects (r ∷ rows) h =
        let parts = or_parts (refutes r q) (list_any (λ r. refutes r q) rows) h in
        and_from (respects r q) (list_all (λ r. respects r q) rows) (turn (within q.premise r) (within q.conclusion r) parts.0)
        (each_respects rows parts.1)
      where
        turn : (a b : Bool) → (a && not b) ≡ false → (not a || b) ≡ true
        turn true true h = refl
        turn true false h = absurd (false≢true (sym h))
        turn false b h = refl

module _ (s : State) (v : IsValid s) where
  pub held_valid : (e : ℕ) (q : Rule) → held_by e s.held ≡ Some q → MayBeHeld s.settings.known s.context s.accepted q
  held_valid e q h = held_all (MayBeHeld s.settings.known s.context s.accepted) e s.held q v.held h

  -- the parts of the rules
  pub rules_parts : (r : Set) → respects_all (rules_of s) r ≡ true
      → (respects_all s.settings.known r ≡ true) × (respects_all s.accepted r ≡ true)
  rules_parts r h = and_parts (respects_all s.settings.known r) (respects_all s.accepted r)
      (sym (list_all-append (respects r) s.settings.known s.accepted) ∙ h)

  release_valid : (e : ℕ) → IsValid (release e s)
  release_valid e = record {
    known = v.known;
    accepted = v.accepted;
    held = All-filter (λ h. not (eqb h.expert e)) (λ h. MayBeHeld s.settings.known s.context s.accepted h.question) s.held v.held;
    experts = have_distinct_experts-given_back e s.held v.experts;
  }

  ask_valid : (e : ℕ) (q : Rule) → is_expert e ≡ true → Among (open_in s) q
      → IsValid (record s { held = given_back e s.held ++ record { expert = e; question = q } ∷ [] })
  ask_valid e q i in_open =
      let P : SetHold → Type 0 = λ h. MayBeHeld s.settings.known s.context s.accepted h.question in
      let new : SetHold = record { expert = e; question = q } in
      record {
        known = v.known;
        accepted = v.accepted;
        held = All-append P (given_back e s.held) (new ∷ []) (release_valid e).held
            (All-cons P new [] (draw_gives_held s.settings.known s.context s.accepted q in_open) (All-nil P));
        experts = have_distinct_experts-push (given_back e s.held) new i (none_held e s.held)
            (have_distinct_experts-given_back e s.held v.experts);
      }

  accept_valid : (e : ℕ) (q : Rule) → held_by e s.held ≡ Some q → list_any (λ r. refutes r q) s.context.rows ≡ false
      → has_premise s.accepted q.premise ≡ false → IsValid (release e (accept (Some q) s))
  accept_valid e q h unrefuted new =
      let held = held_valid e q h in
      let S = s.settings.known in
      record {
        known = v.known;
        accepted = confirm_keeps_accepted S s.context s.accepted v.accepted q held
            (unrefuted_holds s.context q held.conclusion_wide unrefuted) new;
        held = All-weaker (λ h. MayBeHeld S s.context s.accepted h.question) (λ h. MayBeHeld S s.context (s.accepted ++ q ∷ []) h.question)
            (λ h other. confirm_keeps_held S s.context s.accepted v.accepted q h.question other) (given_back e s.held)
            (release_valid e).held;
        experts = have_distinct_experts-given_back e s.held v.experts;
      }

  record_valid : (e : ℕ) (name : RowName) (r : Set) → respects_all (rules_of s) r ≡ true → IsValid (release e (record_row name r s))
  record_valid e name r h =
      let S = s.settings.known in
      let parts = rules_parts r h in
      record {
        known = list_all-append (respects_all S) s.context.rows (r ∷ [])
            ∙ and_from (rows_respect S s.context) (respects_all S r && true) v.known (and_from (respects_all S r) true parts.0 refl);
        accepted = row_keeps_accepted S s.context s.accepted v.accepted r parts.1;
        held = All-weaker (λ h. MayBeHeld S s.context s.accepted h.question) (λ h. MayBeHeld S (with_row s.context r) s.accepted h.question)
            (λ h other. row_keeps_held S s.context s.accepted v.accepted r parts.1 h.question other) (given_back e s.held)
            (release_valid e).held;
        experts = have_distinct_experts-given_back e s.held v.experts;
      }

  pub next_valid : (event : SetEvent) → is_expert (expert_of event) ≡ true → IsValid (next s event)
  next_valid event i =
      let e = expert_of event in
      by_change s event IsValid v (release_valid e) (λ q. ask_valid e q i) (accept_valid e) (λ name r q _ _ _ h _. record_valid e name r h)

pub opening_valid : (K : Context) (names : List RowName) (settings : Settings) → rows_respect settings.known K ≡ true
    → IsValid (opening K names settings)
opening_valid K names settings h = record {
  known = h;
  accepted = record { members = refl; smaller = λ i in_none. absurd (false≢true (in_none (λ _. false) refl)); distinct = refl };
  held = All-nil (λ (h : SetHold). MayBeHeld settings.known K [] h.question);
  experts = refl;
}

pub run_valid : (s : State) (events : List SetEvent) → list_all (λ event. is_expert (expert_of event)) events ≡ true → IsValid s
    → IsValid (state_after s events)
unfolding state_after
run_valid s [] i v = v
run_valid s (event ∷ events) i v =
    let parts = and_parts (is_expert (expert_of event)) (list_all (λ event. is_expert (expert_of event)) events) i in
    run_valid (next s event) events parts.1 (next_valid s v event parts.0)

-- ---- with as many holders as experts

-- experts up to n hold at most n questions
few_holds : (n : ℕ) (hs : List SetHold) → have_distinct_experts hs ≡ true → list_all (λ h. leb h.expert n) hs ≡ true → length hs ≤ n
few_holds zero [] d a = omega arith
few_holds zero (h ∷ hs) d a =
    let first = and_parts (leb 1 h.expert) (leb h.expert MAX_EXPERTS) (distinct_parts h hs d).0 in
    let least : 1 ≤ h.expert = leb-true 1 h.expert first.0 in
    let most : h.expert ≤ 0 = leb-true h.expert 0 (and_parts (leb h.expert 0) (list_all (λ h. leb h.expert 0) hs) a).0 in
    absurd (omega arith)
few_holds (suc n) hs d a =
    let rest = few_holds n (given_back (suc n) hs) (have_distinct_experts-given_back (suc n) hs d) (smaller hs a) in
    omega (arith, rest, one_less (suc n) hs d)
  where
    smaller : (hs : List SetHold) → list_all (λ h. leb h.expert (suc n)) hs ≡ true
        → list_all (λ h. leb h.expert n) (given_back (suc n) hs) ≡ true
    smaller [] a = refl
    smaller (h ∷ hs) a =
        let parts = and_parts (leb h.expert (suc n)) (list_all (λ h. leb h.expert (suc n)) hs) a in
        go (eqb h.expert (suc n)) refl parts.0 (smaller hs parts.1)
      where
        go : (b : Bool) → eqb h.expert (suc n) ≡ b → leb h.expert (suc n) ≡ true
            → list_all (λ h. leb h.expert n) (given_back (suc n) hs) ≡ true
            → list_all (λ h. leb h.expert n) (cond (not b) (h ∷ given_back (suc n) hs) (given_back (suc n) hs)) ≡ true
        go true e l rest = rest
        go false e l rest =
            let below : h.expert ≤ suc n = leb-true h.expert (suc n) l in
            let other : h.expert ≢ suc n = eqb-false h.expert (suc n) e in
            and_from (leb h.expert n) (list_all (λ h. leb h.expert n) (given_back (suc n) hs)) (le-leb h.expert n (omega arith)) rest

    one_less : (e : ℕ) (hs : List SetHold) → have_distinct_experts hs ≡ true → length hs ≤ suc (length (given_back e hs))
    one_less e [] d = omega arith
    one_less e (h ∷ hs) d = go (eqb h.expert e) refl (distinct_parts h hs d) (one_less e hs)
      where
        go : (b : Bool) → eqb h.expert e ≡ b → (is_expert h.expert ≡ true) × (is_holding hs h.expert ≡ false) × (have_distinct_experts hs ≡ true)
            → (have_distinct_experts hs ≡ true → length hs ≤ suc (length (given_back e hs)))
            → suc (length hs) ≤ suc (length (cond (not b) (h ∷ given_back e hs) (given_back e hs)))
        go true t ds rest =
            let alone : given_back e hs ≡ hs = subst (λ f. given_back f hs ≡ hs) (eqb-true h.expert e t)
            (filter_all (λ x. not (eqb x.expert h.expert)) hs (nobody hs ds.1)) in
            let long = ap length alone in
            omega arith
          where
            nobody : (hs : List SetHold) → is_holding hs h.expert ≡ false → list_all (λ x. not (eqb x.expert h.expert)) hs ≡ true
            nobody [] n = refl
            nobody (g ∷ hs) n =
                let ns = or_parts (eqb g.expert h.expert) (is_holding hs h.expert) n in
                and_from (not (eqb g.expert h.expert)) (list_all (λ x. not (eqb x.expert h.expert)) hs) (ap not ns.0) (nobody hs ns.1)
        go false f ds rest = omega (arith, rest ds.2)

experts_small : (hs : List SetHold) → have_distinct_experts hs ≡ true → list_all (λ h. leb h.expert MAX_EXPERTS) hs ≡ true
experts_small [] d = refl
experts_small (h ∷ hs) d =
    let ds = distinct_parts h hs d in
    and_from (leb h.expert MAX_EXPERTS) (list_all (λ h. leb h.expert MAX_EXPERTS) hs)
    (and_parts (leb 1 h.expert) (leb h.expert MAX_EXPERTS) ds.0).1 (experts_small hs ds.2)

holders_of-le : (P : Set) (hs : List SetHold) → holders_of P hs ≤ length hs
holders_of-le P [] = omega arith
holders_of-le P (h ∷ hs) = elim (same h.question.premise P) as (λ b. cond b 1 0 + holders_of P hs ≤ suc (length hs)) [
  | true ↦ omega (arith, holders_of-le P hs)
  | false ↦ omega (arith, holders_of-le P hs)
]

-- without e's own hold, fewer experts hold a question than there are
pub others_fewer : (e : ℕ) (q : Rule) (hs : List SetHold) → is_expert e ≡ true → have_distinct_experts hs ≡ true
    → length (given_back e hs) < MAX_EXPERTS
others_fewer e q hs i d =
    let mine : SetHold = record { expert = e; question = q } in
    let all_distinct = distinct_from mine (given_back e hs) i (none_held e hs) (have_distinct_experts-given_back e hs d) in
    few_holds MAX_EXPERTS (mine ∷ given_back e hs) all_distinct (experts_small (mine ∷ given_back e hs) all_distinct)

pub never_all_held : (s : State) → IsValid s → s.settings.holders ≡ MAX_EXPERTS → (e : ℕ) → is_expert e ≡ true
    → reply_to s (Draw e) ≢ AllHeld
unfolding reply_to
never_all_held s v most e i = go s.settings.holders (open_in s) most
  where
    free : (m : ℕ) (q : Rule) (J : List Rule) → m ≡ MAX_EXPERTS → all_held m (given_back e s.held) (q ∷ J) ≡ false
    free m q J is = go (all_held m (given_back e s.held) (q ∷ J)) refl
      where
        go : (b : Bool) → all_held m (given_back e s.held) (q ∷ J) ≡ b → b ≡ false
        go false t = refl
        go true t =
            let held : m ≤ holders_of q.premise (given_back e s.held) = leb-true m (holders_of q.premise (given_back e s.held))
            (and_parts (leb m (holders_of q.premise (given_back e s.held))) (all_held_rest m q J) t).0 in
            absurd (omega (arith, others_fewer e q s.held i v.experts, holders_of-le q.premise (given_back e s.held)))
          where
            all_held_rest : ℕ → Rule → List Rule → Bool
            all_held_rest m q J = list_all (λ j. leb m (holders_of j.premise (given_back e s.held))) J

    go : (m : ℕ) (J : List Rule) → m ≡ MAX_EXPERTS → draw_reply m (given_back e s.held) J ≢ AllHeld
    go m [] is h = absurd (cc)
    go m (q ∷ J) is h = asks (least_held (given_back e s.held) (q ∷ J))
        (sym (ap (λ b. cond b AllHeld (asked (least_held (given_back e s.held) (q ∷ J)))) (free m q J is)) ∙ h)
      where
        asks : (o : Option Rule) → asked o ≢ AllHeld
        asks None h = absurd (cc)
        asks (Some x) h = absurd (cc)
