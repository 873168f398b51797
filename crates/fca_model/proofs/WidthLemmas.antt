-- All sets of a reply have the width of the context. A question has it as a member of the basis or as one that is held, a row
-- as one of the context, and an implication as a known or an accepted one; and no event changes the width.
use Rattle.std.proofs.Common.{◌≡◌, ℕ, ◌+◌, ◌<◌, Bool, true, false, not, ◌&&◌, cond, Option, Some, None, List, [], ◌∷◌, length, All, refl}
use Rattle.std.proofs.Common.{sym, ap, ◌∙◌, subst, arith, eqb, eqb-true, eq-eqb, nat_le}
use Rattle.std.proofs.lemmas.Bool.{and_parts, and_from}
use Rattle.std.proofs.lemmas.List.Elements.{All-nil, All-cons, All-head, All-tail}
use Rattle.std.proofs.lemmas.List.Folds.{list_all-append}
use Rattle.std.specs.List.{list_all}
use Rattle.fca_model.specs.declared.Event.TheVariants.{Draw, Confirm, Row, Leave}
use Rattle.fca_model.specs.declared.Reply.TheVariants.{AllHeld}
use Rattle.fca_model.specs.Sets.{Set, within, size, same}
use Rattle.fca_model.specs.Context.{Context, closure}
use Rattle.fca_model.specs.Implications.{Rule, respects, refutes}
use Rattle.fca_model.specs.Pseudo.{basis_known}
use Rattle.fca_model.specs.Questions.{has_premise, waiting, least_size, open_questions}
use Rattle.fca_model.specs.Invariant.{is_member, IsValid}
use Rattle.fca_model.specs.Exploration.{State, SetEvent, SetEntry, SetHold, rules_of, open_in, held_by, given_back, holders_of, all_held}
use Rattle.fca_model.specs.Exploration.{least_held, first_with, first_missing, asked, draw_reply, confirm_unheard, confirm_unrefuted}
use Rattle.fca_model.specs.Exploration.{confirm_reply, row_new, row_unbroken, row_refuting, row_fitting, row_reply, reply_to, next}
use Rattle.fca_model.specs.Exploration.{journal_of, events_of, expert_of, is_expert, has_row_of_width, IsLegal}
use Rattle.fca_model.specs.Widths.{IsWide, HasWideReply}
use Rattle.fca_model.proofs.ListLemmas.{list_all-mono, list_all-filter_kept, find_all}
use Rattle.fca_model.proofs.ClosureLemmas.{length-closure}
use Rattle.fca_model.proofs.PseudoLemmas.{basis_all}
use Rattle.fca_model.proofs.InvariantLemmas.{member_parts}
use Rattle.fca_model.proofs.StepLemmas.{by_change}
use Rattle.fca_model.proofs.ValidLemmas.{held_valid, next_valid}
use Rattle.fca_model.proofs.CourseLemmas.{next_width, next_settings}
use Rattle.fca_model.proofs.RunLemmas.{legal_events}

-- ---- tests of width

abbrev row_wide : ℕ → Set → Bool
row_wide n row = eqb (length row) n

abbrev wide : ℕ → Rule → Bool
wide n i = eqb (length i.premise) n && eqb (length i.conclusion) n

is_wide : (n : ℕ) (i : Rule) → wide n i ≡ true → IsWide n i
is_wide n i w = let parts = and_parts (eqb (length i.premise) n) (eqb (length i.conclusion) n) w in
    (eqb-true (length i.premise) n parts.0, eqb-true (length i.conclusion) n parts.1)

wide_from : (n : ℕ) (i : Rule) → length i.premise ≡ n → length i.conclusion ≡ n → wide n i ≡ true
wide_from n i p c = and_from (eqb (length i.premise) n) (eqb (length i.conclusion) n) (eq-eqb (length i.premise) n p)
    (eq-eqb (length i.conclusion) n c)

rows_wide : (n : ℕ) (rows : List Set) → All (λ row. length row ≡ n) rows → list_all (row_wide n) rows ≡ true
rows_wide n [] a = refl
rows_wide n (row ∷ rows) a = and_from (row_wide n row) (list_all (row_wide n) rows)
    (eq-eqb (length row) n (All-head (λ row. length row ≡ n) row rows a)) (rows_wide n rows (All-tail (λ row. length row ≡ n) row rows a))

rules_wide : (n : ℕ) (J : List Rule) → All (IsWide n) J → list_all (wide n) J ≡ true
rules_wide n [] a = refl
rules_wide n (i ∷ J) a = let head = All-head (IsWide n) i J a in
    and_from (wide n i) (list_all (wide n) J) (wide_from n i head.0 head.1) (rules_wide n J (All-tail (IsWide n) i J a))

-- ---- what is found is in the list

first_with_found : {X : Type 0} (p q : X → Bool) (k : ℕ) (xs : List X) (found : ℕ × X) → first_with p k xs ≡ Some found
    → list_all q xs ≡ true → q found.1 ≡ true
first_with_found p q k [] found h all = absurd (cc)
first_with_found {X} p q k (x ∷ xs) found h all =
    go (p x) h (λ e. first_with_found p q (k + 1) xs found e (and_parts (q x) (list_all q xs) all).1)
  where
    go : (b : Bool) → cond b (Some (k, x)) (first_with p (k + 1) xs) ≡ Some found
        → (first_with p (k + 1) xs ≡ Some found → q found.1 ≡ true) → q found.1 ≡ true
    go true e rest = let is : (k, x) ≡ found = cc in subst (λ (z : ℕ × X). q z.1 ≡ true) is (and_parts (q x) (list_all q xs) all).0
    go false e rest = rest e

first_missing_below : (k : ℕ) (P r : Set) (a : ℕ) → first_missing k P r ≡ Some a → a < k + length P
first_missing_below k [] r a h = absurd (cc)
first_missing_below k (true ∷ P) [] a h = let is : k ≡ a = cc in omega arith
first_missing_below k (false ∷ P) [] a h = let more = first_missing_below (k + 1) P [] a h in omega arith
first_missing_below k (true ∷ P) (true ∷ r) a h = let more = first_missing_below (k + 1) P r a h in omega arith
first_missing_below k (true ∷ P) (false ∷ r) a h = let is : k ≡ a = cc in omega arith
first_missing_below k (false ∷ P) (b ∷ r) a h = let more = first_missing_below (k + 1) P r a h in omega arith

-- ---- questions and accepted implications

open_wide : (S : List Rule) (K : Context) (acc : List Rule) → list_all (wide K.width) (open_questions S K acc) ≡ true
unfolding open_questions waiting
open_wide S K acc =
    let J : List Rule = waiting S K acc in
    list_all-filter_kept (wide K.width) (λ i. eqb (size i.premise) (least_size J)) J
    (list_all-filter_kept (wide K.width) (λ i. not (has_premise acc i.premise)) (basis_known S K)
    (basis_all S K (wide K.width) (λ P e _. and_from (eqb (length P) K.width) (eqb (length (closure K P)) K.width)
    (eq-eqb (length P) K.width e) (eq-eqb (length (closure K P)) K.width (length-closure K P)))))

accepted_wide : (S : List Rule) (K : Context) (acc : List Rule) → list_all (is_member S K) acc ≡ true → list_all (wide K.width) acc ≡ true
accepted_wide S K acc members = list_all-mono (is_member S K) (wide K.width)
    (λ i m. let parts = member_parts S K i m in wide_from K.width i parts.0
    (ap (λ (i : Rule). length i.conclusion) parts.2 ∙ length-closure K i.premise)) acc members

-- ---- the reply to an event

module _ (s : State) (v : IsValid s) (rows : list_all (row_wide s.context.width) s.context.rows ≡ true)
    (known : list_all (wide s.context.width) s.settings.known ≡ true) where
  abbrev n : ℕ
  n = s.context.width

  rules : list_all (wide n) (rules_of s) ≡ true
  rules = list_all-append (wide n) s.settings.known s.accepted
      ∙ and_from (list_all (wide n) s.settings.known) (list_all (wide n) s.accepted) known
      (accepted_wide s.settings.known s.context s.accepted v.accepted.members)

  draw_wide : (most : ℕ) (hs : List SetHold) (J : List Rule) → list_all (wide n) J ≡ true → HasWideReply n (draw_reply most hs J)
  draw_wide most hs [] all = tt
  draw_wide most hs (i ∷ J) all = go (all_held most hs (i ∷ J)) (least_held hs (i ∷ J)) refl
    where
      go : (b : Bool) (o : Option Rule) → least_held hs (i ∷ J) ≡ o → HasWideReply n (cond b AllHeld (asked o))
      go true o e = tt
      go false None e = tt
      go false (Some q) e = is_wide n q (find_all (λ x. list_all (λ y. nat_le (holders_of x.premise hs) (holders_of y.premise hs)) (i ∷ J))
          (wide n) (i ∷ J) q e all)

  confirm_wide : (o : Option Rule) → HasWideReply n (confirm_reply s o)
  confirm_wide None = tt
  confirm_wide (Some q) = unrefuted (first_with (λ r. refutes r q) 0 s.context.rows) refl
    where
      unheard : (o : Option (ℕ × Rule)) → first_with (λ i. same i.premise q.premise) (length s.settings.known) s.accepted ≡ o
          → HasWideReply n (confirm_unheard s o)
      unheard (Some f) h = is_wide n f.1 (first_with_found (λ i. same i.premise q.premise) (wide n) (length s.settings.known) s.accepted f h
          (accepted_wide s.settings.known s.context s.accepted v.accepted.members))
      unheard None h = tt

      unrefuted : (o : Option (ℕ × Set)) → first_with (λ r. refutes r q) 0 s.context.rows ≡ o → HasWideReply n (confirm_unrefuted s q o)
      unrefuted (Some f) h = eqb-true (length f.1) n (first_with_found (λ r. refutes r q) (row_wide n) 0 s.context.rows f h rows)
      unrefuted None h = unheard (first_with (λ i. same i.premise q.premise) (length s.settings.known) s.accepted) refl

  given_wide : (e : ℕ) (r : Set) → HasWideReply n (row_reply s (held_by e s.held) r)
  given_wide e r = go (held_by e s.held) refl
    where
      new : (q : Rule) → (o : Option (ℕ × Set)) → first_with (λ r. refutes r q) 0 s.context.rows ≡ o → HasWideReply n (row_new s o)
      new q (Some f) h = eqb-true (length f.1) n (first_with_found (λ r. refutes r q) (row_wide n) 0 s.context.rows f h rows)
      new q None h = tt

      unbroken : (q : Rule) → (o : Option (ℕ × Rule)) → first_with (λ i. not (respects r i)) 0 (rules_of s) ≡ o
          → HasWideReply n (row_unbroken s q o)
      unbroken q (Some f) h = is_wide n f.1 (first_with_found (λ i. not (respects r i)) (wide n) 0 (rules_of s) f h rules)
      unbroken q None h = new q (first_with (λ r. refutes r q) 0 s.context.rows) refl

      refuting : (q : Rule) (b : Bool) → HasWideReply n (row_refuting s q r b)
      refuting q true = tt
      refuting q false = unbroken q (first_with (λ i. not (respects r i)) 0 (rules_of s)) refl

      fitting : (q : Rule) → length q.premise ≡ n → (o : Option ℕ) → first_missing 0 q.premise r ≡ o → HasWideReply n (row_fitting s q r o)
      fitting q is (Some a) h = let below = first_missing_below 0 q.premise r a h in omega arith
      fitting q is None h = refuting q (within q.conclusion r)

      go : (o : Option Rule) → held_by e s.held ≡ o → HasWideReply n (row_reply s o r)
      go None h = tt
      go (Some q) h = fitting q (held_valid s v e q h).premise_wide (first_missing 0 q.premise r) refl

  reply_wide : (event : SetEvent) → HasWideReply n (reply_to s event)
  unfolding reply_to
  reply_wide (Draw e) = draw_wide s.settings.holders (given_back e s.held) (open_in s) (open_wide s.settings.known s.context s.accepted)
  reply_wide (Confirm e) = confirm_wide (held_by e s.held)
  reply_wide (Row e name r) = given_wide e r
  reply_wide (Leave e) = tt

-- ---- whole runs

-- the rows have the width after each event
next_rows : (s : State) (event : SetEvent) → list_all (row_wide s.context.width) s.context.rows ≡ true
    → has_row_of_width s.context.width event ≡ true
    → list_all (row_wide (next s event).context.width) (next s event).context.rows ≡ true
next_rows s event rows w =
    by_change s event (λ (t : State). list_all (row_wide t.context.width) t.context.rows ≡ true) rows rows (λ _ _. rows) (λ _ _ _ _. rows)
    (λ name r q is _ _ _ _. list_all-append (row_wide s.context.width) s.context.rows (r ∷ [])
    ∙ and_from (list_all (row_wide s.context.width) s.context.rows) (row_wide s.context.width r && true) rows
    (and_from (row_wide s.context.width r) true (subst (λ event. has_row_of_width s.context.width event ≡ true) is w) refl))

run_wide : (s : State) → IsValid s → list_all (row_wide s.context.width) s.context.rows ≡ true
    → list_all (wide s.context.width) s.settings.known ≡ true
    → (es : List SetEvent) → list_all (λ event. is_expert (expert_of event)) es ≡ true → list_all (has_row_of_width s.context.width) es ≡ true
    → All (λ (entry : SetEntry). HasWideReply s.context.width entry.reply) (journal_of s es)
unfolding journal_of
run_wide s v rows known [] i w = All-nil (λ (entry : SetEntry). HasWideReply s.context.width entry.reply)
run_wide s v rows known (event ∷ es) i w =
    let experts = and_parts (is_expert (expert_of event)) (list_all (λ event. is_expert (expert_of event)) es) i in
    let widths = and_parts (has_row_of_width s.context.width event) (list_all (has_row_of_width s.context.width) es) w in
    let same_width = next_width s event in
    let rest = run_wide (next s event) (next_valid s v event experts.0) (next_rows s event rows widths.0)
    (subst (λ (z : ℕ × List Rule). list_all (wide z.0) z.1 ≡ true) (λ j. (sym same_width j, (sym (next_settings s event) j).known)) known)
    es experts.1 (subst (λ n. list_all (has_row_of_width n) es ≡ true) (sym same_width) widths.1) in
    All-cons (λ (entry : SetEntry). HasWideReply s.context.width entry.reply) (record { event = event; reply = reply_to s event })
    (journal_of (next s event) es)
    (reply_wide s v rows known event)
    (subst (λ n. All (λ (entry : SetEntry). HasWideReply n entry.reply) (journal_of (next s event) es)) same_width rest)

-- in a legal history all sets have the width of the context, where its rows and the known implications have it
pub legal_wide : (s : State) → IsValid s → All (λ row. length row ≡ s.context.width) s.context.rows
    → All (IsWide s.context.width) s.settings.known
    → (H : List SetEntry) → IsLegal s H → All (λ (entry : SetEntry). HasWideReply s.context.width entry.reply) H
legal_wide s v rows known H l =
    let events = legal_events s H l in
    subst (All (λ (entry : SetEntry). HasWideReply s.context.width entry.reply)) l.replayed
    (run_wide s v (rows_wide s.context.width s.context.rows rows) (rules_wide s.context.width s.settings.known known)
    (events_of H) events.0 events.1)
