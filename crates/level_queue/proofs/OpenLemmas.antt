-- The questions of the queue are the open ones: none that waits is smaller than the level, since each smaller member is accepted, so those
-- of the level that were not accepted are the smallest, if there are any. Where there are none, each member up to the level is accepted,
-- and the next level can be opened.
use Rattle.std.proofs.Common.{◌≡◌, ◌≢◌, ℕ, suc, ◌+◌, ◌<◌, ◌≤◌, Bool, true, false, not, ◌||◌, cond, List, [], ◌∷◌, ◌++◌, map, length, filter}
use Rattle.std.proofs.Common.{get_or}
use Rattle.std.proofs.Common.{refl, sym, ap, ◌∙◌, subst, arith, inl, inr, eqb, eqb-true, eq-eqb, leb, le-leb, leb-true, ltb, lt-ltb}
use Rattle.std.proofs.lemmas.Bool.{false≢true, and_parts, and_from, cases_Bool, cases_lt, or_cases, or_left, or_right, lt-leb, ltb-true}
use Rattle.std.proofs.lemmas.Bool.{eqb-false}
use Rattle.std.proofs.lemmas.List.{get_or_default}
use Rattle.std.proofs.lemmas.List.Edits.{length-remove}
use Rattle.std.proofs.lemmas.List.Folds.{list_all-append}
use Rattle.std.specs.List.{list_all, remove}
use Rattle.fca_model.specs.Sets.{Set, size, same, within, meet, increasing}
use Rattle.fca_model.specs.Context.{Context, closure, with_row}
use Rattle.fca_model.specs.Implications.{Rule, rule, premises, holds, respects, respects_all}
use Rattle.fca_model.specs.Pseudo.{basis_known}
use Rattle.fca_model.specs.Questions.{has_premise, waiting, smallest, open_questions}
use Rattle.fca_model.specs.Invariant.{is_member, Among, SmallerAccepted, IsAccepted, have_distinct_premises}
use Rattle.fca_model.specs.Levels.{level_of, HasBelow}
use Rattle.fca_model.proofs.ListLemmas.{implies_at, list_all-mono, list_all-filter, filter_all, filter_none_all, filter-map}
use Rattle.fca_model.proofs.SetLemmas.{same_refl, same-true, size_le, within-meet}
use Rattle.fca_model.proofs.PseudoLemmas.{basis_all, basis_at, pseudo_parts}
use Rattle.fca_model.proofs.InvariantLemmas.{member_from, member_parts, have_distinct_premises-push}
use Rattle.fca_model.proofs.SortedLemmas.{increasing-filter}
use Rattle.fca_model.proofs.DoneLemmas.{basis_increasing}
use Rattle.fca_model.proofs.QuestionLemmas.{open_none}
use Rattle.fca_model.proofs.LevelLemmas.{level_waiting, none_waits, smallest_is, level_all}
use Rattle.next_level.specs.NextLevel.{IsNextLevel}
use Rattle.level_queue.specs.Queue.{HasPartUpTo, IsQueue, IsKeptQueue, narrowed, is_unclosed, still_open}
use Rattle.level_queue.proofs.RowLemmas.{questions_all, row_keeps_queue}
use Rattle.level_queue.proofs.NarrowLemmas.{closure-with_row, narrowed_in}
use Rattle.level_queue.proofs.AcceptLemmas.{question_member, question_size, question_new, question_wide, conclusion_wide}
use Rattle.level_queue.proofs.AcceptLemmas.{accept_keeps_queue, among_at, others_remove}

-- each member of a list has its premise in the list
pub each_heard : (acc is : List Rule) → ((P : Set) → has_premise is P ≡ true → has_premise acc P ≡ true)
    → list_all (λ i. has_premise acc i.premise) is ≡ true
each_heard acc [] f = refl
each_heard acc (i ∷ is) f = and_from (has_premise acc i.premise) (list_all (λ i. has_premise acc i.premise) is)
    (f i.premise (or_left (same i.premise i.premise) (has_premise is i.premise) (same_refl i.premise)))
    (each_heard acc is (λ P t. f P (or_right (same i.premise P) (has_premise is P) t)))

-- no premise of size k is among smaller ones
none_heard : (k : ℕ) (acc : List Rule) (P : Set) → list_all (λ i. ltb (size i.premise) k) acc ≡ true → size P ≡ k
    → has_premise acc P ≡ false
none_heard k [] P h e = refl
none_heard k (i ∷ acc) P h e =
    let parts = and_parts (ltb (size i.premise) k) (list_all (λ i. ltb (size i.premise) k) acc) h in
    elim (cases_Bool (same i.premise P)) [
      | inl t ↦ let s : size i.premise ≡ size P = ap size (same-true i.premise P t) in
          absurd (omega (arith, ltb-true (size i.premise) k parts.0))
      | inr f ↦ ap (λ b. b || has_premise acc P) f ∙ none_heard k acc P parts.1 e
    ]

module _ (S : List Rule) (K : Context) (k : ℕ) (acc : List Rule) where
  part_from : HasBelow S K k acc → HasPartUpTo S K k acc
  part_from h = record {
    sound = h.sound;
    small = list_all-mono (λ i. ltb (size i.premise) k) (λ i. leb (size i.premise) k)
        (λ i t. le-leb (size i.premise) k (omega (arith, ltb-true (size i.premise) k t))) acc h.small;
    complete = h.complete;
  }

  -- ---- what waits

  -- nothing below the level waits
  none_below : HasPartUpTo S K k acc → list_all (λ i. leb k (size i.premise)) (waiting S K acc) ≡ true
  unfolding waiting
  none_below h = list_all-filter (λ i. leb k (size i.premise)) (λ i. not (has_premise acc i.premise)) (basis_known S K)
      ∙ list_all-mono (λ i. leb k (size i.premise) || has_premise acc i.premise)
      (λ i. not (not (has_premise acc i.premise)) || leb k (size i.premise))
      (λ i t. turn (leb k (size i.premise)) (has_premise acc i.premise) t) (basis_known S K)
      (h.complete (λ i. has_premise acc i.premise) (each_heard acc acc (λ P t. t)))
    where
      turn : (a b : Bool) → (a || b) ≡ true → (not (not b) || a) ≡ true
      turn true true h = refl
      turn true false h = refl
      turn false true h = refl
      turn false false h = absurd (false≢true h)

  -- past the width nothing waits
  pub past_open : HasPartUpTo S K k acc → K.width < k → open_questions S K acc ≡ []
  unfolding open_questions
  past_open h lt = ap smallest (none_waits S K acc
      (list_all-mono (λ i. leb k (size i.premise)) (λ i. leb (suc K.width) (size i.premise))
      (λ i t. le-leb (suc K.width) (size i.premise) (omega (arith, leb-true k (size i.premise) t))) (waiting S K acc) (none_below h)))

  -- the questions of the queue are the open ones, where there are any
  pub queue_open : (questions : List Rule) → IsQueue S K k acc questions → questions ≢ [] → questions ≡ open_questions S K acc
  unfolding open_questions
  queue_open questions q ne =
      let e = q.questions_are ∙ level_waiting S K acc k in
      e ∙ sym (smallest_is k (waiting S K acc) (none_below q.part) (λ z. ne (e ∙ z)))

  -- ---- a level is opened

  -- of a level nothing was accepted before it is opened
  unheard : HasBelow S K k acc → filter (λ i. not (has_premise acc i.premise)) (level_of S K k) ≡ level_of S K k
  unheard h = filter_all (λ i. not (has_premise acc i.premise)) (level_of S K k)
      (level_all S K k (λ i. not (has_premise acc i.premise)) (λ P e t s. ap not (none_heard k acc P h.small s)))

  pub opened_queue : (questions : List Rule) → HasBelow S K k acc → questions ≡ level_of S K k → IsQueue S K k acc questions
  opened_queue questions h is = record { part = part_from h; questions_are = is ∙ sym (unheard h) }

  -- ---- a level is done

  -- where nothing of the level is left, each member up to it is accepted
  pub done_below : (questions : List Rule) → IsQueue S K k acc questions → questions ≡ [] → HasBelow S K (k + 1) acc
  unfolding level_of
  done_below questions q none = subst (λ m. HasBelow S K m acc) next (record {
    sound = q.part.sound;
    small = list_all-mono (λ i. leb (size i.premise) k) (λ i. ltb (size i.premise) (suc k))
        (λ i t. lt-ltb (size i.premise) (suc k) (omega (arith, leb-true (size i.premise) k t))) acc q.part.small;
    complete = λ p a.
        let at : Rule → Bool = λ i. eqb (size i.premise) k in
        let heard : Rule → Bool = λ i. has_premise acc i.premise in
        let all_heard = filter_none_all heard (filter at (basis_known S K)) (sym q.questions_are ∙ none) in
        basis_all S K (λ i. leb (suc k) (size i.premise) || p i) (λ Q e t. elim (cases_lt k (size Q)) [
          | inl lt ↦ or_left (leb (suc k) (size Q)) (p (rule Q (closure K Q))) (le-leb (suc k) (size Q) (omega arith))
          | inr le ↦ or_right (leb (suc k) (size Q)) (p (rule Q (closure K Q)))
              (elim (or_cases (leb k (size Q)) (p (rule Q (closure K Q)))
              (basis_at S K (λ i. leb k (size i.premise) || p i) Q e t (q.part.complete p a))) [
                | inl here ↦ accepted p Q a (basis_at S K (λ i. not (at i) || heard i) Q e t
                    (sym (list_all-filter heard at (basis_known S K)) ∙ all_heard))
                    (eq-eqb (size Q) k (omega (arith, leb-true k (size Q) here)))
                | inr there ↦ there
              ])
        ]);
  })
    where
      next : suc k ≡ k + 1
      next = omega arith

      has_closure : Rule → Bool
      has_closure i = same i.conclusion (closure K i.premise)

      closures : list_all (λ i. same i.conclusion (closure K i.premise)) acc ≡ true
      closures = q.part.sound (λ i. same i.conclusion (closure K i.premise))
          (basis_all S K (λ i. same i.conclusion (closure K i.premise)) (λ R w u. same_refl (closure K R)))

      accepted : (p : Rule → Bool) (Q : Set) → list_all p acc ≡ true → (not (eqb (size Q) k) || has_premise acc Q) ≡ true
          → eqb (size Q) k ≡ true → p (rule Q (closure K Q)) ≡ true
      accepted p Q a h at = found acc a (implies_at (eqb (size Q) k) (has_premise acc Q) h at) closures
        where
          found : (is : List Rule) → list_all p is ≡ true → has_premise is Q ≡ true
              → list_all (λ i. same i.conclusion (closure K i.premise)) is ≡ true → p (rule Q (closure K Q)) ≡ true
          found [] a h m = absurd (false≢true h)
          found (i ∷ is) a h m =
              let pa = and_parts (p i) (list_all p is) a in
              let pm = and_parts (same i.conclusion (closure K i.premise)) (list_all (λ i. same i.conclusion (closure K i.premise)) is) m in
              elim (or_cases (same i.premise Q) (has_premise is Q) h) [
                | inl here ↦
                    let e : i.premise ≡ Q = same-true i.premise Q here in
                    subst (λ C. p (rule Q C) ≡ true) (same-true i.conclusion (closure K i.premise) pm.0 ∙ ap (closure K) e)
                    (subst (λ X. p (rule X i.conclusion) ≡ true) e pa.0)
                | inr there ↦ found is pa.1 there pm.1
              ]

  -- ---- what is accepted

  -- the accepted implications are members, each with all smaller ones
  pub accepted_from_part : HasPartUpTo S K k acc → have_distinct_premises acc ≡ true → IsAccepted S K acc
  accepted_from_part h distinct = record {
    distinct = distinct;
    members = h.sound (is_member S K) (basis_all S K (is_member S K) (λ P e p. member_from S K P (closure K P) e p refl));
    smaller = λ i among Q e p lt.
        let le : size i.premise ≤ k = leb-true (size i.premise) k (among (λ i. leb (size i.premise) k) h.small) in
        elim (or_cases (leb k (size Q)) (has_premise acc Q)
        (basis_at S K (λ j. leb k (size j.premise) || has_premise acc j.premise) Q e p
        (h.complete (λ j. has_premise acc j.premise) (each_heard acc acc (λ P t. t))))) [
          | inl big ↦ absurd (false≢true (sym (lt-leb k (size Q) (omega arith)) ∙ big))
          | inr there ↦ there
        ];
  }

-- the premises of the questions have the size of the level
pub questions_size : (S : List Rule) (K : Context) (k : ℕ) (acc questions : List Rule) → IsQueue S K k acc questions
    → list_all (λ i. eqb (size i.premise) k) questions ≡ true
questions_size S K k acc questions q = questions_all S K k acc questions (λ i. eqb (size i.premise) k) q
    (level_all S K k (λ i. eqb (size i.premise) k) (λ P e t s. eq-eqb (size P) k s))

-- and the width of the rows
pub questions_wide : (S : List Rule) (K : Context) (k : ℕ) (acc questions : List Rule) → IsQueue S K k acc questions
    → list_all (λ i. eqb (length i.premise) K.width) questions ≡ true
questions_wide S K k acc questions q = questions_all S K k acc questions (λ i. eqb (length i.premise) K.width) q
    (level_all S K k (λ i. eqb (length i.premise) K.width) (λ P e t s. eq-eqb (length P) K.width e))

-- ---- a held question that is a member, and whose premise was not accepted, is open

module _ (S : List Rule) (K : Context) (k : ℕ) (acc questions : List Rule) (queue : IsQueue S K k acc questions)
    (all_open : questions ≡ open_questions S K acc)
    (q : Rule) (member : is_member S K q ≡ true) (smaller : SmallerAccepted S K acc q.premise)
    (new : has_premise acc q.premise ≡ false) where
  at_basis : (p : Rule → Bool) → list_all p (basis_known S K) ≡ true → p q ≡ true
  at_basis p h = let m = member_parts S K q member in subst (λ i. p i ≡ true) (sym m.2) (basis_at S K p q.premise m.0 m.1 h)

  -- where it is larger than the level, nothing is open
  none_larger : k < size q.premise → (is : List Rule) → is ≡ questions → is ≡ []
  none_larger lt [] e = refl
  none_larger lt (i ∷ is) e =
      let among : (p : Rule → Bool) → list_all p questions ≡ true
      → p i ≡ true = λ p h. (and_parts (p i) (list_all p is) (ap (list_all p) e ∙ h)).0 in
      let m = member_parts S K i (question_member S K k acc questions queue i among (is_member S K)
      (basis_all S K (is_member S K) (λ P e p. member_from S K P (closure K P) e p refl))) in
      let heard = smaller i.premise m.0 m.1 (omega (arith, question_size S K k acc questions queue i among)) in
      absurd (false≢true (sym (question_new S K k acc questions queue i among) ∙ heard))

  held_size : size q.premise ≡ k
  held_size = elim (cases_lt k (size q.premise)) [
    | inl lt ↦
        let none = none_larger lt questions refl in
        let heard = (open_none S K acc).0 (sym all_open ∙ none) in
        absurd (false≢true (sym new ∙ at_basis (λ i. has_premise acc i.premise) heard))
    | inr le ↦ elim (or_cases (leb k (size q.premise)) (has_premise acc q.premise)
        (at_basis (λ i. leb k (size i.premise) || has_premise acc i.premise)
        (queue.part.complete (λ i. has_premise acc i.premise) (each_heard acc acc (λ P t. t))))) [
          | inl big ↦ omega (arith, leb-true k (size q.premise) big)
          | inr heard ↦ absurd (false≢true (sym new ∙ heard))
        ]
  ]

  pub held_is_open : Among questions q
  unfolding level_of
  held_is_open p h =
      let at : Rule → Bool = λ i. eqb (size i.premise) k in
      let u : Rule → Bool = λ i. not (has_premise acc i.premise) in
      let in_level = sym (list_all-filter p u (filter at (basis_known S K))) ∙ ap (list_all p) (sym queue.questions_are) ∙ h in
      let in_basis = sym (list_all-filter (λ i. not (u i) || p i) at (basis_known S K)) ∙ in_level in
      implies_at (u q) (p q) (implies_at (at q) (not (u q) || p q) (at_basis (λ i. not (at i) || (not (u i) || p i)) in_basis)
      (eq-eqb (size q.premise) k held_size)) (ap not new)

-- ---- lists and places

-- whether a `Vec` is empty
pub is_nil : {X : Type 0} (xs : List X) (n : ℕ) → n ≡ length xs → (b : Bool) → b ≡ eqb n 0 → b ≡ true → xs ≡ []
is_nil [] n e b is t = refl
is_nil (x ∷ xs) n e b is t = let z : n ≡ 0 = eqb-true n 0 (sym is ∙ t) in absurd (omega arith)

pub not_nil : {X : Type 0} (xs : List X) (n : ℕ) → n ≡ length xs → (b : Bool) → b ≡ eqb n 0 → b ≡ false → xs ≡ [] → ⊥
not_nil xs n e b is f z = eqb-false n 0 (sym is ∙ f) (e ∙ ap length z)

-- ---- between two calls

module _ {S : List Rule} {K : Context} {k : ℕ} {acc questions : List Rule} (kept : IsKeptQueue S K k acc questions) where
  -- the questions are the open ones
  pub kept_open : questions ≡ open_questions S K acc
  kept_open = at questions refl
    where
      cons_not_nil : {i : Rule} {is : List Rule} → i ∷ is ≡ [] → ⊥
      cons_not_nil e = cc

      at : (qs : List Rule) → qs ≡ questions → questions ≡ open_questions S K acc
      at [] e = sym e ∙ sym (past_open S K k acc kept.queue.part (let past = kept.done (sym e) in omega (arith, past)))
      at (i ∷ is) e = queue_open S K k acc questions kept.queue (λ z. cons_not_nil (e ∙ z))

  -- none of them is closed
  pub kept_unclosed : list_all is_unclosed questions ≡ true
  kept_unclosed = questions_all S K k acc questions is_unclosed kept.queue
      (level_all S K k is_unclosed (λ P e p s. ap not (pseudo_parts S K P e p).not_closed))

  pub kept_accepted : IsAccepted S K acc
  kept_accepted = accepted_from_part S K k acc kept.queue.part kept.distinct

  -- where there is a question, the level is no larger than the width
  pub kept_bounded : (i : Rule) → Among questions i → k ≤ K.width
  kept_bounded i among =
      let s = question_size S K k acc questions kept.queue i among in
      let w = question_wide S K k acc questions kept.queue i among in
      let le = size_le i.premise in
      omega (arith, s, w, le)

  pub kept_increasing : increasing (premises questions) ≡ true
  unfolding level_of
  kept_increasing =
      ap (λ qs. increasing (premises qs)) kept.queue.questions_are
      ∙ ap increasing (filtered (λ P. not (has_premise acc P)) (filter (λ i. eqb (size i.premise) k) (basis_known S K)))
      ∙ increasing-filter (λ P. not (has_premise acc P)) (premises (filter (λ i. eqb (size i.premise) k) (basis_known S K)))
      (ap increasing (filtered (λ P. eqb (size P) k) (basis_known S K))
      ∙ increasing-filter (λ P. eqb (size P) k) (premises (basis_known S K)) (basis_increasing S K))
    where
      filtered : (q : Set → Bool) (is : List Rule) → premises (filter (λ i. q i.premise) is) ≡ filter q (premises is)
      filtered q is = sym (filter-map q (λ (i : Rule). i.premise) is)

-- a level that was found
pub opened_kept : {S : List Rule} {K : Context} {k : ℕ} {acc questions : List Rule} → list_all (holds K) S ≡ true
    → have_distinct_premises acc ≡ true → IsNextLevel S K acc k questions → IsKeptQueue S K k acc questions
opened_kept {S = S} {K = K} {k = k} {acc = acc} {questions = questions} hold distinct next = record {
  hold = hold;
  distinct = distinct;
  queue = opened_queue S K k acc questions next.below next.members;
  done = next.none;
}

-- where one question is left, and it is accepted
module _ {S : List Rule} {K : Context} {k : ℕ} {acc questions : List Rule} (kept : IsKeptQueue S K k acc questions) (n : ℕ) (q : Rule)
    (inside : n < length questions) (at : q ≡ get_or questions n q) where
  among : Among questions q
  among = among_at questions n q inside at

  pub accepted_premise : length q.premise ≡ K.width
  accepted_premise = question_wide S K k acc questions kept.queue q among

  pub accepted_conclusion : length q.conclusion ≡ K.width
  accepted_conclusion = conclusion_wide S K k acc questions kept.queue q among

  pub accepted_distinct : have_distinct_premises (acc ++ q ∷ []) ≡ true
  accepted_distinct = have_distinct_premises-push acc q kept.distinct (question_new S K k acc questions kept.queue q among)

  rest_queue : IsQueue S K k (acc ++ q ∷ []) (remove questions n)
  rest_queue = accept_keeps_queue S K k acc questions kept.queue q among (remove questions n)
      (sym (others_remove questions n q (kept_increasing kept) inside at))

  -- others are left
  pub accepted_kept : 1 < length questions → IsKeptQueue S K k (acc ++ q ∷ []) (remove questions n)
  accepted_kept more = record {
    hold = kept.hold;
    distinct = accepted_distinct;
    queue = rest_queue;
    done = λ none. absurd (let less = length-remove questions n inside in let zero_left = ap length none in
        omega (arith, more, less, zero_left));
  }

  -- none is left
  pub accepted_below : length questions ≤ 1 → HasBelow S K (k + 1) (acc ++ q ∷ [])
  accepted_below last = done_below S K k (acc ++ q ∷ []) (remove questions n) rest_queue
      (nil_of (remove questions n) (let less = length-remove questions n inside in omega (arith, last, less, inside)))
    where
      nil_of : (xs : List Rule) → length xs ≤ 0 → xs ≡ []
      nil_of [] l = refl
      nil_of (x ∷ xs) l = absurd (omega (arith, l))

  pub accepted_bounded : k + 1 ≤ K.width + 1
  accepted_bounded = let le = kept_bounded kept q among in omega (arith, le)

-- a row was recorded
module _ {S : List Rule} {K : Context} {k : ℕ} {acc questions : List Rule} (kept : IsKeptQueue S K k acc questions) (r : Set)
    (respecting : respects_all (S ++ acc) r ≡ true) where
  both : (respects_all S r ≡ true) × (respects_all acc r ≡ true)
  both = and_parts (respects_all S r) (respects_all acc r) (sym (list_all-append (respects r) S acc) ∙ respecting)

  pub row_hold : list_all (holds (with_row K r)) S ≡ true
  row_hold = with_both S kept.hold both.0
    where
      -- a conclusion that lies within the closure lies within the new one where the row respects it
      holds_more : (i : Rule) → holds K i ≡ true → respects r i ≡ true → holds (with_row K r) i ≡ true
      holds_more i h g = subst (λ C. within i.conclusion C ≡ true) (sym (closure-with_row K r i.premise)) (go (within i.premise r) g)
        where
          go : (b : Bool) → (not b || within i.conclusion r) ≡ true
              → within i.conclusion (cond b (meet (closure K i.premise) r) (closure K i.premise)) ≡ true
          go true g = within-meet i.conclusion (closure K i.premise) r
              ∙ and_from (within i.conclusion (closure K i.premise)) (within i.conclusion r) h g
          go false g = h

      with_both : (J : List Rule) → list_all (holds K) J ≡ true → respects_all J r ≡ true → list_all (holds (with_row K r)) J ≡ true
      with_both [] h g = refl
      with_both (i ∷ J) h g =
          let hs = and_parts (holds K i) (list_all (holds K) J) h in
          let gs = and_parts (respects r i) (respects_all J r) g in
          and_from (holds (with_row K r) i) (list_all (holds (with_row K r)) J) (holds_more i hs.0 gs.0) (with_both J hs.1 gs.1)

  module _ (rest : List Rule) (is : rest ≡ still_open (map (narrowed r) questions)) where
    row_queue : IsQueue S (with_row K r) k acc rest
    row_queue = row_keeps_queue S K r k acc kept.queue.part both.1 questions rest kept.queue
        (is ∙ ap still_open (narrowed_in S K r k acc questions kept.queue))

    -- there was no question, or some are left
    pub row_kept : (rest ≡ [] → questions ≡ []) → IsKeptQueue S (with_row K r) k acc rest
    row_kept left = record { hold = row_hold; distinct = kept.distinct; queue = row_queue; done = λ none. kept.done (left none) }

    -- none is left
    pub row_below : rest ≡ [] → HasBelow S (with_row K r) (k + 1) acc
    row_below none = done_below S (with_row K r) k acc rest row_queue none

  pub row_bounded : 0 < length questions → k + 1 ≤ (with_row K r).width + 1
  row_bounded some = let le = kept_bounded kept (get_or questions 0 (rule [] []))
      (among_at questions 0 (get_or questions 0 (rule [] [])) some
      (get_or_default questions 0 (rule [] []) (get_or questions 0 (rule [] [])) some)) in omega (arith, le)
