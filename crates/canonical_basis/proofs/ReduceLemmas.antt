-- Why a reduced list has the members of the basis. By induction on the size: each premise is a pseudo-intent, since a smaller
-- pseudo-intent within it is a premise, whose implication it respects; and each pseudo-intent is a premise, since it is not closed,
-- so it breaks an implication, and the premise of that one, were it smaller, would be a pseudo-intent within it, whose closure it contains.
-- One step of the reduction: the premise grows to its closure under the others, and is dropped where that contains its conclusion.
use Rattle.std.proofs.Common.{◌≡◌, ℕ, zero, suc, ◌<◌, Bool, true, false, not, ◌&&◌, ◌||◌, List, [], ◌∷◌, ◌++◌, map, length, refl, sym, ap}
use Rattle.std.proofs.Common.{ap₂, ◌∙◌}
use Rattle.std.proofs.Common.{subst, arith, inl, inr, eqb, eqb-true, eq-eqb, ltb, lt-ltb, ◌-◌, take, drop}
use Rattle.std.proofs.lemmas.Bool.{false≢true, and_parts, and_from, cases_Bool, or_cases, or_left, or_right, not-true, ltb-true}
use Rattle.std.proofs.lemmas.List.{take_all, length-drop}
use Rattle.std.proofs.lemmas.List.Folds.{list_all-append, list_all-map}
use Rattle.std.specs.List.{list_all, list_any}
use Rattle.fca_model.specs.Sets.{Set, size, within, same}
use Rattle.fca_model.specs.Context.{Context, closure, is_closed}
use Rattle.fca_model.specs.Implications.{Rule, rule, premises, respects, respects_all, holds}
use Rattle.fca_model.specs.Pseudo.{pseudo_known, basis_known}
use Rattle.fca_model.specs.Questions.{has_premise}
use Rattle.fca_model.specs.Invariant.{SameMembers}
use Rattle.fca_model.proofs.ListLemmas.{bool_iff, implies_from, implies_at, list_all-mono, list_all-mono₂, list_all-and, list_any_at}
use Rattle.fca_model.proofs.ListLemmas.{list_any-not}
use Rattle.fca_model.proofs.SetLemmas.{within_refl, within_trans, within_antisymm, same_refl, same-true, same_from, strictly_from}
use Rattle.fca_model.proofs.SetLemmas.{strictly-parts, size_strict, size_le}
use Rattle.fca_model.proofs.ClosureLemmas.{length-closure, closure_extensive, closure_monotone, closure_idempotent, respects_at}
use Rattle.fca_model.proofs.ClosureLemmas.{respects_from}
use Rattle.fca_model.proofs.PseudoLemmas.{pseudo_parts, pseudo_from, basis_all, basis_at}
use Rattle.fca_model.proofs.InvariantLemmas.{each}
use Rattle.implication_closure.specs.Closing.{RuleList, has_width, HaveWidth, IsClosure}
use Rattle.canonical_basis.specs.Reduced.{context_of, is_full, is_apart, IsReduced}
use Rattle.canonical_basis.proofs.ListLemmas.{members_hold, respecting_is_closed}

full_parts : (K : Context) (i : Rule) → is_full K i ≡ true → (length i.premise ≡ K.width) × (i.conclusion ≡ closure K i.premise)
full_parts K i h =
    let parts = and_parts (eqb (length i.premise) K.width) (same i.conclusion (closure K i.premise)) h in
    (eqb-true (length i.premise) K.width parts.0, same-true i.conclusion (closure K i.premise) parts.1)

module _ (K : Context) (J : List Rule) (r : IsReduced K J []) where
  abbrev known_to : ℕ → Rule → Bool
  known_to m i = not (ltb (size i.premise) m) || pseudo_known [] K i.premise

  -- what an element of the list is known to pass
  abbrev facts : Rule → Bool
  facts i = is_full K i && not (is_closed K i.premise)

  facts_all : list_all facts J ≡ true
  facts_all = list_all-and (is_full K) (λ i. not (is_closed K i.premise)) J r.full_done r.proper

  -- each premise up to a size is a pseudo-intent, and each pseudo-intent up to it a premise
  both : (m : ℕ) → (list_all (known_to m) J ≡ true)
      × ((P : Set) → length P ≡ K.width → size P < m → pseudo_known [] K P ≡ true → has_premise J P ≡ true)
  both zero = (
    list_all-mono facts (known_to 0) (λ i _. implies_from (ltb (size i.premise) 0) (pseudo_known [] K i.premise)
        (λ lt. absurd (omega (arith, ltb-true (size i.premise) 0 lt)))) J facts_all,
    λ P e lt p. absurd (omega arith),
  )
  both (suc m) =
      let before = both m in (
        each (known_to (suc m)) J (λ i among. implies_from (ltb (size i.premise) (suc m)) (pseudo_known [] K i.premise) (λ lt.
            let fact = and_parts (is_full K i) (not (is_closed K i.premise)) (among facts facts_all) in
            let shape = full_parts K i fact.0 in
            let apart : list_all (is_apart i) J ≡ true = among (λ j. list_all (is_apart j) J) r.apart_done in
            pseudo_from [] K i.premise shape.0 (record {
              respecting = refl;
              not_closed = not-true (is_closed K i.premise) fact.1;
              absorbing = λ Q w q s.
                  let smaller : size Q < size i.premise = size_strict Q i.premise (w ∙ sym shape.0) s in
                  let there = before.1 Q w (omega (arith, smaller, ltb-true (size i.premise) (suc m) lt)) q in
                  let j = list_any_at (λ j. same j.premise Q) (λ j. is_full K j && is_apart i j) J there
                  (list_all-and (is_full K) (is_apart i) J r.full_done apart) in
                  let tests = and_parts (is_full K j.0) (is_apart i j.0) j.2 in
                  let eq : j.0.premise ≡ Q = same-true j.0.premise Q j.1 in
                  let parts = strictly-parts Q i.premise s in
                  elim (or_cases (same j.0.premise i.premise) (respects i.premise j.0) tests.1) [
                    | inl same_one ↦ absurd (parts.1 (sym eq ∙ same-true j.0.premise i.premise same_one))
                    | inr respected ↦ subst (λ C. within C i.premise ≡ true) ((full_parts K j.0 tests.0).1 ∙ ap (closure K) eq)
                        (respects_at i.premise j.0 respected (subst (λ X. within X i.premise ≡ true) (sym eq) parts.0))
                  ];
            }))),
        λ P e lt p.
            let parts = pseudo_parts [] K P e p in
            let open_ : respects_all J P ≡ false = elim (cases_Bool (respects_all J P)) [
              | inl t ↦ absurd (false≢true (sym parts.not_closed ∙ r.complete P e t refl))
              | inr f ↦ f
            ] in
            let broken : list_any (λ j. not (respects P j)) J ≡ true = list_any-not (λ j. not (respects P j)) J
            ∙ ap not (twice P J ∙ open_) in
            let j = list_any_at (λ j. not (respects P j)) (λ j. is_full K j && (known_to m j && has_premise J j.premise)) J broken
            (list_all-and (is_full K) (λ j. known_to m j && has_premise J j.premise) J r.full_done
            (list_all-and (known_to m) (λ j. has_premise J j.premise) J before.0 (each_there J))) in
            let tests = and_parts (is_full K j.0) (known_to m j.0 && has_premise J j.0.premise) j.2 in
            let more = and_parts (known_to m j.0) (has_premise J j.0.premise) tests.1 in
            let shape = full_parts K j.0 tests.0 in
            let inside = broken_parts (within j.0.premise P) (within j.0.conclusion P) j.1 in
            elim (cases_Bool (same j.0.premise P)) [
              | inl t ↦ subst (λ X. has_premise J X ≡ true) (same-true j.0.premise P t) more.1
              | inr other ↦
                  let strict = strictly_from j.0.premise P inside.0 (λ z. false≢true (sym other ∙ same_from j.0.premise P z)) in
                  let smaller : size j.0.premise < size P = size_strict j.0.premise P (shape.0 ∙ sym e) strict in
                  let q = implies_at (ltb (size j.0.premise) m) (pseudo_known [] K j.0.premise) more.0
                  (lt-ltb (size j.0.premise) m (omega arith)) in
                  absurd (false≢true (sym inside.1 ∙ ap (λ C. within C P) shape.1 ∙ parts.absorbing j.0.premise shape.0 q strict))
            ],
      )
    where
      twice : (P : Set) (is : List Rule) → list_all (λ j. not (not (respects P j))) is ≡ respects_all is P
      twice P [] = refl
      twice P (i ∷ is) = ap₂ (λ a b. a && b) (not_not (respects P i)) (twice P is)
        where
          not_not : (b : Bool) → not (not b) ≡ b
          not_not true = refl
          not_not false = refl

      each_there : (is : List Rule) → list_all (λ j. has_premise is j.premise) is ≡ true
      each_there [] = refl
      each_there (i ∷ is) = and_from (has_premise (i ∷ is) i.premise) (list_all (λ j. has_premise (i ∷ is) j.premise) is)
          (or_left (same i.premise i.premise) (has_premise is i.premise) (same_refl i.premise))
          (list_all-mono (λ j. has_premise is j.premise) (λ j. has_premise (i ∷ is) j.premise)
          (λ j h. or_right (same i.premise j.premise) (has_premise is j.premise) h) is (each_there is))

      broken_parts : (a b : Bool) → not (not a || b) ≡ true → (a ≡ true) × (b ≡ false)
      broken_parts true true h = absurd (false≢true h)
      broken_parts true false h = (refl, refl)
      broken_parts false b h = absurd (false≢true h)

  pub reduced_members : SameMembers J (basis_known [] K)
  reduced_members p = bool_iff (list_all p J) (list_all p (basis_known [] K))
      (λ a. basis_all [] K p (λ P e q.
      let there = (both (suc (size P))).1 P e (omega arith) q in
      let j = list_any_at (λ j. same j.premise P) (λ j. is_full K j && p j) J there (list_all-and (is_full K) p J r.full_done a) in
      let tests = and_parts (is_full K j.0) (p j.0) j.2 in
      let shape = full_parts K j.0 tests.0 in
      let eq : j.0.premise ≡ P = same-true j.0.premise P j.1 in
      subst (λ i. p i ≡ true) (ap₂ (λ X C. rule X C) eq (shape.1 ∙ ap (closure K) eq)) tests.1))
      (λ b. each p J (λ i among.
      let fact = and_parts (is_full K i) (not (is_closed K i.premise)) (among facts facts_all) in
      let shape = full_parts K i fact.0 in
      let q = implies_at (ltb (size i.premise) (suc K.width)) (pseudo_known [] K i.premise)
      (among (known_to (suc K.width)) (both (suc K.width)).0)
      (lt-ltb (size i.premise) (suc K.width) (omega (arith, size_le i.premise, shape.0))) in
      subst (λ j. p j ≡ true) (ap (λ C. rule i.premise C) (sym shape.1)) (basis_at [] K p i.premise shape.0 q b)))

-- ---- one step

module _ (K : Context) (done rest : List Rule) (i : Rule) (A : Set) (r : IsReduced K done (i ∷ rest))
    (c : IsClosure (done ++ rest) i.premise A) where
  rest_full : (is_full K i ≡ true) × (list_all (is_full K) rest ≡ true)
  rest_full = let parts = and_parts (is_full K i) (list_all (is_full K) rest) r.full_rest in (parts.0, parts.1)

  rest_apart : list_all (λ j. list_all (is_apart j) rest) done ≡ true
  rest_apart = list_all-mono (λ j. list_all (is_apart j) (i ∷ rest)) (λ j. list_all (is_apart j) rest)
      (λ j h. (and_parts (is_apart j i) (list_all (is_apart j) rest) h).1) done r.apart_rest

  -- a set that respects the others, and the premise grown to the conclusion, respects all
  complete_by : (T : Set) → length T ≡ K.width → respects_all done T ≡ true → respects_all rest T ≡ true
      → (within A T ≡ true → within i.conclusion T ≡ true) → is_closed K T ≡ true
  complete_by T e d s step =
      let mine : respects T i ≡ true = respects_from T i
      (λ inside. step (c.least T inside (list_all-append (respects T) done rest
      ∙ and_from (respects_all done T) (respects_all rest T) d s))) in
      r.complete T e d (and_from (respects T i) (respects_all rest T) mine s)

  -- the member follows from the others
  pub reduced_drop : within i.conclusion A ≡ true → IsReduced K done rest
  reduced_drop inside = record {
    full_done = r.full_done;
    full_rest = rest_full.1;
    proper = r.proper;
    apart_done = r.apart_done;
    apart_rest = rest_apart;
    complete = λ T e d s. complete_by T e d s (λ up. within_trans i.conclusion A T inside up);
  }

  shape : (length i.premise ≡ K.width) × (i.conclusion ≡ closure K i.premise)
  shape = full_parts K i rest_full.0

  -- a closed set respects each full implication
  closed_respects_full : (T : Set) → is_closed K T ≡ true → (J : List Rule) → list_all (is_full K) J ≡ true → respects_all J T ≡ true
  closed_respects_full T t J h = list_all-mono (is_full K) (respects T) (λ j f. respects_from T j (λ inside.
      subst (λ X. within j.conclusion X ≡ true) (sym (same-true T (closure K T) t))
      (subst (λ C. within C (closure K T) ≡ true) (sym (full_parts K j f).1) (closure_monotone K j.premise T inside)))) J h

  conclusion_closed : is_closed K i.conclusion ≡ true
  conclusion_closed = same_from i.conclusion (closure K i.conclusion)
      (shape.1 ∙ sym (closure_idempotent K i.premise shape.0) ∙ ap (closure K) (sym shape.1))

  -- the premise grows within the conclusion
  grown_inside : within A i.conclusion ≡ true
  grown_inside = c.least i.conclusion (subst (λ C. within i.premise C ≡ true) (sym shape.1) (closure_extensive K i.premise shape.0))
      (list_all-append (respects i.conclusion) done rest ∙ and_from (respects_all done i.conclusion) (respects_all rest i.conclusion)
      (closed_respects_full i.conclusion conclusion_closed done r.full_done)
      (closed_respects_full i.conclusion conclusion_closed rest rest_full.1))

  grown_wide : length A ≡ K.width
  grown_wide = c.wide ∙ shape.0

  -- and has its closure
  grown_closure : i.conclusion ≡ closure K A
  grown_closure =
      let C = i.conclusion in
      let D = closure K A in
      within_antisymm C D (ap length shape.1 ∙ length-closure K i.premise ∙ sym (length-closure K A))
      (subst (λ X. within X D ≡ true) (sym shape.1) (closure_monotone K i.premise A c.above))
      (subst (λ X. within D X ≡ true) (sym (same-true C (closure K C) conclusion_closed)) (closure_monotone K A C grown_inside))

  others_respected : (respects_all done A ≡ true) × (respects_all rest A ≡ true)
  others_respected = let parts = and_parts (respects_all done A) (respects_all rest A)
      (sym (list_all-append (respects A) done rest) ∙ c.respecting) in (parts.0, parts.1)

  -- a premise that was apart from the member is apart from the member grown
  still_apart : (j : Rule) → is_apart j i ≡ true → is_apart j (rule A i.conclusion) ≡ true
  still_apart j h = elim (cases_Bool (within A j.premise)) [
    | inr outside ↦ or_right (same A j.premise) (respects j.premise (rule A i.conclusion))
        (respects_from j.premise (rule A i.conclusion) (λ t. absurd (false≢true (sym outside ∙ t))))
    | inl inside ↦ elim (or_cases (same i.premise j.premise) (respects j.premise i) h) [
      | inl same_one ↦
          let e = same-true i.premise j.premise same_one in
          or_left (same A j.premise) (respects j.premise (rule A i.conclusion))
          (same_from A j.premise (within_antisymm A j.premise (c.wide ∙ ap length e) inside (subst (λ X. within X A ≡ true) e c.above)))
      | inr respected ↦ or_right (same A j.premise) (respects j.premise (rule A i.conclusion))
          (respects_from j.premise (rule A i.conclusion)
          (λ t. respects_at j.premise i respected (within_trans i.premise A j.premise c.above t)))
    ]
  ]

  -- the member grown is one more
  pub reduced_push : within i.conclusion A ≡ false → IsReduced K (done ++ rule A i.conclusion ∷ []) rest
  reduced_push out =
      let new = rule A i.conclusion in
      let apart_new : list_all (λ j. is_apart j new) done ≡ true =
      list_all-mono (λ j. list_all (is_apart j) (i ∷ rest)) (λ j. is_apart j new)
      (λ j h. still_apart j (and_parts (is_apart j i) (list_all (is_apart j) rest) h).0) done r.apart_rest in
      let respected : (J : List Rule) → respects_all J A ≡ true
      → list_all (is_apart new) J ≡ true = λ J h. list_all-mono (respects A) (is_apart new)
      (λ j t. or_right (same j.premise A) (respects A j) t) J h in
      let own : is_apart new new ≡ true = or_left (same A A) (respects A new) (same_refl A) in
      record {
        full_done = list_all-append (is_full K) done (new ∷ []) ∙ and_from (list_all (is_full K) done) (is_full K new && true) r.full_done
            (and_from (is_full K new) true (and_from (eqb (length A) K.width) (same i.conclusion (closure K A))
            (eq-eqb (length A) K.width grown_wide) (same_from i.conclusion (closure K A) grown_closure)) refl);
        full_rest = rest_full.1;
        proper = list_all-append (λ j. not (is_closed K j.premise)) done (new ∷ [])
            ∙ and_from (list_all (λ j. not (is_closed K j.premise)) done) (not (is_closed K A) && true) r.proper
            (and_from (not (is_closed K A)) true (ap not open_) refl);
        apart_done = list_all-append (λ j. list_all (is_apart j) (done ++ new ∷ [])) done (new ∷ [])
            ∙ and_from (list_all (λ j. list_all (is_apart j) (done ++ new ∷ [])) done) (list_all (is_apart new) (done ++ new ∷ []) && true)
            (list_all-mono₂ (λ j. list_all (is_apart j) done) (λ j. is_apart j new) (λ j. list_all (is_apart j) (done ++ new ∷ []))
            (λ j a b. both_parts j a b) done r.apart_done apart_new)
            (and_from (list_all (is_apart new) (done ++ new ∷ [])) true (both_parts new (respected done others_respected.0) own) refl);
        apart_rest = list_all-append (λ j. list_all (is_apart j) rest) done (new ∷ [])
            ∙ and_from (list_all (λ j. list_all (is_apart j) rest) done) (list_all (is_apart new) rest && true) rest_apart
            (and_from (list_all (is_apart new) rest) true (respected rest others_respected.1) refl);
        complete = λ T e d s.
            let parts = and_parts (respects_all done T) (respects T new && true) (sym (list_all-append (respects T) done (new ∷ [])) ∙ d) in
            complete_by T e parts.0 s (λ up. respects_at T new (and_parts (respects T new) true parts.1).0 up);
      }
    where
      both_parts : (j : Rule) → list_all (is_apart j) done ≡ true → is_apart j (rule A i.conclusion) ≡ true
          → list_all (is_apart j) (done ++ rule A i.conclusion ∷ []) ≡ true
      both_parts j a b = list_all-append (is_apart j) done (rule A i.conclusion ∷ [])
          ∙ and_from (list_all (is_apart j) done) (is_apart j (rule A i.conclusion) && true) a
          (and_from (is_apart j (rule A i.conclusion)) true b refl)

      open_ : is_closed K A ≡ false
      open_ = elim (cases_Bool (is_closed K A)) [
        | inl t ↦ absurd (false≢true (sym out ∙ subst (λ X. within i.conclusion X ≡ true) (sym (same-true A (closure K A) t))
            (subst (λ X. within i.conclusion X ≡ true) grown_closure (within_refl i.conclusion))))
        | inr f ↦ f
      ]

-- ---- the start, and the rest of a list

-- with the closures in place of its conclusions a list says what holds in its context
pub reduce_start : (L : RuleList) → HaveWidth L.width L.members
    → IsReduced (context_of L) [] (map (λ P. rule P (closure (context_of L) P)) (premises L.members))
reduce_start L even =
    let K = context_of L in
    let f : Set → Rule = λ P. rule P (closure K P) in
    record {
      full_done = refl;
      full_rest = list_all-map (is_full K) f (premises L.members) ∙ list_all-map (λ P. is_full K (f P)) (λ (i : Rule). i.premise) L.members
          ∙ list_all-mono (has_width L.width) (λ i. is_full K (f i.premise))
          (λ i h. and_from (eqb (length i.premise) L.width) (same (closure K i.premise) (closure K i.premise))
          (and_parts (eqb (length i.premise) L.width) (eqb (length i.conclusion) L.width) h).0 (same_refl (closure K i.premise))) L.members
          even;
      proper = refl;
      apart_done = refl;
      apart_rest = refl;
      complete = λ T e _ r. respecting_is_closed L even T e
          (list_all-mono₂ (λ i. respects T (f i.premise)) (holds K) (respects T)
          (λ i a b. respects_from T i (λ inside. within_trans i.conclusion (closure K i.premise) T b
          (respects_at T (f i.premise) a inside))) L.members
          (sym (list_all-map (respects T) f (premises L.members) ∙ list_all-map (λ P. respects T (f P)) (λ (i : Rule). i.premise) L.members)
          ∙ r) (members_hold L even));
    }

pub rest_is : (xs : List Rule) (k : ℕ) → take (length xs - k) (drop k xs) ≡ drop k xs
rest_is xs k = take_all (length xs - k) (drop k xs) (omega (arith, length-drop k xs))

pub rest_wide : (n : ℕ) (xs : List Rule) (k : ℕ) → HaveWidth n xs → HaveWidth n (drop k xs)
rest_wide n xs zero h = h
rest_wide n [] (suc k) h = h
rest_wide n (x ∷ xs) (suc k) h = rest_wide n xs k (and_parts (has_width n x) (list_all (has_width n) xs) h).1
