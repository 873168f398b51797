-- A row that respects what was accepted keeps the queue. Below the level the pseudo-intents and their closures stay, since each is
-- accepted; so of the level's pseudo-intents those stay that are not closed now, and no set of its size becomes one.
use Rattle.std.proofs.Common.{◌≡◌, ℕ, suc, ◌<◌, ◌≤◌, Bool, true, false, not, ◌&&◌, ◌||◌, List, [], ◌∷◌, map, length, filter, refl, sym, ap}
use Rattle.std.proofs.Common.{ap₂, ◌∙◌}
use Rattle.std.proofs.Common.{subst, arith, inl, inr, eqb, eqb-true, eq-eqb, ne_eqb, leb, le-leb, leb-true}
use Rattle.std.proofs.lemmas.Bool.{false≢true, and_parts, and_from, cases_Bool, cases_lt, cases_eq, or_cases, or_left, or_right, not-true}
use Rattle.std.proofs.lemmas.Bool.{lt-leb}
use Rattle.std.specs.List.{list_all}
use Rattle.fca_model.specs.Sets.{Set, size, within, same, all_sets}
use Rattle.fca_model.specs.Context.{Context, closure, is_closed}
use Rattle.fca_model.specs.Implications.{Rule, rule, respects, respects_all}
use Rattle.fca_model.specs.Pseudo.{pseudo_known}
use Rattle.fca_model.specs.Questions.{has_premise}
use Rattle.fca_model.specs.Levels.{level_of}
use Rattle.fca_model.proofs.ListLemmas.{implies_from, implies_at, bool_iff, list_all-mono₂, list_all-and, list_all_from}
use Rattle.fca_model.proofs.ListLemmas.{list_all-filter_kept, filter-filter, filter-map, filter_agree_on}
use Rattle.fca_model.proofs.SetLemmas.{size_strict, all_sets_widths}
use Rattle.fca_model.proofs.PseudoLemmas.{pseudo_parts, pseudo_from, basis_all, basis_at}
use Rattle.fca_model.proofs.SurvivalLemmas.{with_row, same_pseudo, survives, closure_stays, closed_stays}
use Rattle.fca_model.proofs.LevelLemmas.{level_is}
use Rattle.level_queue.specs.Queue.{HasPartUpTo, IsQueue, renewed, still_open}

and_swap : (a b : Bool) → (a && b) ≡ (b && a)
and_swap true true = refl
and_swap true false = refl
and_swap false true = refl
and_swap false false = refl

-- what all members of the level pass, the questions pass
pub questions_all : (S : List Rule) (K : Context) (k : ℕ) (acc questions : List Rule) (p : Rule → Bool) → IsQueue S K k acc questions
    → list_all p (level_of S K k) ≡ true → list_all p questions ≡ true
questions_all S K k acc questions p q h = subst (λ is. list_all p is ≡ true) (sym q.questions_are)
    (list_all-filter_kept p (λ i. not (has_premise acc i.premise)) (level_of S K k) h)

-- the questions that are not closed, with their closures in the rows
pub renew : Context → List Rule → List Rule
renew K questions = map (renewed K) (filter (λ i. not (is_closed K i.premise)) questions)

pub renew_is : (K : Context) (questions : List Rule) → still_open (map (renewed K) questions) ≡ renew K questions
unfolding renew
renew_is K questions = filter-map (λ i. not (same i.premise i.conclusion)) (renewed K) questions

module _ (S : List Rule) (K : Context) (r : Set) (k : ℕ) (acc : List Rule) (h : HasPartUpTo S K k acc) (good : respects_all acc r ≡ true) where
  -- the row respects each pseudo-intent's implication below the level
  row_kept : (Q : Set) → length Q ≡ K.width → size Q < k → pseudo_known S K Q ≡ true → respects r (rule Q (closure K Q)) ≡ true
  row_kept Q e lt q = elim (or_cases (leb k (size Q)) (respects r (rule Q (closure K Q)))
      (basis_at S K (λ i. leb k (size i.premise) || respects r i) Q e q (h.complete (respects r) good))) [
        | inl le ↦ absurd (false≢true (sym (lt-leb k (size Q) lt) ∙ le))
        | inr there ↦ there
      ]

  -- below the level the pseudo-intents are the same
  same_below : (Q : Set) → length Q ≡ K.width → size Q < k → pseudo_known S K Q ≡ pseudo_known S (with_row K r) Q
  same_below Q e lt = let both = same_pseudo K r S k row_kept (suc (size Q)) Q e (omega arith) lt in
      bool_iff (pseudo_known S K Q) (pseudo_known S (with_row K r) Q) both.0 both.1

  -- with their closures
  same_closure : (Q : Set) → length Q ≡ K.width → size Q < k → pseudo_known S K Q ≡ true → closure (with_row K r) Q ≡ closure K Q
  same_closure Q e lt q = closure_stays K r Q (row_kept Q e lt q)

  -- the accepted implications stay members, and those below the level stay all of them
  part_row : HasPartUpTo S (with_row K r) k acc
  part_row = record {
    sound = λ p b.
        let t : Rule → Bool = λ i. leb (size i.premise) k && respects r i in
        list_all-mono₂ t (λ i. not (t i) || p i) p (λ i x y. implies_at (t i) (p i) y x) acc
        (list_all-and (λ i. leb (size i.premise) k) (respects r) acc h.small good)
        (h.sound (λ i. not (t i) || p i) (basis_all S K (λ i. not (t i) || p i)
        (λ Q e q. implies_from (t (rule Q (closure K Q))) (p (rule Q (closure K Q))) (λ both.
        let parts = and_parts (leb (size Q) k) (respects r (rule Q (closure K Q))) both in
        let le : size Q ≤ k = leb-true (size Q) k parts.0 in
        let stays = survives K r S Q e q parts.1 (λ R w lt s. row_kept R w (omega arith) s) in
        subst (λ C. p (rule Q C) ≡ true) stays.1 (basis_at S (with_row K r) p Q e stays.0 b)))));
    small = h.small;
    complete = λ p a. basis_all S (with_row K r) (λ i. leb k (size i.premise) || p i) (λ Q e q. elim (cases_lt (size Q) k) [
      | inl lt ↦
          let old : pseudo_known S K Q ≡ true = same_below Q e lt ∙ q in
          or_right (leb k (size Q)) (p (rule Q (closure (with_row K r) Q)))
          (subst (λ C. p (rule Q C) ≡ true) (sym (same_closure Q e lt old))
          (elim (or_cases (leb k (size Q)) (p (rule Q (closure K Q)))
          (basis_at S K (λ i. leb k (size i.premise) || p i) Q e old (h.complete p a))) [
            | inl le ↦ absurd (false≢true (sym (lt-leb k (size Q) lt) ∙ le))
            | inr there ↦ there
          ]))
      | inr le ↦ or_left (leb k (size Q)) (p (rule Q (closure (with_row K r) Q))) (le-leb k (size Q) (omega arith))
    ]);
  }

  -- at the level a pseudo-intent can only vanish, by being closed
  pseudo_row : (P : Set) → length P ≡ K.width → size P ≡ k
      → pseudo_known S (with_row K r) P ≡ (pseudo_known S K P && not (is_closed (with_row K r) P))
  pseudo_row P e s = bool_iff (pseudo_known S (with_row K r) P) (pseudo_known S K P && not (is_closed (with_row K r) P))
      (λ t.
      let parts = pseudo_parts S (with_row K r) P e t in
      and_from (pseudo_known S K P) (not (is_closed (with_row K r) P))
      (pseudo_from S K P e (record {
        respecting = parts.respecting;
        not_closed = elim (cases_Bool (is_closed K P))
            [ inl c ↦ absurd (false≢true (sym parts.not_closed ∙ closed_stays K r P e c)) | inr f ↦ f ];
        absorbing = λ Q w q z.
            let lt : size Q < k = omega (arith, size_strict Q P (w ∙ sym e) z) in
            subst (λ X. within X P ≡ true) (same_closure Q w lt q) (parts.absorbing Q w (sym (same_below Q w lt) ∙ q) z);
      })) (ap not parts.not_closed))
      (λ t.
      let both = and_parts (pseudo_known S K P) (not (is_closed (with_row K r) P)) t in
      let parts = pseudo_parts S K P e both.0 in
      pseudo_from S (with_row K r) P e (record {
        respecting = parts.respecting;
        not_closed = not-true (is_closed (with_row K r) P) both.1;
        absorbing = λ Q w q z.
            let lt : size Q < k = omega (arith, size_strict Q P (w ∙ sym e) z) in
            let old : pseudo_known S K Q ≡ true = same_below Q w lt ∙ q in
            subst (λ X. within X P ≡ true) (sym (same_closure Q w lt old)) (parts.absorbing Q w old z);
      }))

  -- so the level is what is left of it, with its closures renewed
  level_row : level_of S (with_row K r) k ≡ renew (with_row K r) (level_of S K k)
  unfolding renew
  level_row =
      let K₁ = with_row K r in
      let at : Set → Bool = λ P. eqb (size P) k in
      let open_ : Set → Bool = λ P. not (is_closed K₁ P) in
      let f : Set → Rule = λ P. rule P (closure K P) in
      sym (level_is S K₁ k)
      ∙ ap (map (λ P. rule P (closure K₁ P))) (filter_agree_on (λ P. eqb (length P) K.width) (λ P. pseudo_known S K₁ P && at P)
      (λ P. (pseudo_known S K P && at P) && open_ P)
      (λ P w. elim (cases_eq (size P) k) [
        | inl e ↦ ap₂ (λ a b. a && b) (pseudo_row P (eqb-true (length P) K.width w) e) (eq-eqb (size P) k e)
            ∙ shuffle (pseudo_known S K P) (open_ P) ∙ ap (λ b. (pseudo_known S K P && b) && open_ P) (sym (eq-eqb (size P) k e))
        | inr ne ↦ ap (λ b. pseudo_known S K₁ P && b) (ne_eqb (size P) k ne)
            ∙ shuffle_none (pseudo_known S K₁ P) (pseudo_known S K P) (open_ P)
            ∙ ap (λ b. (pseudo_known S K P && b) && open_ P) (sym (ne_eqb (size P) k ne))
      ]) (all_sets K.width) (all_sets_widths K.width))
      ∙ ap (map (λ P. rule P (closure K₁ P))) (sym (filter-filter open_ (λ P. pseudo_known S K P && at P) (all_sets K.width)))
      ∙ sym (map-map f (renewed K₁) (filter open_ (filter (λ P. pseudo_known S K P && at P) (all_sets K.width))))
      ∙ ap (map (renewed K₁)) (sym (filter-map (λ i. open_ i.premise) f (filter (λ P. pseudo_known S K P && at P) (all_sets K.width))))
      ∙ ap (λ is. map (renewed K₁) (filter (λ i. open_ i.premise) is)) (level_is S K k)
    where
      shuffle : (a b : Bool) → ((a && b) && true) ≡ ((a && true) && b)
      shuffle true true = refl
      shuffle true false = refl
      shuffle false b = refl

      shuffle_none : (a b c : Bool) → (a && false) ≡ ((b && false) && c)
      shuffle_none true true c = refl
      shuffle_none true false c = refl
      shuffle_none false true c = refl
      shuffle_none false false c = refl

      map-map : {X Y Z : Type 0} (f : X → Y) (g : Y → Z) (xs : List X) → map g (map f xs) ≡ map (λ x. g (f x)) xs
      map-map f g [] = refl
      map-map f g (x ∷ xs) = ap (λ ys. g (f x) ∷ ys) (map-map f g xs)

  -- so are the questions
  questions_row : (questions : List Rule) → IsQueue S K k acc questions
      → renew (with_row K r) questions ≡ filter (λ i. not (has_premise acc i.premise)) (level_of S (with_row K r) k)
  unfolding renew
  questions_row questions q =
      let K₁ = with_row K r in
      let c : Rule → Bool = λ i. not (is_closed K₁ i.premise) in
      let u : Rule → Bool = λ i. not (has_premise acc i.premise) in
      ap (λ is. map (renewed K₁) (filter c is)) q.questions_are
      ∙ ap (map (renewed K₁)) (filter-filter c u (level_of S K k)
      ∙ filter_agree_on (λ i. true) (λ i. u i && c i) (λ i. c i && u i) (λ i _. and_swap (u i) (c i)) (level_of S K k)
      (list_all_from (λ i. true) (λ i. refl) (level_of S K k)) ∙ sym (filter-filter u c (level_of S K k)))
      ∙ sym (filter-map u (renewed K₁) (filter c (level_of S K k)))
      ∙ ap (filter u) (sym level_row)

  -- a recorded row that respects what was accepted keeps the queue
  pub row_keeps_queue : (questions rest : List Rule) → IsQueue S K k acc questions
      → rest ≡ still_open (map (renewed (with_row K r)) questions) → IsQueue S (with_row K r) k acc rest
  row_keeps_queue questions rest q is = record {
    part = part_row;
    questions_are = is ∙ renew_is (with_row K r) questions ∙ questions_row questions q;
  }
