-- An accepted question keeps the queue.
use Rattle.std.proofs.Common.{◌≡◌, ℕ, zero, suc, ◌<◌, Bool, true, false, not, ◌&&◌, ◌||◌, cond, Some, List, [], ◌∷◌, ◌++◌, length, filter}
use Rattle.std.proofs.Common.{get_or}
use Rattle.std.proofs.Common.{remove, refl, sym, ap, ◌∙◌, subst, arith, eqb, eqb-true, eq-eqb, leb, le-leb}
use Rattle.std.proofs.lemmas.Bool.{false≢true, and_parts, and_from, not-true, false_from_ne_true}
use Rattle.std.proofs.lemmas.List.Folds.{list_all-append, list_any-append}
use Rattle.std.proofs.lemmas.List.Sums.{AllPass-from_list_all}
use Rattle.std.proofs.lemmas.Option.{slice_get-get_or}
use Rattle.std.specs.List.{list_all, slice_get}
use Rattle.std.specs.Ordering.{is_lt}
use Rattle.fca_model.specs.Sets.{Set, size, same, increasing, lectic_cmp}
use Rattle.fca_model.specs.Context.{Context, closure}
use Rattle.fca_model.specs.Implications.{Rule, premises}
use Rattle.fca_model.specs.Pseudo.{basis_known}
use Rattle.fca_model.specs.Questions.{has_premise}
use Rattle.fca_model.specs.Levels.{level_of}
use Rattle.fca_model.specs.Invariant.{Among}
use Rattle.fca_model.proofs.ListLemmas.{list_all_from, list_all-filter_kept, filter-filter, filter_passes, filter_agree_on, filter_all}
use Rattle.fca_model.proofs.SetLemmas.{same_refl, same-true, same_from, lectic_refl}
use Rattle.fca_model.proofs.ClosureLemmas.{length-closure}
use Rattle.fca_model.proofs.LevelLemmas.{level_all}
use Rattle.level_queue.specs.Queue.{QueueModel, HasPartUpTo, IsQueue}
use Rattle.level_queue.specs.Rules.{RuleParts}
use Rattle.level_queue.proofs.RowLemmas.{questions_all}

-- the questions with another premise
abbrev others : Set → List Rule → List Rule
others P questions = filter (λ j. not (same P j.premise)) questions

-- a set that comes before another is not the same
before_other : (A B : Set) → is_lt (lectic_cmp A B) ≡ true → same A B ≡ false
before_other A B h = false_from_ne_true (same A B)
    (λ t. false≢true (sym (ap is_lt (ap (lectic_cmp A) (sym (same-true A B t)) ∙ lectic_refl A)) ∙ h))

module _ (S : List Rule) (K : Context) (k : ℕ) (acc questions : List Rule) (q : IsQueue S K k acc questions) (i : Rule)
    (among : Among questions i) where
  -- what all members of the level pass, the question passes
  of_level : (p : Rule → Bool) → list_all p (level_of S K k) ≡ true → p i ≡ true
  of_level p a = among p (questions_all S K k acc questions p q a)

  pub question_size : size i.premise ≡ k
  question_size = eqb-true (size i.premise) k (of_level (λ j. eqb (size j.premise) k)
      (level_all S K k (λ j. eqb (size j.premise) k) (λ P e t s. eq-eqb (size P) k s)))

  -- what all members of the basis pass
  pub question_member : (p : Rule → Bool) → list_all p (basis_known S K) ≡ true → p i ≡ true
  unfolding level_of
  question_member p b = of_level p (list_all-filter_kept p (λ j. eqb (size j.premise) k) (basis_known S K) b)

  pub question_wide : length i.premise ≡ K.width
  question_wide = eqb-true (length i.premise) K.width
      (of_level (λ j. eqb (length j.premise) K.width)
      (level_all S K k (λ j. eqb (length j.premise) K.width) (λ P e t s. eq-eqb (length P) K.width e)))

  pub question_closure : i.conclusion ≡ closure K i.premise
  question_closure = same-true i.conclusion (closure K i.premise)
      (of_level (λ j. same j.conclusion (closure K j.premise))
      (level_all S K k (λ j. same j.conclusion (closure K j.premise)) (λ P e t s. same_from (closure K P) (closure K P) refl)))

  pub conclusion_wide : length i.conclusion ≡ K.width
  conclusion_wide = ap length question_closure ∙ length-closure K i.premise

  -- no accepted implication has its premise
  pub question_new : has_premise acc i.premise ≡ false
  question_new = not-true (has_premise acc i.premise)
      (among (λ j. not (has_premise acc j.premise))
      (subst (λ is. list_all (λ j. not (has_premise acc j.premise)) is ≡ true) (sym q.questions_are)
      (filter_passes (λ j. not (has_premise acc j.premise)) (level_of S K k))))

  part_more : HasPartUpTo S K k (acc ++ i ∷ [])
  part_more = record {
    sound = λ p b. list_all-append p acc (i ∷ [])
        ∙ and_from (list_all p acc) (p i && true) (q.part.sound p b) (and_from (p i) true (question_member p b) refl);
    small = list_all-append (λ j. leb (size j.premise) k) acc (i ∷ [])
        ∙ and_from (list_all (λ j. leb (size j.premise) k) acc) (leb (size i.premise) k && true) q.part.small
        (and_from (leb (size i.premise) k) true (le-leb (size i.premise) k (omega (arith, question_size))) refl);
    complete = λ p a. q.part.complete p (and_parts (list_all p acc) (p i && true) (sym (list_all-append p acc (i ∷ [])) ∙ a)).0;
  }

  questions_less : others i.premise questions ≡ filter (λ j. not (has_premise (acc ++ i ∷ []) j.premise)) (level_of S K k)
  questions_less =
      ap (others i.premise) q.questions_are
      ∙ filter-filter (λ j. not (same i.premise j.premise)) (λ j. not (has_premise acc j.premise)) (level_of S K k)
      ∙ filter_agree_on (λ j. true) (λ j. not (has_premise acc j.premise) && not (same i.premise j.premise))
      (λ j. not (has_premise (acc ++ i ∷ []) j.premise))
      (λ j _. not_or (has_premise acc j.premise) (same i.premise j.premise)
      ∙ ap not (sym (list_any-append (λ x. same x.premise j.premise) acc (i ∷ [])))) (level_of S K k)
      (list_all_from (λ j. true) (λ j. refl) (level_of S K k))
    where
      not_or : (a b : Bool) → (not a && not b) ≡ not (a || (b || false))
      not_or true b = refl
      not_or false true = refl
      not_or false false = refl

  -- an accepted question keeps the queue
  pub accept_keeps_queue : (rest : List Rule) → rest ≡ others i.premise questions → IsQueue S K k (acc ++ i ∷ []) rest
  accept_keeps_queue rest is = record { part = part_more; questions_are = is ∙ questions_less }

-- ---- as the code has it

-- what stands at a place is among them
pub among_at : (questions : List Rule) (n : ℕ) (q : Rule) → n < length questions → q ≡ get_or questions n q → Among questions q
among_at questions n q l is p h = ap p is ∙ AllPass-from_list_all p questions h n q l

-- where the premises are in lectic order, the questions with another premise are those at the other places
pub others_remove : (questions : List Rule) (n : ℕ) (q : Rule) → increasing (premises questions) ≡ true → n < length questions
    → q ≡ get_or questions n q → others q.premise questions ≡ remove questions n
others_remove [] n q up l is = absurd (omega (arith, l))
others_remove (i ∷ is) zero q up l e =
    subst (λ (x : Rule). filter (λ j. not (same x.premise j.premise)) (i ∷ is) ≡ is) (sym e)
    (ap (λ b. cond (not b) (i ∷ others i.premise is) (others i.premise is)) (same_refl i.premise)
    ∙ filter_all (λ j. not (same i.premise j.premise)) is
    (behind i.premise is (and_parts (list_all (λ B. is_lt (lectic_cmp i.premise B)) (premises is)) (increasing (premises is)) up).0))
  where
    behind : (P : Set) (js : List Rule) → list_all (λ B. is_lt (lectic_cmp P B)) (premises js) ≡ true
        → list_all (λ j. not (same P j.premise)) js ≡ true
    behind P [] h = refl
    behind P (j ∷ js) h =
        let parts = and_parts (is_lt (lectic_cmp P j.premise)) (list_all (λ B. is_lt (lectic_cmp P B)) (premises js)) h in
        and_from (not (same P j.premise)) (list_all (λ x. not (same P x.premise)) js) (ap not (before_other P j.premise parts.0))
        (behind P js parts.1)
others_remove (i ∷ is) (suc n) q up l e =
    let parts = and_parts (list_all (λ B. is_lt (lectic_cmp i.premise B)) (premises is)) (increasing (premises is)) up in
    let here : is_lt (lectic_cmp i.premise q.premise) ≡ true =
    among_at is n q (omega (arith, l)) e (λ j. is_lt (lectic_cmp i.premise j.premise))
    (list_all-map (λ B. is_lt (lectic_cmp i.premise B)) is ∙ parts.0) in
    let other : same q.premise i.premise ≡ false =
    false_from_ne_true (same q.premise i.premise)
    (λ t. false≢true (sym (before_other i.premise q.premise here)
    ∙ same_from i.premise q.premise (sym (same-true q.premise i.premise t)))) in
    ap (λ b. cond (not b) (i ∷ others q.premise is) (others q.premise is)) other
    ∙ ap (λ js. i ∷ js) (others_remove is n q parts.1 (omega (arith, l)) e)
  where
    list_all-map : (p : Set → Bool) (js : List Rule) → list_all (λ j. p j.premise) js ≡ list_all p (premises js)
    list_all-map p [] = refl
    list_all-map p (j ∷ js) = ap (λ b. p j.premise && b) (list_all-map p js)

-- one accepted implication more
abbrev more : QueueModel → Rule → QueueModel
more b x = record { context = b.context; known = b.known; accepted = b.accepted ++ x ∷ [] }

abbrev pub base : Context → RuleParts → QueueModel
base K p = record { context = K; known = p.known; accepted = p.accepted }

pub accepted_base : (K : Context) (rules p : RuleParts) (questions : List Rule) (now : QueueModel) (n : ℕ) (q question : Rule)
    → base K rules ≡ now → p ≡ record { width = rules.width; known = rules.known; accepted = rules.accepted ++ q ∷ [] }
    → n < length questions → q ≡ get_or questions n q → slice_get questions n ≡ Some question
    → base K p ≡ record { context = now.context; known = now.known; accepted = now.accepted ++ question ∷ [] }
accepted_base K rules p questions now n q question v is l at s =
    let same_question : q ≡ question = inside (is_some_of (sym (slice_get-get_or questions n q l) ∙ s) at) in
    ap (base K) is ∙ ap (λ (b : QueueModel). more b q) v ∙ ap (more now) same_question
  where
    inside : {a b : Rule} → Some a ≡ Some b → a ≡ b
    inside e = cc

    is_some_of : {a b : Rule} → Some a ≡ Some question → b ≡ a → Some b ≡ Some question
    is_some_of e f = ap (λ x. Some x) f ∙ e
