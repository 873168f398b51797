-- The premises beside a list of questions stay its premises while it changes.
use Rattle.std.proofs.Common.{◌≡◌, ◌≢◌, ℕ, ◌+◌, ◌<◌, ◌≤◌, ◌-◌, Bool, true, false, cond, List, [], ◌∷◌, ◌++◌, map, length, get_or, set, take}
use Rattle.std.proofs.Common.{drop, refl, sym, ap, ap₂, ◌∙◌, arith, leb, leb-true}
use Rattle.std.proofs.lemmas.List.{take_all, length-drop, map-append, take-map, drop-map, map_more}
use Rattle.std.proofs.Math.Seq.{map-set_same}
use Rattle.std.proofs.lemmas.List.Sums.{AllPass-from_list_all}
use Rattle.std.specs.List.{list_all, copy_within}
use Rattle.fca_model.specs.Sets.{Set, within, meet}
use Rattle.fca_model.specs.Implications.{Rule, rule, premises}
use Rattle.level_queue.specs.Queue.{narrowed}
use Rattle.level_queue.specs.QuestionLists.{AreInOneWord}

-- each has no more attributes than one word
pub premise_fits : (questions : List Rule) (i : ℕ) (q : Rule) → list_all (λ j. leb (length j.premise) 64) questions ≡ true
    → i < length questions → q ≡ get_or questions i q → length q.premise ≤ 64
premise_fits questions i q all l at =
    leb-true (length q.premise) 64 (ap (λ (j : Rule). leb (length j.premise) 64) at
    ∙ AllPass-from_list_all (λ (j : Rule). leb (length j.premise) 64) questions all i q l)

-- one more of them
pub premises_more : (questions : List Rule) (i : ℕ) (q : Rule) (P : Set) (old new : List Set) → i < length questions
    → q ≡ get_or questions i q → P ≡ q.premise → old ≡ premises (take i questions)
    → new ≡ old ++ P ∷ [] → new ≡ premises (take (i + 1) questions)
premises_more questions i q P old new l at is before pushed =
    pushed ∙ ap₂ (λ Ps Q. Ps ++ Q ∷ []) before (is ∙ ap (λ (j : Rule). j.premise) at)
    ∙ sym (map_more (λ (j : Rule). j.premise) questions i q l)

copy_within-map : {X Y : Type 0} (f : X → Y) (xs : List X) (i j n : ℕ) → copy_within (map f xs) i j n ≡ map f (copy_within xs i j n)
copy_within-map f xs i j n =
    ap₂ (λ front back. front ++ back)
    (ap₂ (λ before moved. before ++ moved) (take-map f n xs) (ap (take (j - i)) (drop-map f i xs) ∙ take-map f (j - i) (drop i xs))
    ∙ sym (map-append f (take n xs) (take (j - i) (drop i xs))))
    (drop-map f (n + (j - i)) xs)
    ∙ sym (map-append f (take n xs ++ take (j - i) (drop i xs)) (drop (n + (j - i)) xs))

-- some move
pub premises_moved : (questions : List Rule) (sets : List Set) (i j n : ℕ) → sets ≢ [] → AreInOneWord questions sets
    → copy_within sets i j n ≡ premises (copy_within questions i j n)
premises_moved questions sets i j n some are = ap (λ Ps. copy_within Ps i j n) (are some)
    ∙ copy_within-map (λ (q : Rule). q.premise) questions i j n

-- those from a place on
pub premises_from : (questions : List Rule) (sets : List Set) (first : ℕ) (all : List Set) → all ≡ sets → sets ≢ []
    → AreInOneWord questions sets
    → take (length all - first) (drop first all) ≡ premises (drop first questions)
premises_from questions sets first all is some are =
    take_all (length all - first) (drop first all) (omega (arith, length-drop first all))
    ∙ ap (drop first) (is ∙ are some) ∙ drop-map (λ (q : Rule). q.premise) first questions

-- one is met with a row
pub premises_met : (r : Set) (questions : List Rule) (i : ℕ) (q : Rule) → q ≡ get_or questions i q
    → premises (set questions i (narrowed r q)) ≡ premises questions
premises_met r questions i q at = map-set_same (λ (j : Rule). j.premise) questions i (narrowed r q) q
    (stays (within q.premise r) ∙ ap (λ (j : Rule). j.premise) at)
  where
    stays : (b : Bool) → (cond b (rule q.premise (meet q.conclusion r)) q).premise ≡ q.premise
    stays true = refl
    stays false = refl
