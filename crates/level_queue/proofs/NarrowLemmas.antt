-- One row more lessens the closure of a set that the row contains: it is met with the row. So the questions with their closures in the rows
-- before, each met with the row where that has its premise, are the questions with their closures in the rows now.
use Rattle.std.proofs.Common.{◌≡◌, ℕ, Bool, true, false, ◌||◌, cond, List, [], ◌∷◌, map, filter, refl, sym, ap, ap₂, ◌∙◌}
use Rattle.std.proofs.lemmas.Bool.{false≢true, and_parts}
use Rattle.std.proofs.lemmas.List.Elements.{filter-append}
use Rattle.std.proofs.lemmas.List.Sums.{fold-append}
use Rattle.std.specs.List.{list_all, list_any, fold}
use Rattle.fca_model.specs.Sets.{Set, within, meet, full, same}
use Rattle.fca_model.specs.Context.{Context, closure, with_row}
use Rattle.fca_model.specs.Implications.{Rule, rule}
use Rattle.fca_model.proofs.SetLemmas.{same_refl, same-true}
use Rattle.fca_model.proofs.LevelLemmas.{level_all}
use Rattle.level_queue.specs.Queue.{IsQueue, narrowed, renewed, still_open, is_left}
use Rattle.level_queue.proofs.RowLemmas.{questions_all}

pub closure-with_row : (K : Context) (r A : Set) → closure (with_row K r) A ≡ cond (within A r) (meet (closure K A) r) (closure K A)
closure-with_row K r A =
    ap (fold meet (full K.width)) (filter-append (within A) K.rows (r ∷ []))
    ∙ fold-append meet (full K.width) (filter (within A) K.rows) (filter (within A) (r ∷ []))
    ∙ last (within A r)
  where
    last : (b : Bool) → fold meet (closure K A) (cond b (r ∷ []) []) ≡ cond b (meet (closure K A) r) (closure K A)
    last true = refl
    last false = refl

-- the conclusion is the closure of the premise
closes : Context → Rule → Bool
closes K i = same i.conclusion (closure K i.premise)

narrowed_renews : (K : Context) (r : Set) (i : Rule) → i.conclusion ≡ closure K i.premise → narrowed r i ≡ renewed (with_row K r) i
narrowed_renews K r i e =
    choice (within i.premise r) ∙ ap (λ C. rule i.premise (cond (within i.premise r) (meet C r) C)) e
    ∙ ap (rule i.premise) (sym (closure-with_row K r i.premise))
  where
    choice : (b : Bool) → cond b (rule i.premise (meet i.conclusion r)) i ≡ rule i.premise (cond b (meet i.conclusion r) i.conclusion)
    choice true = refl
    choice false = refl

map-narrowed : (K : Context) (r : Set) (questions : List Rule) → list_all (closes K) questions ≡ true
    → map (narrowed r) questions ≡ map (renewed (with_row K r)) questions
unfolding closes
map-narrowed K r [] h = refl
map-narrowed K r (i ∷ is) h =
    let parts = and_parts (same i.conclusion (closure K i.premise)) (list_all (closes K) is) h in
    ap₂ (λ j js. j ∷ js) (narrowed_renews K r i (same-true i.conclusion (closure K i.premise) parts.0)) (map-narrowed K r is parts.1)

-- the questions of a queue, once there is the row
pub narrowed_in : (S : List Rule) (K : Context) (r : Set) (k : ℕ) (acc questions : List Rule) → IsQueue S K k acc questions
    → map (narrowed r) questions ≡ map (renewed (with_row K r)) questions
unfolding closes
narrowed_in S K r k acc questions queue = map-narrowed K r questions
    (questions_all S K k acc questions (closes K) queue (level_all S K k (closes K) (λ P _ _ _. same_refl (closure K P))))

-- what is left once there is the row
pub left_some : (r : Set) (questions : List Rule) → list_any (is_left r) questions ≡ true → still_open (map (narrowed r) questions) ≡ [] → ⊥
left_some r [] h e = false≢true h
left_some r (i ∷ is) h e = go (is_left r i) (left_some r is) h e
  where
    go : (b : Bool) → (list_any (is_left r) is ≡ true → still_open (map (narrowed r) is) ≡ [] → ⊥) → (b || list_any (is_left r) is) ≡ true
        → cond b (narrowed r i ∷ still_open (map (narrowed r) is)) (still_open (map (narrowed r) is)) ≡ [] → ⊥
    go true rest h e = absurd (cc)
    go false rest h e = rest h e

pub left_none : (r : Set) (questions : List Rule) → list_any (is_left r) questions ≡ false → still_open (map (narrowed r) questions) ≡ []
left_none r [] h = refl
left_none r (i ∷ is) h = go (is_left r i) (left_none r is) h
  where
    go : (b : Bool) → (list_any (is_left r) is ≡ false → still_open (map (narrowed r) is) ≡ []) → (b || list_any (is_left r) is) ≡ false
        → cond b (narrowed r i ∷ still_open (map (narrowed r) is)) (still_open (map (narrowed r) is)) ≡ []
    go true rest h = absurd (false≢true (sym h))
    go false rest h = rest h
