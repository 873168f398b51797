-- Joins of several sets. A place is in the join exactly where it is in one of them, and the join lies within what contains each of them.
use Rattle.std.proofs.Common.{◌≡◌, ℕ, ◌+◌, ◌<◌, Bool, true, false, ◌||◌, List, [], ◌∷◌, ◌++◌, cond, take, map, filter, fold, length, get_or}
use Rattle.std.proofs.Common.{refl, sym, ap, ◌∙◌, subst}
use Rattle.std.proofs.Math.Bool.{or-false, or_assoc}
use Rattle.std.proofs.lemmas.Bool.{and_parts}
use Rattle.std.proofs.lemmas.List.{map-append, take_more}
use Rattle.std.proofs.lemmas.List.Elements.{filter-append}
use Rattle.std.proofs.lemmas.List.Sums.{fold-append}
use Rattle.std.specs.List.{list_all, list_any}
use Rattle.fca_model.specs.Sets.{Set, within, join}
use Rattle.fca_model.specs.Implications.{Rule}
use Rattle.fca_model.proofs.SetLemmas.{length-join, get_or-join, join_within}
use Rattle.direct_basis.specs.Direct.{one_pass}

pub length-joins : (A : Set) (Cs : List Set) → length (fold join A Cs) ≡ length A
length-joins A [] = refl
length-joins A (C ∷ Cs) = length-joins (join A C) Cs ∙ length-join A C

pub get_or-joins : (A : Set) (Cs : List Set) (i : ℕ) → i < length A
    → get_or (fold join A Cs) i false ≡ (get_or A i false || list_any (λ C. get_or C i false) Cs)
get_or-joins A [] i l = sym (or-false (get_or A i false))
get_or-joins A (C ∷ Cs) i l =
    get_or-joins (join A C) Cs i (subst (λ n. i < n) (sym (length-join A C)) l)
    ∙ ap (λ b. b || list_any (λ C. get_or C i false) Cs) (get_or-join A C i l)
    ∙ or_assoc (get_or A i false) (get_or C i false) (list_any (λ C. get_or C i false) Cs)

pub joins_within : (A : Set) (Cs : List Set) (T : Set) → within A T ≡ true → list_all (λ C. within C T) Cs ≡ true
    → within (fold join A Cs) T ≡ true
joins_within A [] T a cs = a
joins_within A (C ∷ Cs) T a cs =
    let parts = and_parts (within C T) (list_all (λ C. within C T) Cs) cs in
    joins_within (join A C) Cs T (join_within A C T a parts.0) parts.1

-- ---- one more

pub joins_more : {X : Type 0} (f : X → Set) (p : X → Bool) (A : Set) (xs : List X) (x : X)
    → fold join A (map f (filter p (xs ++ x ∷ []))) ≡ cond (p x) (join (fold join A (map f (filter p xs))) (f x))
    (fold join A (map f (filter p xs)))
joins_more f p A xs x =
    ap (λ ys. fold join A (map f ys)) (filter-append p xs (x ∷ [])) ∙ ap (fold join A) (map-append f (filter p xs) (filter p (x ∷ [])))
    ∙ fold-append join A (map f (filter p xs)) (map f (filter p (x ∷ []))) ∙ joined (p x)
  where
    joined : (b : Bool) → fold join (fold join A (map f (filter p xs))) (map f (cond b (x ∷ []) [])) ≡ cond b
        (join (fold join A (map f (filter p xs))) (f x)) (fold join A (map f (filter p xs)))
    joined true = refl
    joined false = refl

pub pass_more : (J : List Rule) (k : ℕ) (i : Rule) (X : Set) → k < length J → i ≡ get_or J k i
    → one_pass (take (k + 1) J) X ≡ cond (within i.premise X) (join (one_pass (take k J) X) i.conclusion) (one_pass (take k J) X)
pass_more J k i X l is = ap (λ js. one_pass js X) (take_more J k i l ∙ ap (λ j. take k J ++ j ∷ []) (sym is))
    ∙ joins_more (λ (j : Rule). j.conclusion) (λ j. within j.premise X) X (take k J) i
