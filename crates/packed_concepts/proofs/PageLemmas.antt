-- Pages one behind the other.
use Rattle.std.proofs.Common.{◌≡◌, ℕ, ◌+◌, ◌<◌, All, List, [], ◌∷◌, ◌++◌, length, drop, get_or, refl, sym, ap, ◌∙◌, subst}
use Rattle.std.proofs.lemmas.List.{drop_more, take_at, drop_at}
use Rattle.std.proofs.lemmas.List.Elements.{All-nil, All-cons, All-head, All-tail, All-take, All-drop, All-append}
use Rattle.std.specs.List.{flat_map}
use Rattle.fca_model.specs.Sets.{Set}

-- the concepts of the page at place i, and those of the pages behind it
pub next_page : (pages : List (List (Set × List ℕ))) (i : ℕ) (page : List (Set × List ℕ)) → i < length pages → page ≡ get_or pages i page
    → flat_map (λ x. x) (drop i pages) ≡ page ++ flat_map (λ x. x) (drop (i + 1) pages)
next_page pages i page inside is = ap (flat_map (λ x. x)) (drop_more pages i page inside)
    ∙ ap (λ (x : List (Set × List ℕ)). x ++ flat_map (λ y. y) (drop (i + 1) pages)) (sym is)

-- what holds of each page holds of that one
pub of_page : (P : List (Set × List ℕ) → Type 0) (pages : List (List (Set × List ℕ))) (i : ℕ) (page : List (Set × List ℕ))
    → i < length pages → page ≡ get_or pages i page → All P pages → P page
of_page P pages i page inside is all = subst P (sym is) (all i page inside)

-- what holds of all that lists have holds of those of each
pub All-lists : {X : Type 0} (P : X → Type 0) (lists : List (List X)) → All P (flat_map (λ x. x) lists) → All (λ xs. All P xs) lists
All-lists P [] h = All-nil (λ xs. All P xs)
All-lists P (xs ∷ lists) h =
    let rest = flat_map (λ x. x) lists in
    All-cons (λ ys. All P ys) xs lists
    (subst (All P) (take_at xs rest (length xs) refl) (All-take P (length xs) (xs ++ rest) h))
    (All-lists P lists (subst (All P) (drop_at xs rest (length xs) refl) (All-drop P (length xs) (xs ++ rest) h)))

-- what holds of those of each list holds of all
pub All-flat : {X : Type 0} (P : X → Type 0) (lists : List (List X)) → All (λ xs. All P xs) lists → All P (flat_map (λ x. x) lists)
All-flat P [] h = All-nil P
All-flat P (xs ∷ lists) h = All-append P xs (flat_map (λ x. x) lists) (All-head (λ ys. All P ys) xs lists h)
    (All-flat P lists (All-tail (λ ys. All P ys) xs lists h))
