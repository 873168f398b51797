-- Lists that are gone through from the front: what is still to come shrinks by one item each time.
use Rattle.std.proofs.Common.{◌≡◌, ◌∙◌, ◌≤◌, ◌+◌, ◌++◌, ◌∷◌, [], ℕ, zero, suc, List, Some, All, length, drop, slice_get, sym, ap, arith}
use Rattle.std.proofs.lemmas.List.{append-nil, drop_all}
use Rattle.fca_model.specs.Sets.{Set}
use Rattle.text_pieces.specs.Lists.{EachWide}

drop-item_suc : {X : Type 0} (xs : List X) (i : ℕ) (x : X) → slice_get xs i ≡ Some x → drop i xs ≡ x ∷ drop (suc i) xs
drop-item_suc [] i x h = cc h
drop-item_suc (y ∷ ys) zero x h = cc h
drop-item_suc (y ∷ ys) (suc i) x h = drop-item_suc ys i x h

-- what is left at place i begins with the item there
pub drop-item : {X : Type 0} (xs : List X) (i : ℕ) (x : X) → slice_get xs i ≡ Some x → drop i xs ≡ x ∷ drop (i + 1) xs
drop-item xs i x h = let one : i + 1 ≡ suc i = omega arith in rw one (drop-item_suc xs i x h)

-- all items were written
pub written-all : {X : Type 0} (f : List X → List ℕ) (xs : List X) (i : ℕ) (text all : List ℕ) → length xs ≤ i → f [] ≡ []
    → text ++ f (drop i xs) ≡ all → text ≡ all
written-all f xs i text all done none so_far = sym (append-nil text)
    ∙ ap (λ rest. text ++ rest) (sym none ∙ ap f (sym (drop_all i xs done))) ∙ so_far

pub EachWide-from_All : (width : ℕ) (rows : List Set) → All (λ row. length row ≡ width) rows → EachWide width rows
EachWide-from_All width [] h = tt
EachWide-from_All width (row ∷ rows) h = (h zero row (omega arith), EachWide-from_All width rows (λ k d below. h (suc k) d (omega arith)))
