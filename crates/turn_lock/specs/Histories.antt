-- Histories: lists of entries, each by one pass.
use Rattle.std.specs.Prelude.{◌≡◌, ℕ, ◌+◌, ◌==◌, ◌⊎◌, nat_lt, if◌then◌else◌, List, [], ◌∷◌, ◌++◌, length, filter}

-- the history goes on from an earlier one
abbrev pub StartsWith : {E : Type 0} → List E → List E → Type 0
StartsWith {E} history earlier = (later : List E) × (history ≡ earlier ++ later)

-- the entries by the pass n, in their order
abbrev pub own_of : {E : Type 0} → (E → ℕ) → ℕ → List E → List E
own_of by n history = filter (λ entry. by entry == n) history

-- the longer of two histories, or the first if they are of one length
abbrev pub longer : {E : Type 0} → List E → List E → List E
longer h k = if nat_lt (length h) (length k) then k else h

-- x is one of the list
abbrev pub IsOneOf : {X : Type 0} → List X → X → Type 0
IsOneOf [] x = ⊥
IsOneOf (y ∷ ys) x = (y ≡ x) ⊎ IsOneOf ys x

-- the sum of a number of each
abbrev pub total : {X : Type 0} → (X → ℕ) → List X → ℕ
total f [] = 0
total f (x ∷ xs) = f x + total f xs
