-- Room for seats.
use Rattle.std.proofs.Common.{◌≡◌, ◌≤◌, ◌<◌, ◌+◌, ℕ, suc, List, ◌∷◌, length, ap, arith}

-- if there is room for all that is to come, there is room for the first of it
pub room-next : {S : Type 0} (count most : ℕ) (seat : S) (rest rest' : List S) → count + length rest ≤ most → rest ≡ seat ∷ rest'
    → count < most
room-next count most seat rest rest' room steps = let one : length rest ≡ suc (length rest') = ap length steps in omega arith
