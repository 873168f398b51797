-- Seats at a gate, of which each has a pass.
use Rattle.std.specs.Prelude.{List, [], ◌∷◌}

-- P holds of each seat before and after
abbrev pub EachSeat : {S : Type 0} → (S → S → Type 0) → List S → List S → Type 0
EachSeat P [] [] = Unit {0}
EachSeat P [] (new ∷ news) = ⊥
EachSeat P (old ∷ olds) [] = ⊥
EachSeat P (old ∷ olds) (new ∷ news) = P old new × EachSeat P olds news
