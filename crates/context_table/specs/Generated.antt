-- Tables from a number. A linear congruential generator draws the cells.
--
-- The state of the generator is a number of 64 bits. It begins as the seed. A step multiplies it and adds to it, modulo 2^64. Each cell
-- takes one step, row by row. A cell is a cross if the three highest bits of the state are a number below the density: of eight cells
-- about as many as the density are crosses. Low bits have short periods, so they decide nothing. (Knuth, "The Art of Computer
-- Programming", volume 2, linear congruential sequences; the constants are those of his MMIX.)
--
-- With seed 0 the first three states are 1442695040888963407, 1876011003808476466 and 11166244414315200793. The three highest bits of
-- the first four are 0, 0, 4 and 3, so at density 4 the rows of two objects with two attributes are XX and .X.
use Rattle.std.specs.Prelude.{ℕ, zero, suc, ◌+◌, ◌*◌, ◌/◌, ◌%◌, ◌^◌, Bool, List, ◌∷◌, None, map, nat_lt, decimal}
use Rattle.std.specs.List.{range_with_len}
use Rattle.fca_model.specs.Sets.{Set}
use Rattle.fca_model.specs.Tables.{Text, NamedContext}

-- the state after one step
unfoldable pub next_state : ℕ → ℕ
next_state x = (x * 6364136223846793005 + 1442695040888963407) % 2 ^ 64

-- the state after a number of steps
unfoldable pub state_after : ℕ → ℕ → ℕ
state_after zero x = x
state_after (suc steps) x = next_state (state_after steps x)

-- whether the cell that is drawn at this state is a cross
abbrev pub draws_cross : ℕ → ℕ → Bool
draws_cross density x = nat_lt (x / 2 ^ 61) density

-- the row of n cells that is drawn from the state x on
abbrev pub row_from : ℕ → ℕ → ℕ → Set
row_from density n x = map (λ j. draws_cross density (state_after (j + 1) x)) (range_with_len 0 n)

-- the rows, each drawn after those before it
abbrev pub rows_from : ℕ → ℕ → ℕ → ℕ → List Set
rows_from density count n seed = map (λ i. row_from density n (state_after (i * n) seed)) (range_with_len 0 count)

-- the letter with each number from 1 on
abbrev pub numbered_names : ℕ → ℕ → List Text
numbered_names letter count = map (λ i. letter ∷ decimal (i + 1)) (range_with_len 0 count)

-- the table with objects g1, g2 and so on and attributes m1, m2 and so on; g is 103 and m is 109
unfoldable pub made_table : ℕ → ℕ → ℕ → ℕ → NamedContext
made_table seed objects attributes density = record {
  title = None;
  objects = numbered_names 103 objects;
  attributes = numbered_names 109 attributes;
  context = record { width = attributes; rows = rows_from density objects attributes seed };
}
