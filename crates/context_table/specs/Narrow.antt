-- Narrow rows: sets in as few words as have room for them.
use Rattle.std.specs.Prelude.{◌*◌, ◌≤◌}
use Rattle.fca_model.specs.Context.{Context}
use Rattle.attr_bits.specs.Counts.{words_in}
use Rattle.attr_bits.specs.declared.WordCount.{WordCount}
use Rattle.attr_bits.specs.declared.WordCount.TheVariants as count
use Rattle.context_table.specs.declared.rows.NarrowRows.{NarrowRows}
use Rattle.context_table.specs.declared.rows.NarrowRows.TheVariants.{One, Two, Four, Eight, All}

-- the context of the rows, however many words they have
abbrev pub context_in : NarrowRows → Context
context_in (One rows) = rows
context_in (Two rows) = rows
context_in (Four rows) = rows
context_in (Eight rows) = rows
context_in (All rows) = rows

-- the number of words of each row
abbrev pub word_count : NarrowRows → WordCount
word_count (One rows) = count.One
word_count (Two rows) = count.Two
word_count (Four rows) = count.Four
word_count (Eight rows) = count.Eight
word_count (All rows) = count.All

-- no fewer words have room for each row
abbrev pub HasFewestWords : NarrowRows → Type 0
HasFewestWords rows = (n : WordCount) → (context_in rows).width ≤ 64 * words_in n → words_in (word_count rows) ≤ words_in n
