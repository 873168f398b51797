-- The numbers of words that sets are kept in.
use Rattle.std.specs.Prelude.{ℕ}
use Rattle.attr_bits.specs.declared.WordCount.{WordCount}
use Rattle.attr_bits.specs.declared.WordCount.TheVariants.{One, Two, Four, Eight, All}
use Rattle.attr_bits.specs.declared.TheConstants.{WORDS}

abbrev pub words_in : WordCount → ℕ
words_in One = 1
words_in Two = 2
words_in Four = 4
words_in Eight = 8
words_in All = WORDS
