use Rattle.std.proofs.Common.{◌≡◌, length}
use Rattle.table_texts.specs.Numerals.{AreNumerals}
use Rattle.table_texts.proofs.numerals.extend_numerals.Given as goal

abbrev pub invariant-loop-place : goal.invariant-loop-place
invariant-loop-place l = record {
  here : length l.numerals.items ≡ l.place;
  numerals : AreNumerals l.numerals.items;
}
