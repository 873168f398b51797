-- A second copy of the rows of a table, in sets as narrow as the table.
use Rattle.std.specs.Prelude.{◌≡◌}
use Rattle.fca_model.specs.Context.{Context}
use Rattle.oracle_expert.specs.declared.indexed.IndexedCopy.{IndexedCopy}
use Rattle.oracle_expert.specs.declared.indexed.IndexedCopy.TheVariants.{One, Two, Four, Eight, NoCopy}

-- the copy has the rows of K, or there is none
abbrev pub AreRowsOf : Context → IndexedCopy → Type 0
AreRowsOf K (One rows) = rows ≡ K
AreRowsOf K (Two rows) = rows ≡ K
AreRowsOf K (Four rows) = rows ≡ K
AreRowsOf K (Eight rows) = rows ≡ K
AreRowsOf K NoCopy = Unit {0}
