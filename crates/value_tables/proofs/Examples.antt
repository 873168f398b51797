-- Worked examples: which texts are numbers, and a column of a table.
use Rattle.std.proofs.Common.{◌≡◌, [], ◌∷◌, Some, None, pos, negsuc, refl, codes}
use Rattle.value_tables.specs.Numbers.{number_of}
use Rattle.value_tables.specs.Values.{ValueTable, column}

pub number_12 : number_of (codes "-12") ≡ Some (negsuc 11)
number_12 = refl

pub number_0 : number_of (codes "-0") ≡ number_of (codes "0")
number_0 = refl

pub number_7 : number_of (codes "007") ≡ Some (pos 7)
number_7 = refl

pub no_plus : number_of (codes "+12") ≡ None
no_plus = refl

pub no_point : number_of (codes "1.5") ≡ None
no_point = refl

abbrev people : ValueTable
people = record {
  attributes = codes "age" ∷ codes "size" ∷ [];
  objects = record { name = codes "tim"; values = codes "21" ∷ codes "s" ∷ [] } ∷ record {
    name = codes "ann";
    values = codes "35" ∷ codes "l" ∷ [];
  } ∷ [];
}

pub ages : column people 0 ≡ codes "21" ∷ codes "35" ∷ []
ages = refl
