-- Few objects of a set apart, of which those of a larger set stand in one word.
use Rattle.std.specs.Prelude.{◌≡◌, ℕ, true, cond, List, [], ◌∷◌}
use Rattle.fca_model.specs.Sets.{Set, within}
use Rattle.fca_model.specs.Context.{Context, extent}
use Rattle.extent_places.specs.Objects.{HasObjects, AreColumns, rows_above}
use Rattle.extent_places.specs.declared.few.FewObjects.{FewObjects}

-- those of the places whose objects are in S
abbrev pub chosen : Set → List ℕ → List ℕ
chosen [] ps = []
chosen (b ∷ S) [] = []
chosen (b ∷ S) (p ∷ ps) = cond b (p ∷ chosen S ps) (chosen S ps)

-- no object stands apart
abbrev pub HasNoObject : {W : ℕ} → FewObjects W → Type 0
HasNoObject few = few.places.items ≡ []

-- the objects of a part of A stand apart, and S are those of A among them
pub record AreFew (K : Context) (A : Set) {W : ℕ} (few : FewObjects W) (S : Set) : Type 0 where
  pub least : Set
  pub part : within least A ≡ true
  pub places : few.places.items ≡ extent K least
  pub rows : few.rows ≡ rows_above K least
  pub columns : AreColumns few.rows few.columns.items
  pub objects : HasObjects few.rows A S
