-- Concepts of which the places of all objects stand one behind the other.
use Rattle.std.specs.Prelude.{◌+◌, ◌*◌, ◌<◌, ◌≤◌, ℕ, List, [], ◌∷◌, All, length, take, drop}
use Rattle.fca_model.specs.Sets.{Set}
use Rattle.packed_concepts.specs.Lines.{TableNames}
use Rattle.packed_concepts.specs.declared.page.IntentAndCount.{IntentAndCount}

-- how many places there are of all of them
abbrev pub total : {W : ℕ} → List (IntentAndCount W) → ℕ
total [] = 0
total (p ∷ ps) = p.count + total ps

-- the intents, each with its own of these places
abbrev pub unpacked : {W : ℕ} → List (IntentAndCount W) → List ℕ → List (Set × List ℕ)
unpacked [] places = []
unpacked (p ∷ ps) places = (p.intent, take p.count places) ∷ unpacked ps (drop p.count places)

-- the names of the concept are there
pub record IsNamed (t : TableNames) (c : Set × List ℕ) : Type 0 where
  pub wide : length c.0 ≤ length t.attributes
  pub inside : All (λ p. p < length t.objects) c.1

-- so many bytes hold the line of the concept, whatever its number
pub record HasRoomForLine (bytes : ℕ) (c : Set × List ℕ) : Type 0 where
  pub room : 30 + 273 * (length c.0 + length c.1) ≤ bytes
