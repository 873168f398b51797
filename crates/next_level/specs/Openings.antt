-- The opening of a level: what the search for the next level needs, and what it gives.
use Rattle.std.specs.Prelude.{◌≡◌, ℕ, ◌+◌, ◌≤◌, ◌++◌, List}
use Rattle.fca_model.specs.Context.{Context}
use Rattle.fca_model.specs.Implications.{Rule}
use Rattle.fca_model.specs.Levels.{HasBelow}
use Rattle.implication_closure.specs.Closing.{RuleList}
use Rattle.next_level.specs.NextLevel.{IsNextLevel}
use Rattle.next_level.specs.Among.{AllAmong, IsAhead}
use Rattle.next_level.specs.declared.ahead.Ahead.{Ahead}

-- the rules and the sets kept are as wide as the table, and all open sets are among the latter
pub record CanOpen (K : Context) (L : RuleList) (kept : Ahead) : Type 0 where
  pub wide : L.width ≡ K.width
  pub ahead_wide : kept.sets.width ≡ K.width
  pub among : AllAmong L.members K kept.whole kept.sets.rows

-- the members of size b are the next level, wherever the rules are split into what is known and the basis below a size; all larger open
-- sets are among those kept
pub record IsOpened (K : Context) (L : RuleList) (b : ℕ) (members : List Rule) (kept : Ahead) : Type 0 where
  pub next : (known found : List Rule) (reached : ℕ) → L.members ≡ known ++ found → HasBelow known K reached found → reached ≤ K.width + 1
      → IsNextLevel known K found b members
  pub ahead : IsAhead L.members K b kept.whole kept.sets.rows
  pub ahead_wide : kept.sets.width ≡ K.width
