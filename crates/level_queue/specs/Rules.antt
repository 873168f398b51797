-- The rules that a row has to respect: what is known, and behind it what was accepted.
use Rattle.std.specs.Prelude.{◌≡◌, ◌≢◌, ℕ, List, [], ◌++◌}
use Rattle.fca_model.specs.Implications.{Rule}
use Rattle.implication_closure.specs.Closing.{RuleList}

-- a number of attributes, the known implications, and the accepted ones
pub record RuleParts : Type 0 where
  pub width : ℕ
  pub known : List Rule
  pub accepted : List Rule

-- where anything is known, the third list has those of the first and then those of the second
pub record AreTogether (known accepted all : RuleList) : Type 0 where
  pub wide : known.width ≡ accepted.width
  pub together : known.members ≢ [] → all ≡ record { width = accepted.width; members = known.members ++ accepted.members }
