-- The settings of an exploration, and the names of its experts.
use Rattle.std.specs.Prelude.{ℕ, Option, List}
use Rattle.std.specs.Ordering.{nat_cmp}
use Rattle.std.specs.BTreeMap.{is_at}
use Rattle.std.specs.Map.{lookup}
use Rattle.fca_model.specs.Exploration.{Settings, RowName}
use Rattle.exploration_terms.specs.declared.settings.Settings as given

-- the settings without the width of the list of known implications
abbrev pub settings_of : given.Settings → Settings
settings_of s = record { known = s.known.members; holders = s.holders; expert_names = s.names }

-- the name of expert e
abbrev pub name_of : ℕ → List (ℕ × RowName) → Option RowName
name_of e names = lookup (is_at (nat_cmp e)) names
