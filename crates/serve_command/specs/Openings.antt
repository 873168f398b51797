-- The exploration that `serve` opens before it listens.
use Rattle.std.specs.Prelude.{◌≡◌, ℕ, true, []}
use Rattle.fca_model.specs.Exploration.{is_expert}
use Rattle.fca_model.specs.Invariant.{rows_respect}
use Rattle.explore_state.specs.History.{Opening, ExploreModel}
use Rattle.expert_scripts.specs.Transcripts.{SettingsCanBeWritten}
use Rattle.command_io.specs.Explorations.{opening_of}
use Rattle.command_io.specs.Known.{Start}

-- the opening of the start's table beside what is known, by these numbers of experts and of holders
abbrev pub opening_by : ℕ → ℕ → Start → Opening
opening_by experts holders start = opening_of start.table experts (record { known = start.known; holders = holders; expert_names = [] })

-- nothing was done yet, the rows respect what is known, and a text can spell the settings
pub record IsNew (h : ExploreModel) : Type 0 where
  pub none : h.journal ≡ []
  pub experts : is_expert h.opening.experts ≡ true
  pub respecting : rows_respect h.opening.settings.known h.opening.table.context ≡ true
  pub writable : SettingsCanBeWritten h.opening.table.context.width h.opening.settings
