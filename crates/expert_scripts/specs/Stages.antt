-- The content of a script of which some lines were read and the others are still to come.
use Rattle.std.specs.Prelude.{ℕ, Result, Ok, Err, List, ◌++◌}
use Rattle.fca_model.specs.Tables.{Text}
use Rattle.fca_model.specs.Exploration.{SetEvent}
use Rattle.expert_scripts.specs.declared.fault.ScriptFault.{ScriptFault}
use Rattle.expert_scripts.specs.declared.partial.PartialSettings as read
use Rattle.expert_scripts.specs.declared.reading.PartialScript as part
use Rattle.expert_scripts.specs.declared.reading.Stage.{Stage}
use Rattle.expert_scripts.specs.declared.reading.Stage.TheVariants.{Heading, Settings, Events}
use Rattle.expert_scripts.specs.Scripts.{ScriptContent, PartialSettings, content_of_lines, settings_then_events, script_content}
use Rattle.expert_scripts.specs.Scripts.{events_of_lines}

-- the settings that were given so far
abbrev pub partial_of : read.PartialSettings → PartialSettings
partial_of t = record { known = t.known.members; holders = t.holders; expert_names = t.names }

-- the content of the lines to come, after these settings
abbrev pub by_stage : ℕ → PartialSettings → Stage → List (ℕ × Text) → Result ScriptContent ScriptFault
by_stage n t Heading ls = content_of_lines n t ls
by_stage n t (Settings second) ls = settings_then_events n t second ls
by_stage n t (Events second) ls = script_content t second (events_of_lines n ls)

-- the content with these events before its own
abbrev pub after_events : List SetEvent → Result ScriptContent ScriptFault → Result ScriptContent ScriptFault
after_events events (Ok said) = Ok (record said { events = events ++ said.events })
after_events events (Err fault) = Err fault

-- the content of the whole script, if these lines are still to come
abbrev pub content_to_come : ℕ → part.PartialScript → List (ℕ × Text) → Result ScriptContent ScriptFault
content_to_come n r ls = after_events r.events.items (by_stage n (partial_of r.settings) r.stage ls)
