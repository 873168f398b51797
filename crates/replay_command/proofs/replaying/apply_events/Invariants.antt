-- What was applied so far is recorded, and the rest may still be applied.
use Rattle.std.proofs.Common.{◌≡◌, ◌++◌, length, true}
use Rattle.std.specs.List.{list_all}
use Rattle.std.specs.Vec.Iter.{into_iter_items, into_iter_len}
use Rattle.exploration_terms.specs.Settings.{settings_of}
use Rattle.expert_scripts.specs.Scripts.{may_apply}
use Rattle.command_io.specs.Explorations.{exploration_of}
use Rattle.replay_command.specs.Replayed.{exploration_by}
use Rattle.replay_command.proofs.replaying.apply_events.Given as goal

abbrev pub invariant-loop-event : goal.invariant-loop-event
invariant-loop-event l =
    (l.yielded ++ into_iter_items l.event-iterator ≡ into_iter_items l.initial.event-iterator)
    × (into_iter_len l.event-iterator ≡ length (into_iter_items l.event-iterator))
    × (list_all (may_apply l.fn.table.context.width) (into_iter_items l.event-iterator) ≡ true)
    × (exploration_of l.explore ≡ exploration_by l.fn.table (settings_of l.fn.settings) l.yielded)
