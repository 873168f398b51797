-- The words so far are those for the endings so far.
use Rattle.std.proofs.Common.{◌≡◌, ◌≤◌, map, take, length}
use Rattle.std.specs.Prelude.{vec_len, vec_capacity}
use Rattle.serve_command.specs.Served.{ended_words}
use Rattle.serve_command.proofs.ended_words.all_ended_words.Given as goal

abbrev pub invariant-loop-each : goal.invariant-loop-each
invariant-loop-each l =
    (map (λ words. words.now) l.words.items ≡ map ended_words (take l.each-index l.ended))
    × (vec_len l.words ≡ l.each-index)
    × (length l.ended ≤ vec_capacity l.words)
