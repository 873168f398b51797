-- The ends so far were the first to come.
use Rattle.std.proofs.Common.{◌≡◌, ◌≤◌, ℕ, List, true}
use Rattle.std.specs.Prelude.{vec_len, vec_capacity}
use Rattle.serve_command.specs.Accepted.{TookFirst}
use Rattle.serve_command.proofs.accepting.accept_ends.Given as goal

abbrev pub invariant-loop-number : goal.invariant-loop-number
invariant-loop-number g l =
    TookFirst (g.L.Listener.ends l.initial.link) (g.L.Listener.ends l.link) l.ends.items
    × (vec_len l.ends ≡ l._number)
    × (l.count ≤ vec_capacity l.ends)
    × (g.L.Listener.listens l.link ≡ true)
    × (g.L.Listener.listens_at l.link ≡ g.L.Listener.listens_at l.initial.link)
    × ((other : List ℕ) → g.L.Listener.open_faults l.link other ≡ g.L.Listener.open_faults l.initial.link other)
    × (g.L.Listener.accept_faults l.link ≡ g.L.Listener.accept_faults l.initial.link)
