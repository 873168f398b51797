-- The ends so far stand behind those given back before, where there is room for all.
use Rattle.std.proofs.Common.{◌≡◌, ◌++◌, ℕ, List, length}
use Rattle.std.specs.Vec.Iter.{into_iter_items}
use Rattle.serve_command.specs.Accepted.{GaveBack, HasRoomFor}
use Rattle.serve_command.proofs.accepting.give_back.Given as goal

abbrev pub invariant-loop-end : goal.invariant-loop-end
invariant-loop-end g l =
    (l.yielded ++ into_iter_items l.end-iterator ≡ into_iter_items l.initial.end-iterator)
    × (HasRoomFor (g.L.Listener.ends l.initial.link) (length (into_iter_items l.initial.end-iterator))
    → GaveBack (g.L.Listener.ends l.initial.link) (g.L.Listener.ends l.link) l.yielded)
    × (g.L.Listener.listens l.link ≡ g.L.Listener.listens l.initial.link)
    × (g.L.Listener.listens_at l.link ≡ g.L.Listener.listens_at l.initial.link)
    × ((other : List ℕ) → g.L.Listener.open_faults l.link other ≡ g.L.Listener.open_faults l.initial.link other)
    × (g.L.Listener.accept_faults l.link ≡ g.L.Listener.accept_faults l.initial.link)
