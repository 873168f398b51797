-- What may be read of the files that are left may be read of all, behind the tables that were read, and their stops are stops of all;
-- nothing else was touched. Each file was fetched once.
use Rattle.std.proofs.Common.{◌≡◌, ◌≤◌, drop}
use Rattle.std.specs.Prelude.{All, vec_len}
use Rattle.fca_model.specs.Tables.{Text}
use Rattle.fca_io.specs.Faults.{RoseAtMost}
use Rattle.explore_command.proofs.StartLemmas.{ReadsOn}
use Rattle.explore_command.proofs.start.load_expert_tables.Given as goal

abbrev pub invariant-loop-place : goal.invariant-loop-place
invariant-loop-place g l =
    ReadsOn l.table l.place (drop l.place l.files) l.files (g.H.Shelf.tells l.initial.shelf)
    (g.H.Shelf.faults l.initial.shelf) l.tables.items
    × (vec_len l.tables ≡ l.place)
    × All (λ expert. expert.context.width ≡ l.table.context.width) l.tables.items
    × ((other : Text) → g.H.Shelf.tells l.shelf other ≡ g.H.Shelf.tells l.initial.shelf other)
    × ((other : Text) → g.H.Shelf.faults l.initial.shelf other ≤ g.H.Shelf.faults l.shelf other)
    × ((other : Text) → g.H.Shelf.faults l.shelf other ≡ g.H.Shelf.faults l.initial.shelf other)
    × RoseAtMost (g.H.Shelf.fetches l.initial.shelf) (g.H.Shelf.fetches l.shelf) l.place
