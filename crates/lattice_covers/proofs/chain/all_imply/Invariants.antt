use Rattle.std.proofs.Common.{◌≡◌, ◌<◌, ℕ, [], true, false, get_or}
use Rattle.lattice_covers.proofs.chain.all_imply.Given as goal

abbrev pub invariant-loop-row : goal.invariant-loop-row
invariant-loop-row g l = record {
  imply : (k : ℕ) → k < l.row-index → get_or (get_or l.rows.rows k []) l.i false ≡ true → get_or (get_or l.rows.rows k []) l.j false ≡ true;
}
