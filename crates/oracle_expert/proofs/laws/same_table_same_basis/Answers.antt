use Rattle.oracle_expert.proofs.SameLemmas.{nothing_dropped, one_basis, one_accepted}
use Rattle.oracle_expert.proofs.laws.same_table_same_basis.Goals as goal

pub returns : goal.returns
returns c = record {
  no_row_dropped = λ C K names settings H tables respecting most known legal wide part same runs. nothing_dropped C tables same K names settings H
      respecting most known legal wide part runs;
  basis = λ C K names settings H tables respecting most known legal wide part same runs done. one_basis C tables same K names settings H
      respecting most known legal wide part runs done;
  accepted = λ C K names settings H tables respecting most known legal wide part same runs done. one_accepted C tables same K names settings
      H respecting most known legal wide part runs done;
}
