use Rattle.std.proofs.Common.{◌∙◌, refl, sym, ap, subst}
use Rattle.std.specs.Prelude.{length, option_copied, option_to_list}
use Rattle.fca_io.specs.Faults.{RoseAtMost}
use Rattle.implication_closure.specs.Closing.{RuleList}
use Rattle.explore_state.specs.Faults.{first_break}
use Rattle.explore_state.proofs.OpenLemmas.{first_break-nothing}
use Rattle.command_io.specs.Readings.{SameCounts}
use Rattle.command_io.proofs.QuietLemmas.{unless_fault}
use Rattle.command_io.proofs.FetchLemmas.{fetched_none, fetched_one}
use Rattle.command_io.proofs.known.load_known.Goals as goal

pub returns-in_ok-new-in-None-clause-respected : goal.returns-in_ok-new-in-None-clause-respected
returns-in_ok-new-in-None-clause-respected g c =
    let rows = c.args.table.now.context.rows in
    ap (λ (J : RuleList). first_break J.members 0 rows) c.in_ok-new-in-None.ensures ∙ first_break-nothing 0 rows

pub returns-in_err-new-in-None-clause-quiet : goal.returns-in_err-new-in-None-clause-quiet
returns-in_err-new-in-None-clause-quiet g c =
    unless_fault c.from_residual.result (SameCounts (g.H.Shelf.faults c.args.shelf.now) (g.H.Shelf.faults c.args.shelf.now)) (λ _. refl)

-- ---- counts of fetches

pub returns-in-Some-clause-few : goal.returns-in-Some-clause-few
returns-in-Some-clause-few g c =
    let one = ap (λ known. length (option_to_list (option_copied known))) c.in-Some.is in
    subst (RoseAtMost (g.H.Shelf.fetches c.args.shelf.now) (g.H.Shelf.fetches c.load_known_file.new.shelf)) (sym one)
    (fetched_one (g.H.Shelf.fetches c.args.shelf.now) (g.H.Shelf.fetches c.load_known_file.new.shelf) c.load_known_file.ensures.counted)

pub returns-in_err-new-in-None-clause-few : goal.returns-in_err-new-in-None-clause-few
returns-in_err-new-in-None-clause-few g c =
    fetched_none (g.H.Shelf.fetches c.args.shelf.now) (length (option_to_list (option_copied c.args.known_file)))

pub returns-in_ok-new-in-None-clause-few : goal.returns-in_ok-new-in-None-clause-few
returns-in_ok-new-in-None-clause-few g c =
    fetched_none (g.H.Shelf.fetches c.args.shelf.now) (length (option_to_list (option_copied c.args.known_file)))
