use Rattle.std.proofs.Common.{◌∙◌, ◌++◌, List, map, ap}
use Rattle.fca_model.specs.Tables.{Text}
use Rattle.fca_model.specs.Exploration.{rules_of}
use Rattle.oracle_expert.specs.Oracles.{Recall}
use Rattle.explore_state.specs.History.{state_of}
use Rattle.basis_report.specs.Explorations.{explore_text}
use Rattle.basis_report.specs.Conflicts.{conflicts_text}
use Rattle.explore_command.specs.Explored.{with_conflicts}
use Rattle.explore_command.proofs.ExploredLemmas.{spelled-conflicts, pieces-more}
use Rattle.explore_command.proofs.exploring.text_in_pieces.Goals as goal

pub returns-clause-text : goal.returns-clause-text
returns-clause-text g c =
    let explore = c.args.explored.now.explore in
    let J = rules_of (state_of explore) in
    let conflicts : List Recall → Text = λ l. conflicts_text explore.opening.table.attributes J (map with_conflicts l) in
    let first = explore_text explore.opening.table explore.opening.settings explore.journal in
    c.in_pieces.ensures ∙ pieces-more _ _ _ _ c.in_ok-push.ensures.items c.in_ok-pieces.ensures.text
    ∙ ap (λ l. first ++ l) (c.in_ok-conflicts.ensures.text ∙ ap conflicts c.deref.ensures.value)

pub returns-clause-spells : goal.returns-clause-spells
returns-clause-spells g c =
    spelled-conflicts c.args.explored.now.explore c.in_ok-conflicts.conflicts.items _ c.requires.writable c.in_ok-pieces.ensures.reads_back
    c.in_ok-conflicts.ensures.skipped
    (c.in_pieces.ensures ∙ pieces-more _ _ _ _ c.in_ok-push.ensures.items c.in_ok-pieces.ensures.text)
