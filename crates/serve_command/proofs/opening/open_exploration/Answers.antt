use Rattle.std.proofs.Common.{◌∙◌, ℕ, List, ap, subst}
use Rattle.fca_model.specs.Implications.{Rule}
use Rattle.fca_model.specs.Exploration.{RowName}
use Rattle.implication_closure.specs.Closing.{HaveWidth}
use Rattle.explore_state.proofs.OpenLemmas.{unbroken_rows}
use Rattle.command_io.specs.Explorations.{opening_of}
use Rattle.serve_command.proofs.ServedLemmas.{new-opened}
use Rattle.serve_command.proofs.opening.open_exploration.Goals as goal

pub returns-clause-new : goal.returns-clause-new
returns-clause-new g c =
    let S : List Rule = c.args.start.known.members in
    let even : HaveWidth c.args.start.table.context.width S =
    subst (λ n. HaveWidth n S) c.requires.width (subst
    (HaveWidth c.args.start.known.width) c.as_slice-known.ensures.members c.as_slice-known.ensures.even) in
    let is = c.in-Ok.ensures.opening
    ∙ ap (λ (names : List (ℕ × RowName)). opening_of c.args.start.table c.args.experts
    (record { known = S; holders = c.args.holders; expert_names = names })) c.new.ensures in
    new-opened c.args.experts c.args.holders (record { table = c.args.start.table; known = S }) c.in-Ok.explore is c.in-Ok.ensures.journal
    c.requires.experts c.requires.holders (unbroken_rows S 0 c.args.start.table.context.rows c.requires.respected) even
