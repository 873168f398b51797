use Rattle.std.proofs.Common.{[], refl, subst, append-nil}
use Rattle.fca_model.specs.Tables.{Text}
use Rattle.basis_report.specs.Explorations.{explore_text, Spells}
use Rattle.replay_command.proofs.replaying.exploration_output.Goals as goal

pub returns-clause-spells : goal.returns-clause-spells
returns-clause-spells c =
    let o = c.args.explore.now.opening in
    let H = c.args.explore.now.journal in
    let P : Text → Type 0 = λ text. Spells o.table o.settings H text in
    subst P (append-nil (explore_text o.table o.settings H)) (c.in_ok-explore_text.ensures.reads_back [] refl c.requires)
