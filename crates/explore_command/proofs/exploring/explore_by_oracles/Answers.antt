use Rattle.std.proofs.Common.{◌≡◌, ◌∙◌, ℕ, sym, ap, subst}
use Rattle.std.specs.Prelude.{All, length, IfOk}
use Rattle.fca_model.specs.Tables.{NamedContext}
use Rattle.explore_state.specs.History.{Opening}
use Rattle.exploration_terms.specs.Settings.{settings_of}
use Rattle.expert_panel.specs.declared.explored.ExplorationByOracles.{ExplorationByOracles}
use Rattle.command_io.specs.Explorations.{opening_of}
use Rattle.explore_command.specs.Starts.{ExploreStart}
use Rattle.explore_command.specs.Explored.{HasExplored}
use Rattle.explore_command.proofs.ExploredLemmas.{explored-oracles}
use Rattle.explore_command.proofs.exploring.explore_by_oracles.Goals as goal

pub explore_with_oracles-requires-clause-width : goal.explore_with_oracles-requires-clause-width
explore_with_oracles-requires-clause-width g c κs within =
    let tables = c.start.inside.expert_tables in
    let AreWide : ExploreStart → Type 0 = λ q. All (λ (t : NamedContext). t.context.width ≡ q.table.context.width) q.expert_tables in
    let HaveWide : ℕ → Type 0 = λ n. All (λ (t : NamedContext). t.context.width ≡ n) tables.items in
    subst HaveWide (sym (ap (λ (o : Opening). o.table.context.width) c.in_ok-explore.ensures.opening))
    (subst AreWide (sym c.start.view_is) c.requires.wide)

pub returns : goal.returns
returns g c =
    let settings = settings_of c.start.inside.settings in
    let tables = c.start.inside.expert_tables in
    let p : ExploreStart = record { table = c.start.inside.table; settings = settings; expert_tables = tables.items } in
    let output = c.explore_with_oracles in
    let end = output.ensures in
    let opened = c.in_ok-explore.ensures.opening ∙ ap (λ n. opening_of p.table n settings) c.len-count.ensures in
    let Plays : ExploreStart → Type 0 = λ q. IfOk output.result (λ (r : ExplorationByOracles). HasExplored q r.explore r.oracles.items r.spent) in
    subst Plays c.start.view_is
    (explored-oracles p c.in_ok-explore.explore.opening _ output.result c.start.invariant.may opened tables.ok.0
    end.opening end.legal end.tables end.oracles end.others end.spent end.finished end.unspent end.agreed)
