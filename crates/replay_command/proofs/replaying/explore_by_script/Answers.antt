use Rattle.std.proofs.Common.{◌≡◌, ◌∙◌, ℕ, List, true, sym, ap, subst}
use Rattle.std.specs.List.{list_all}
use Rattle.fca_model.specs.Context.{Context}
use Rattle.fca_model.specs.Exploration.{SetEvent}
use Rattle.exploration_terms.specs.Settings.{settings_of}
use Rattle.expert_scripts.specs.Scripts.{may_apply}
use Rattle.command_io.specs.Explorations.{IsExplored}
use Rattle.replay_command.proofs.CourseLemmas.{explored-course}
use Rattle.command_io.proofs.QuietLemmas.{unless_fault, fault-passed}
use Rattle.replay_command.proofs.replaying.explore_by_script.Goals as goal

pub returns-clause-explored : goal.returns-clause-explored
returns-clause-explored g c =
    let table = c.args.start.table in
    let wide : c.width.result ≡ table.context.width = c.width.ensures.width ∙ ap (λ (K : Context). K.width) c.rows.ensures.rows in
    let events : c.into_vec.result.items ≡ c.in_ok-script.script.events = c.into_vec.ensures ∙ c.in_ok-settings.ensures.events in
    let MayAll : ℕ → Type 0 = λ n. list_all (may_apply n) c.in_ok-script.script.events ≡ true in
    let MayBe : List SetEvent → Type 0 = λ l. list_all (may_apply table.context.width) l ≡ true in
    let settled = c.in_ok-settings.ensures.may_open in
    subst IsExplored (sym c.in_ok-apply_events.ensures)
    (explored-course table (settings_of c.in_ok-settings.settings) c.into_vec.result.items settled.respected settled.writable.known
    (subst MayBe (sym events) (subst MayAll wide c.in_ok-script.ensures.fits)))

pub returns-in_err-script-clause-quiet : goal.returns-in_err-script-clause-quiet
returns-in_err-script-clause-quiet g c =
    fault-passed c.from_residual.result c.in_err-script.field-0.0
    (g.S.Source.faults c.load_script.new.input ≡ g.S.Source.faults c.args.input.now) c.from_residual.ensures.1
    c.in_err-script.ensures.quiet

pub returns-in_err-settings-clause-quiet : goal.returns-in_err-settings-clause-quiet
returns-in_err-settings-clause-quiet g c =
    unless_fault c.from_residual-in_err-settings.result
    (g.S.Source.faults c.load_script.new.input ≡ g.S.Source.faults c.args.input.now) c.in_ok-script.ensures.quiet

pub returns-in_err-apply_events-clause-quiet : goal.returns-in_err-apply_events-clause-quiet
returns-in_err-apply_events-clause-quiet g c =
    unless_fault c.from_residual-in_err-apply_events.result
    (g.S.Source.faults c.load_script.new.input ≡ g.S.Source.faults c.args.input.now) c.in_ok-script.ensures.quiet
