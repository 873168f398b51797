use Rattle.std.proofs.Common.{◌∙◌, sym, subst}
use Rattle.fca_model.specs.Context.{Context}
use Rattle.fca_model.specs.Exploration.{state_after, events_of}
use Rattle.explore_state.specs.History.{Opening, ExploreModel, opening_state, state_of}
use Rattle.explore_state.specs.Basis.{HasRecordedRows}
use Rattle.exploration_terms.specs.Settings.{settings_of}
use Rattle.explore_state.proofs.CourseLemmas.{recorded_is}
use Rattle.explore_state.proofs.Explore.rows.Goals as goal

pub returns-clause-recorded : goal.returns-clause-recorded
returns-clause-recorded c =
    let i = c.self.inside in
    let o : Opening = record { table = i.table; experts = i.experts; settings = settings_of i.settings } in
    subst (λ (h : ExploreModel). HasRecordedRows h.opening.table.context c.rows.result.now (state_of h).accepted) c.self.view_is
    (subst (λ (L : Context). HasRecordedRows o.table.context L (state_after (opening_state o) (events_of i.journal.items)).accepted)
    (c.self.invariant.kept.shown.context ∙ sym c.rows.ensures)
    (recorded_is o i.journal.items i.queue.context i.queue.accepted i.held.items c.self.invariant.kept))
