use Rattle.std.proofs.Common.{subst, All}
use Rattle.fca_model.specs.Invariant.{IsValid}
use Rattle.fca_model.specs.Exploration.{SetEntry}
use Rattle.fca_model.specs.Widths.{IsWide, HasWideReply}
use Rattle.fca_model.proofs.WidthLemmas.{legal_wide}
use Rattle.explore_state.specs.History.{Opening, ExploreModel, opening_state, state_of}
use Rattle.exploration_terms.specs.Settings.{settings_of}
use Rattle.implication_closure.specs.Closing.{HaveWidth}
use Rattle.explore_state.proofs.OpenLemmas.{wide_rules}
use Rattle.explore_state.proofs.KeptLemmas.{kept_opened, kept_valid}
use Rattle.explore_state.proofs.Explore.journal.Goals as goal

pub returns-clause-valid : goal.returns-clause-valid
returns-clause-valid c =
    let i = c.self.inside in
    let o : Opening = record { table = i.table; experts = i.experts; settings = settings_of i.settings } in
    subst (λ h. IsValid (state_of h)) c.self.view_is
    (kept_valid o i.journal.items i.queue.context i.queue.accepted i.held.items c.self.invariant.kept)

pub returns-clause-wide : goal.returns-clause-wide
returns-clause-wide c =
    let i = c.self.inside in
    let o : Opening = record { table = i.table; experts = i.experts; settings = settings_of i.settings } in
    let S = i.settings.known.members in
    let even : HaveWidth i.settings.known.width S =
    subst (HaveWidth i.settings.known.width) c.as_slice-known.ensures.members c.as_slice-known.ensures.even in
    let known : All (IsWide i.table.context.width) S =
    wide_rules i.table.context.width S (subst (λ n. HaveWidth n S) c.self.invariant.wide even) in
    subst (λ (h : ExploreModel). All (λ (entry : SetEntry). HasWideReply h.opening.table.context.width entry.reply) h.journal) c.self.view_is
    (legal_wide (opening_state o) (kept_opened o i.journal.items i.queue.context i.queue.accepted i.held.items c.self.invariant.kept)
    c.rows-rows.ensures.table.even known i.journal.items c.self.invariant.kept.legal)
