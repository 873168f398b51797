use Rattle.std.proofs.Common.{◌≡◌, ◌∙◌, true, ap, sym, subst, []}
use Rattle.std.specs.List.{list_all}
use Rattle.fca_model.specs.Implications.{holds}
use Rattle.fca_model.specs.Invariant.{IsAccepted}
use Rattle.fca_model.specs.Exploration.{state_after, events_of}
use Rattle.implication_closure.specs.Closing.{RuleList}
use Rattle.explore_state.specs.History.{Opening, ExploreModel, opening_state, state_of, open_of}
use Rattle.explore_state.specs.Basis.{IsBasisBeside}
use Rattle.exploration_terms.specs.Settings.{settings_of}
use Rattle.explore_state.proofs.CourseLemmas.{accepted_is, accepted_hold, basis_is}
use Rattle.explore_state.proofs.Explore.accepted.Goals as goal

pub returns-clause-members : goal.returns-clause-members
returns-clause-members c =
    let i = c.self.inside in
    let o : Opening = record { table = i.table; experts = i.experts; settings = settings_of i.settings } in
    let K = (state_after (opening_state o) (events_of i.journal.items)).context in
    subst (λ (h : ExploreModel). IsAccepted h.opening.settings.known (state_of h).context c.as_slice.result.now) c.self.view_is
    (subst (λ J. IsAccepted o.settings.known K J)
    (c.self.invariant.kept.shown.accepted ∙ sym (c.as_slice.ensures.members ∙ ap (λ (J : RuleList). J.members) c.accepted.ensures.list))
    (accepted_is o i.journal.items i.queue.context i.queue.accepted i.held.items c.self.invariant.kept))

pub returns-clause-hold : goal.returns-clause-hold
returns-clause-hold c =
    let i = c.self.inside in
    let o : Opening = record { table = i.table; experts = i.experts; settings = settings_of i.settings } in
    let K = (state_after (opening_state o) (events_of i.journal.items)).context in
    subst (λ h. list_all (holds (state_of h).context) c.as_slice.result.now ≡ true) c.self.view_is
    (subst (λ J. list_all (holds K) J ≡ true) (c.self.invariant.kept.shown.accepted
    ∙ sym (c.as_slice.ensures.members ∙ ap (λ (J : RuleList). J.members) c.accepted.ensures.list))
    (accepted_hold o i.journal.items i.queue.context i.queue.accepted i.held.items c.self.invariant.kept))

pub returns-clause-basis : goal.returns-clause-basis
returns-clause-basis c =
    let i = c.self.inside in
    let o : Opening = record { table = i.table; experts = i.experts; settings = settings_of i.settings } in
    let S = o.settings.known in
    let K = (state_after (opening_state o) (events_of i.journal.items)).context in
    let known : list_all (holds K) S ≡ true = subst (λ T. list_all (holds K) T ≡ true) c.self.invariant.known
    (subst (λ L. list_all (holds L) i.queue.known ≡ true) (sym c.self.invariant.kept.shown.context) c.rules-rules.ensures.known) in
    subst (λ (h : ExploreModel). open_of h ≡ [] → IsBasisBeside h.opening.settings.known (state_of h).context c.as_slice.result.now)
    c.self.view_is
    (λ none. subst (IsBasisBeside S K) (c.self.invariant.kept.shown.accepted
    ∙ sym (c.as_slice.ensures.members ∙ ap (λ (J : RuleList). J.members) c.accepted.ensures.list))
    (basis_is o i.journal.items i.queue.context i.queue.accepted i.held.items c.self.invariant.kept known none))
