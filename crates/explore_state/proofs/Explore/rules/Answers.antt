use Rattle.std.proofs.Common.{◌≡◌, ◌∙◌, ◌++◌, ap, sym, subst}
use Rattle.fca_model.specs.Exploration.{rules_of}
use Rattle.implication_closure.specs.Closing.{RuleList}
use Rattle.explore_state.specs.History.{Opening, state_of}
use Rattle.exploration_terms.specs.Settings.{settings_of}
use Rattle.explore_state.proofs.KeptLemmas.{kept_rules}
use Rattle.explore_state.proofs.Explore.rules.Goals as goal

pub returns : goal.returns
returns c =
    let i = c.self.inside in
    let o : Opening = record { table = i.table; experts = i.experts; settings = settings_of i.settings } in
    subst (λ h. c.as_slice.result.now ≡ rules_of (state_of h)) c.self.view_is
    (c.as_slice.ensures.members ∙ ap (λ (J : RuleList). J.members) c.rules.ensures.list
    ∙ ap (λ S. S ++ i.queue.accepted) c.self.invariant.known
    ∙ sym (kept_rules o i.journal.items i.queue.context i.queue.accepted i.held.items c.self.invariant.kept))
