use Rattle.std.proofs.Common.{not, eqb, rules}
use Rattle.explore_state.proofs.RetainLemmas.{filter_from_retain_at}
use Rattle.explore_state.proofs.held.give_back.Goals as goal

pub returns-clause-held : goal.returns-clause-held
returns-clause-held c = filter_from_retain_at _ (λ h. not (eqb h.expert c.args.expert)) _
    (λ x b q h. search (rules, h)) c.args.held.now.items c.retain.new.self.items c.retain.ensures.filtered
