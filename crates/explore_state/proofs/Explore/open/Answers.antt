use Rattle.std.proofs.Common.{◌≡◌, ◌⊎◌, ◌∙◌, sym, inr}
use Rattle.std.proofs.lemmas.Result.{IfErr-weaker}
use Rattle.exploration_terms.specs.Settings.{settings_of}
use Rattle.explore_state.specs.declared.fault.OpenFault.TheVariants.{BadExperts, Memory}
use Rattle.explore_state.proofs.OpenLemmas.{only_memory}
use Rattle.explore_state.proofs.Explore.open.Goals as goal

pub returns-clause-no_other : goal.returns-clause-no_other
returns-clause-no_other c =
    IfErr-weaker c.open_with.result (λ f. f ≡ Memory) (λ f. (f ≡ BadExperts c.args.experts) ⊎ (f ≡ Memory)) (λ f is. inr is)
    (only_memory c.open_with.result c.args.table.context c.args.experts
    (settings_of c.in_ok-settings.settings) c.in_ok-settings.ensures.plain
    (sym c.is_expert.ensures ∙ c.if-not-is_expert.false) c.open_with.ensures.no_other)
