use Rattle.std.proofs.Common.{◌≡◌, ◌∙◌, ◌≤◌, ℕ, true, refl, sym, ap, arith}
use Rattle.std.specs.Prelude.{All}
use Rattle.std.proofs.lemmas.List.Elements.{All-weaker}
use Rattle.fca_model.specs.Context.{Context}
use Rattle.fca_model.specs.Tables.{NamedContext}
use Rattle.fca_model.specs.declared.TheConstants.{MAX_SURVEYED}
use Rattle.explore_state.specs.History.{Opening}
use Rattle.oracle_expert.specs.Intents.{HasIntentsOf, are_intents}
use Rattle.oracle_expert.proofs.IntentLemmas.{intents-itself}
use Rattle.context_table.specs.declared.recipe.Recipe.{Recipe}
use Rattle.explore_command.proofs.SurveyLemmas.{recipe_width, are_intents-none, length-agreed, respecting_plain}
use Rattle.explore_command.proofs.surveys.accepted_count.Goals as goal

pub explore_with_oracles-requires-clause-width : goal.explore_with_oracles-requires-clause-width
explore_with_oracles-requires-clause-width g c κs within =
    let r : Recipe = c.args.recipe.now in
    let none : Recipe = record { seed = r.seed; objects = 0; attributes = r.attributes; density = r.density } in
    let width : NamedContext → ℕ = λ t. t.context.width in
    let n : ℕ = c.in_ok-explore.explore.opening.table.context.width in
    let wide : width c.args.table.now ≡ n =
    ap width c.requires.table ∙ recipe_width r ∙ sym (recipe_width none)
    ∙ sym (ap (λ (o : Opening). width o.table) c.in_ok-explore.ensures.opening) in
    All-weaker (λ (D : NamedContext). D ≡ c.args.table.now) (λ (D : NamedContext). width D ≡ n)
    (λ D same. ap width same ∙ wide) _ c.in_ok-tables.ensures.same

pub returns : goal.returns
returns g c =
    let table : NamedContext = c.args.table.now in
    let C : Context = table.context in
    let end = c.in_ok-explored.ensures in
    let bare = ap (λ (o : Opening). o.table) c.in_ok-explore.ensures.opening in
    let plainly = ap (λ (o : Opening). o.settings) c.in_ok-explore.ensures.opening in
    let small : c.in_ok-explore.explore.opening.table.context.width ≤ MAX_SURVEYED =
    (let wide = ap (λ (t : NamedContext). t.context.width) bare ∙ recipe_width _ in let few = c.requires.recipe.attributes in
    omega arith) in
    let same : All (λ (D : NamedContext). HasIntentsOf C D.context) c.in_ok-tables.tables.items =
    All-weaker (λ (D : NamedContext). D ≡ table) (λ (D : NamedContext). HasIntentsOf C D.context)
    (λ D e. intents-itself C D.context (ap (λ (t : NamedContext). t.context) e)) _ c.in_ok-tables.ensures.same in
    let part : are_intents C c.in_ok-explore.explore.opening.table.context.rows ≡ true =
    ap (λ (t : NamedContext). are_intents C t.context.rows) bare ∙ are_intents-none _ _ _ C in
    length-agreed C c.in_ok-explored.explored.explore c.accepted-accepted.result.now c.in_ok-explored.explored.oracles.items
    c.in_ok-explored.explored.spent
    (ap (λ (o : Opening). o.settings) end.opening ∙ plainly) c.accepted-accepted.ensures.basis end.finished
    (end.agreed C same part (respecting_plain c.in_ok-explore.explore.opening.settings C plainly)) (end.unspent refl small)
