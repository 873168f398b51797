-- Oracles of one table that explore its attributes accept as many implications as its basis has.
use Rattle.std.proofs.Common.{◌≡◌, ◌∙◌, ℕ, List, [], Bool, true, false, length, refl, sym, ap, subst}
use Rattle.fca_model.specs.Context.{Context}
use Rattle.fca_model.specs.Implications.{Rule, respects_all}
use Rattle.fca_model.specs.Invariant.{rows_respect}
use Rattle.fca_model.proofs.ListLemmas.{list_all_from}
use Rattle.fca_model.specs.Tables.{NamedContext}
use Rattle.fca_model.specs.Pseudo.{intents, basis, basis_known}
use Rattle.fca_model.specs.Exploration.{Settings, plain}
use Rattle.context_table.specs.Generated.{made_table}
use Rattle.explore_state.specs.History.{ExploreModel, state_of, open_of}
use Rattle.explore_state.specs.Basis.{IsBasisBeside}
use Rattle.oracle_expert.specs.Intents.{are_intents}
use Rattle.oracle_expert.specs.Oracles.{Recall}
use Rattle.expert_panel.specs.Explorations.{HasAgreed}
use Rattle.basis_report.specs.Surveys.{survey_text}
use Rattle.context_table.specs.Recipes.{recipe_table}
use Rattle.context_table.specs.declared.recipe.Recipe.{Recipe}
use Rattle.explore_command.specs.Surveyed.{surveyed_text}

pub recipe_width : (r : Recipe) → (recipe_table r).context.width ≡ r.attributes
unfolding made_table
recipe_width r = refl

-- a table without objects has no row that is no intent
pub are_intents-none : (s m d : ℕ) (C : Context)
    → are_intents C (recipe_table (record { seed = s; objects = 0; attributes = m; density = d })).context.rows ≡ true
unfolding made_table
are_intents-none s m d C = refl

pub length-agreed : (C : Context) (explore : ExploreModel) (accepted : List Rule) (oracles : List Recall) (spent : Bool)
    → explore.opening.settings ≡ plain
    → (open_of explore ≡ [] → IsBasisBeside explore.opening.settings.known (state_of explore).context accepted)
    → (spent ≡ false → open_of explore ≡ [])
    → HasAgreed C explore oracles spent → spent ≡ false → length accepted ≡ length (basis C)
length-agreed C explore accepted oracles spent plainly is finished agreed unspent =
    (is (finished unspent)).once ∙ ap length (agreed.basis unspent) ∙ ap (λ (t : Settings). length (basis_known t.known C)) plainly

-- with nothing known, each row respects it
pub respecting_plain : (s : Settings) (C : Context) → s ≡ plain → rows_respect s.known C ≡ true
respecting_plain s C plainly = subst (λ (t : Settings). rows_respect t.known C ≡ true) (sym plainly)
    (list_all_from (respects_all []) (λ row. refl) C.rows)

pub survey_text-counts : (t : NamedContext) (n m k : ℕ) → n ≡ length (intents t.context) → m ≡ length (basis t.context)
    → k ≡ length (basis t.context)
    → survey_text t n m k ≡ surveyed_text t
survey_text-counts t n m k concepts members explored =
    ap (λ a. survey_text t a m k) concepts ∙ ap (λ a. survey_text t (length (intents t.context)) a k) members
    ∙ ap (λ a. survey_text t (length (intents t.context)) (length (basis t.context)) a) explored
