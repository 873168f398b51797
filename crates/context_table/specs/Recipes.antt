-- Recipes of generated tables: a seed, the numbers of objects and attributes, and the number of crosses in eight cells.
use Rattle.std.specs.Prelude.{ℕ, ◌≤◌}
use Rattle.fca_model.specs.Tables.{NamedContext}
use Rattle.fca_model.specs.declared.TheConstants.{MAX_OBJECTS}
use Rattle.context_table.specs.Generated.{made_table}
use Rattle.context_table.specs.declared.recipe.TheConstants.{MAX_DENSITY}
use Rattle.context_table.specs.declared.recipe.Recipe.{Recipe}

-- the limits of a recipe whose table has at most `most` attributes
pub record KeepsLimits (most : ℕ) (r : Recipe) : Type 0 where
  pub objects : r.objects ≤ MAX_OBJECTS
  pub attributes : r.attributes ≤ most
  pub density : r.density ≤ MAX_DENSITY

-- the table of a recipe
abbrev pub recipe_table : Recipe → NamedContext
recipe_table r = made_table r.seed r.objects r.attributes r.density
