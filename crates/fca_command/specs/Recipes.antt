-- The recipe of a generated table, as the words of a command give it.
use Rattle.std.specs.Prelude.{ℕ, ◌-◌, ◌^◌, Option, option_map, option_and_then}
use Rattle.fca_model.specs.Tables.{Text}
use Rattle.fca_model.specs.declared.TheConstants.{MAX_OBJECTS}
use Rattle.fca_command.specs.Numbers.{number_of}
use Rattle.context_table.specs.declared.recipe.TheConstants.{MAX_DENSITY}
use Rattle.context_table.specs.declared.recipe.Recipe.{Recipe}

-- the recipe that four words give, of a table with at most `most` attributes; the seed has at most 64 bits
abbrev pub recipe_of : ℕ → Text → Text → Text → Text → Option Recipe
recipe_of most seed objects attributes density =
    option_and_then (λ s. option_and_then (λ o. option_and_then (λ m. option_map (λ d.
    record { seed = s; objects = o; attributes = m; density = d })
    (number_of MAX_DENSITY density)) (number_of most attributes)) (number_of MAX_OBJECTS objects)) (number_of (2 ^ 64 - 1) seed)
