-- The experts that words name: by their files, or by their number.
use Rattle.std.specs.Prelude.{ℕ, Bool, ◌&&◌, not, cond, Option, Some, None, List, [], ◌∷◌, length, option_map, option_and_then, bytes_eq}
use Rattle.std.specs.Prelude.{codes}
use Rattle.fca_model.specs.Tables.{Text}
use Rattle.fca_model.specs.Exploration.{is_expert}
use Rattle.fca_model.specs.declared.TheConstants.{MAX_EXPERTS}
use Rattle.fca_command.specs.Numbers.{number_of}

-- the flag of an expert, and a word that is not empty
abbrev pub has_expert_file : Text → Text → Bool
has_expert_file flag file = bytes_eq flag (codes "--expert") && not (bytes_eq file [])

-- a list of files, each after the flag
abbrev pub expert_files : List Text → Option (List Text)
expert_files [] = Some []
expert_files (flag ∷ []) = None
expert_files (flag ∷ file ∷ rest) =
    cond (has_expert_file flag file) (option_map (λ files. file ∷ files) (expert_files rest)) None

-- files of 1 to 64 experts
abbrev pub experts_of : List Text → Option (List Text)
experts_of words = option_and_then (λ files. cond (is_expert (length files)) (Some files) None) (expert_files words)

-- a number of 1 to 64 experts
abbrev pub expert_count : Text → Option ℕ
expert_count word = option_and_then (λ count. cond (is_expert count) (Some count) None) (number_of MAX_EXPERTS word)
