-- The flags of explorations: a known file, names of experts, how many may hold one question, and where to listen.
--
-- `--known S --names --expert G` has the known file S and asks for names. After `--experts 3` the words `--holders 2 --listen A` let two
-- experts hold one
-- question, and `--listen A` alone lets all hold it.
use Rattle.std.specs.Prelude.{ℕ, Bool, false, ◌&&◌, not, cond, Option, Some, None, List, [], ◌∷◌, option_map, option_and_then, bytes_eq}
use Rattle.std.specs.Prelude.{codes}
use Rattle.fca_model.specs.Tables.{Text}
use Rattle.fca_model.specs.declared.TheConstants.{MAX_EXPERTS}
use Rattle.fca_command.specs.Experts.{expert_count}

-- the flag of a known file, and a word that is not empty
abbrev pub has_known_file : Text → Text → Bool
has_known_file flag file = bytes_eq flag (codes "--known") && not (bytes_eq file [])

-- the known file, if the words begin with its flag
abbrev pub known_file : List Text → Option Text
known_file (flag ∷ file ∷ later) = cond (has_known_file flag file) (Some file) None
known_file _ = None

-- the words after the known file
abbrev pub behind_known : List Text → List Text
behind_known (flag ∷ file ∷ later) = cond (has_known_file flag file) later (flag ∷ file ∷ later)
behind_known words = words

-- whether the words begin with the flag of names
abbrev pub wants_names : List Text → Bool
wants_names (flag ∷ later) = bytes_eq flag (codes "--names")
wants_names _ = false

-- the words after the flag of names
abbrev pub behind_names : List Text → List Text
behind_names (flag ∷ later) = cond (bytes_eq flag (codes "--names")) later (flag ∷ later)
behind_names words = words

-- how many experts may hold one question: a number of 1 to 64 after the flag, or all without the flag
abbrev pub holder_count : List Text → Option ℕ
holder_count (flag ∷ count ∷ later) = cond (bytes_eq flag (codes "--holders")) (expert_count count) (Some MAX_EXPERTS)
holder_count _ = Some MAX_EXPERTS

-- the words after this flag and its number
abbrev pub behind_holders : List Text → List Text
behind_holders (flag ∷ count ∷ later) = cond (bytes_eq flag (codes "--holders")) later (flag ∷ count ∷ later)
behind_holders words = words

-- an address at which to listen, if the words are its flag and the address
abbrev pub address_of : List Text → Option Text
address_of (flag ∷ address ∷ []) = cond (bytes_eq flag (codes "--listen") && not (bytes_eq address [])) (Some address) None
address_of _ = None

-- the number of experts, how many of them may hold one question, and where to listen, by the words after the number
abbrev pub serving_for : List Text → ℕ → Option (ℕ × ℕ × Text)
serving_for later experts =
    option_and_then (λ holders. option_map (λ address. (experts, holders, address)) (address_of (behind_holders later)))
    (holder_count later)

-- `--experts N`, `--holders H` or nothing, and `--listen A`
abbrev pub serving_of : List Text → Option (ℕ × ℕ × Text)
serving_of (flag ∷ experts ∷ later) =
    cond (bytes_eq flag (codes "--experts")) (option_and_then (serving_for later) (expert_count experts)) None
serving_of _ = None
