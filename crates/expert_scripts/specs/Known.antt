-- Known files: the implications that are known before an exploration begins.
--
-- Blank lines and lines that begin with `#` are skipped. Each other line has the pattern of the premise, a space, and the pattern of the
-- conclusion; after another space anything may stand. Of width 3 the line `X.. .X. {a} -> {b}` says that a implies b, and `X..` is no
-- such line. An implication between attribute sets is that of Ganter and Wille, Formal Concept Analysis, section 2.3.
use Rattle.std.specs.Prelude.{ℕ, ◌&&◌, ◌==◌, cond, Option, Some, None, Result, Ok, Err, List, [], ◌∷◌, map, length}
use Rattle.fca_model.specs.Sets.{Set}
use Rattle.fca_model.specs.Tables.{Text}
use Rattle.fca_model.specs.Implications.{Rule, rule}
use Rattle.text_pieces.specs.Words.{first_word, later_words}
use Rattle.expert_wire.specs.Patterns.{set_of_pattern}
use Rattle.text_pieces.specs.Lines.{lines}
use Rattle.expert_wire.specs.Lines.{numbered_lines}
use Rattle.expert_scripts.specs.declared.known_fault.KnownFault.{KnownFault}
use Rattle.expert_scripts.specs.declared.known_fault.KnownFault.TheVariants.{BadLine, BadWidth}

-- the implication between two sets of width n. The line is number k
abbrev pub rule_of_width : ℕ → ℕ → Option Set → Option Set → Result Rule KnownFault
rule_of_width n k None conclusion = Err (BadLine k)
rule_of_width n k (Some P) None = Err (BadLine k)
rule_of_width n k (Some P) (Some C) = cond ((length P == n) && (length C == n)) (Ok (rule P C)) (Err (BadWidth k))

-- the implication of line k
abbrev pub known_rule : ℕ → ℕ → Text → Result Rule KnownFault
known_rule n k line = rule_of_width n k (set_of_pattern (first_word line)) (set_of_pattern (first_word (later_words line)))

-- one value before the others, or the fault of the others
abbrev pub with_first : {X E : Type 0} → X → Result (List X) E → Result (List X) E
with_first x (Ok xs) = Ok (x ∷ xs)
with_first x (Err fault) = Err fault

-- all values, or the first fault
abbrev pub all_ok : {X E : Type 0} → List (Result X E) → Result (List X) E
all_ok [] = Ok []
all_ok (Ok x ∷ rest) = with_first x (all_ok rest)
all_ok (Err fault ∷ rest) = Err fault

-- the implications of the lines. The first line is number k
abbrev pub known_from : ℕ → ℕ → List Text → Result (List Rule) KnownFault
known_from n k ls = all_ok (map (λ l. known_rule n l.0 l.1) (numbered_lines k ls))

-- the implications of a known file, between sets of width n, or its first fault
unfoldable pub known_form : Text → ℕ → Result (List Rule) KnownFault
known_form bytes n = known_from n 1 (lines bytes)
