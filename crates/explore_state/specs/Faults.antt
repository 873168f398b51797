-- Why an exploration is not opened.
use Rattle.std.specs.Prelude.{ℕ, ◌+◌, not, cond, Option, Some, None, List, [], ◌∷◌, position}
use Rattle.fca_model.specs.Sets.{Set}
use Rattle.fca_model.specs.Context.{Context}
use Rattle.fca_model.specs.Implications.{Rule, respects}
use Rattle.fca_model.specs.Exploration.{Settings, is_expert}
use Rattle.explore_state.specs.declared.fault.OpenFault.{OpenFault}
use Rattle.explore_state.specs.declared.fault.OpenFault.TheVariants.{BadExperts, RowBreaks, BadHolders}

-- the place of the first rule that the row breaks
abbrev pub broken_by : List Rule → Set → Option ℕ
broken_by S row = position (λ i. not (respects row i)) S

-- the row at place k with the rule that it breaks, or what comes later if it breaks none
abbrev pub break_at : ℕ → Option ℕ → Option (ℕ × ℕ) → Option (ℕ × ℕ)
break_at k None later = later
break_at k (Some i) later = Some (k, i)

-- the place of the first row that breaks a rule, with the place of the first rule that it breaks, if the first row has place k
abbrev pub first_break : List Rule → ℕ → List Set → Option (ℕ × ℕ)
first_break S k [] = None
first_break S k (row ∷ rows) = break_at k (broken_by S row) (first_break S (k + 1) rows)

-- the fault of settings, if this row breaks this rule
abbrev pub settings_fault : Settings → Option (ℕ × ℕ) → Option OpenFault
settings_fault s (Some found) = Some (RowBreaks found.0 found.1)
settings_fault s None = cond (is_expert s.holders) None (Some (BadHolders s.holders))

-- why so many experts do not explore the context under the settings: the first of the causes
abbrev pub open_fault : Context → ℕ → Settings → Option OpenFault
open_fault K experts s = cond (is_expert experts) (settings_fault s (first_break s.known 0 K.rows)) (Some (BadExperts experts))
