-- What one line adds to the numbered lines.
use Rattle.std.proofs.Common.{◌≡◌, ℕ, ◌+◌, true, false, not, cond, List, ◌∷◌, ap}
use Rattle.fca_model.specs.Tables.{Text}
use Rattle.expert_wire.specs.Lines.{is_skipped, numbered_lines}

abbrev pub later_lines : ℕ → List Text → List (ℕ × Text)
later_lines k ls = numbered_lines (k + 1) ls

pub numbered_lines-skipped : (k : ℕ) (x : Text) (ls : List Text) → is_skipped x ≡ true → numbered_lines k (x ∷ ls) ≡ later_lines k ls
numbered_lines-skipped k x ls skip = ap (λ b. cond (not b) ((k, x) ∷ later_lines k ls) (later_lines k ls)) skip

pub numbered_lines-kept : (k : ℕ) (x : Text) (ls : List Text) → is_skipped x ≡ false → numbered_lines k (x ∷ ls) ≡ (k, x) ∷ later_lines k ls
numbered_lines-kept k x ls told = ap (λ b. cond (not b) ((k, x) ∷ later_lines k ls) (later_lines k ls)) told
