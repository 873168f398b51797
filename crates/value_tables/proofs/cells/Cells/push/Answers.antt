use Rattle.std.proofs.Common.{◌≡◌, ◌∙◌, ◌++◌, ◌∷◌, [], ℕ, List, length, ap, ap₂}
use Rattle.value_tables.specs.Cells.{cut}
use Rattle.value_tables.specs.declared.cells.Cells.{Cells}
use Rattle.value_tables.proofs.CellLemmas.{cut_push}
use Rattle.value_tables.proofs.cells.Cells.push.Goals as goal
use Rattle.value_tables.proofs.cells.Cells.push.Goals.{then-len+in_ok-push, else-len}

pub returns-clause-texts : goal.returns-clause-texts
returns-clause-texts c =
    let old = c.args.self.now in
    let value = c.args.value.now in
    let text : c.if-len.self.text.items ≡ old.text.items = elim c.if-len.branch [
      | then-len+in_ok-push w ↦ ap (λ (s : Cells). s.text.items) w.self-is
      | else-len w ↦ ap (λ (s : Cells). s.text.items) w.self-is
    ] in
    let lengths : c.if-len.self.lengths.items ≡ old.lengths.items = elim c.if-len.branch [
      | then-len+in_ok-push w ↦ ap (λ (s : Cells). s.lengths.items) w.self-is
      | else-len w ↦ ap (λ (s : Cells). s.lengths.items) w.self-is
    ] in
    ap₂ cut
    (c.in_ok-push-2.ensures.items ∙ ap (λ (ns : List ℕ). ns ++ length value ∷ []) lengths)
    (c.in_ok-append.ensures ∙ ap (λ (bytes : List ℕ). bytes ++ value) text)
    ∙ cut_push old.lengths.items old.text.items value c.requires.cells.whole
