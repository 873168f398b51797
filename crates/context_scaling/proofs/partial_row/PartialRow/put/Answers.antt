use Rattle.std.proofs.Common.{◌≡◌, ◌∙◌, ◌<◌, ◌++◌, ◌∷◌, [], ℕ, Bool, true, length, take, sym, ap, ap₂, arith, length-set, length-take}
use Rattle.fca_model.specs.Sets.{Set}
use Rattle.context_scaling.specs.Marks.{PartialRow}
use Rattle.context_scaling.proofs.FillLemmas.{IsFilled_cross, IsFilled_none, take_cross, take_none}
use Rattle.context_scaling.proofs.partial_row.PartialRow.put.Goals as goal
use Rattle.context_scaling.proofs.partial_row.PartialRow.put.Goals.{After-self-1, then-cross, else-cross}

marks_are : (c : goal.After-self-1) → take c.self.inside.at c.self.inside.row ≡ c.args.self.now.marks
marks_are c = ap (λ (f : PartialRow). f.marks) c.self.view_is

width_is : (c : goal.After-self-1) → length c.self.inside.row ≡ c.args.self.now.width
width_is c = ap (λ (f : PartialRow). f.width) c.self.view_is

below : (c : goal.After-self-1) → c.self.inside.at < length c.self.inside.row
below c =
    let short = ap length (marks_are c) in
    let long = length-take c.self.inside.at c.self.inside.row in
    omega (arith, c.requires, short, long, width_is c)

pub invariant_of-self : goal.invariant_of-self
invariant_of-self c =
    let row = c.self.inside.row in
    let at = c.self.inside.at in
    elim c.if-cross.branch [
      | then-cross w ↦ rw (w.self-inside-is, w.insert.ensures) (IsFilled_cross row at c.self.invariant (below c))
      | else-cross w ↦ rw w.self-inside-is (IsFilled_none row at c.self.invariant (below c))
    ]

pub returns : goal.returns
returns c =
    let row = c.self.inside.row in
    let at = c.self.inside.at in
    let make : ℕ → Set → PartialRow = λ w m. record { width = w; marks = m } in
    let push : Set → Bool → Set = λ marks mark. marks ++ mark ∷ [] in
    elim c.if-cross.branch [
      | then-cross w ↦ rw (w.self-inside-is, w.insert.ensures)
          (ap₂ make (length-set row at true ∙ width_is c)
          (take_cross row at c.self.invariant (below c) ∙ ap₂ push (marks_are c) (sym w.if-cross.true)))
      | else-cross w ↦ rw w.self-inside-is
          (ap₂ make (width_is c) (take_none row at c.self.invariant (below c) ∙ ap₂ push (marks_are c) (sym w.if-cross.false)))
    ]
