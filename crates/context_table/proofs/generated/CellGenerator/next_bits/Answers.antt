use Rattle.std.proofs.Common.{◌≡◌, ◌+◌, ◌*◌, ◌%◌, ◌^◌, ◌≤◌, ℕ, Bool, cond, refl, sym, ap, ap₂, ◌∙◌, arith, pow_mono, add-zero}
use Rattle.attr_bits.specs.Words.{number_of}
use Rattle.attr_bits.specs.WordLaws.{number_of_small}
use Rattle.context_table.specs.Generated.{next_state, state_after, draws_cross}
use Rattle.context_table.proofs.CellLemmas.{number_of-more, state_after-more}
use Rattle.context_table.proofs.generated.CellGenerator.next_bits.Goals as goal
use Rattle.context_table.proofs.generated.CellGenerator.next_bits.Goals.{then-next_cell, else-next_cell}

pub loop-j-init : goal.loop-j-init
unfolding state_after number_of
loop-j-init c = record { state = refl; density = refl; cells = refl }

pub overflow_add-bits : goal.overflow_add-bits
overflow_add-bits c =
    let j : ℕ = c.loop-j.j in
    let few : j ≤ 63 = omega arith in
    let power : 2 ^ j ≤ 2 ^ 63 = pow_mono few in
    omega (
      arith,
      c.loop-j.invariant.cells,
      number_of_small (λ k. draws_cross c.args.self.now.density
          (state_after (k + 1) c.args.self.now.state)) j,
      power,
    )

pub loop-j-preserved : goal.loop-j-preserved
loop-j-preserved c =
    let before = c.loop-j.invariant in
    let j : ℕ = c.loop-j.j in
    let drawn : ℕ → Bool = λ k. draws_cross c.args.self.now.density (state_after (k + 1) c.args.self.now.state) in
    let state = c.next_cell.ensures.state ∙ ap next_state before.state ∙ sym (state_after-more j _) in
    let density = c.next_cell.ensures.density ∙ before.density in
    let cell = sym (ap₂ draws_cross density state) ∙ sym c.next_cell.ensures.cross in
    let few : j ≤ 63 = omega arith in
    let power : 2 ^ j ≤ 2 ^ 63 = pow_mono few in
    record {
      state = state;
      density = density;
      cells = elim c.if-next_cell.branch [
        | then-next_cell w ↦
            let one : c.loop-j.bits + 1 * 2 ^ j % 18446744073709551616 ≡ c.loop-j.bits + 2 ^ j = omega (arith, power) in
            w.bits-is ∙ one ∙ ap (λ x. x + 2 ^ j) before.cells
            ∙ sym (number_of-more drawn j ∙ ap (λ b. number_of drawn j + cond b (2 ^ j) 0) (cell ∙ w.if-next_cell.true))
        | else-next_cell w ↦ w.bits-is ∙ before.cells
            ∙ sym (number_of-more drawn j ∙ ap (λ b. number_of drawn j + cond b (2 ^ j) 0) (cell ∙ w.if-next_cell.false)
            ∙ add-zero (number_of drawn j))
      ];
    }
