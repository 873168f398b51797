use Rattle.std.proofs.Common.{◌≡◌, ◌<◌, ◌+◌, ◌-◌, ◌*◌, ℕ, Bool, refl, sym, ap, ap₂, ◌∙◌, arith, min, subst}
use Rattle.context_table.specs.Generated.{state_after, draws_cross}
use Rattle.context_table.proofs.CellLemmas.{HasCells, HasCells-none, HasCells-block, map-cells, state_after-add}
use Rattle.context_table.proofs.generated.CellGenerator.next_row.Goals as goal

pub loop-block-init : goal.loop-block-init
unfolding state_after
loop-block-init c =
    let none : min 0 c.args.n ≡ 0 = omega arith in
    let cell : ℕ → Bool = λ k. draws_cross c.args.self.now.density (state_after (k + 1) c.args.self.now.state) in
    record {
      state = sym (ap (λ k. state_after k c.args.self.now.state) none);
      density = refl;
      cells = subst (λ k. HasCells cell c.args.n k c.empty-row.result) (sym none) (rw c.empty-row.ensures (HasCells-none cell c.args.n));
    }

pub loop-block-preserved : goal.loop-block-preserved
loop-block-preserved c =
    let before = c.loop-block.invariant in
    let n : ℕ = c.args.n in
    let seed : ℕ = c.args.self.now.state in
    let b : ℕ = c.loop-block.block in
    let cell : ℕ → Bool = λ k. draws_cross c.args.self.now.density (state_after (k + 1) seed) in
    let count : ℕ = c.min.result in
    let inside : 64 * b < n = omega arith in
    let start : min (64 * b) n ≡ 64 * b = omega arith in
    let few : count ≡ min (n - 64 * b) 64 = omega (arith, c.min.ensures) in
    let end : 64 * b + count ≡ min (64 * (b + 1)) n = omega arith in
    let state : c.loop-block.self.state ≡ state_after (64 * b) seed = before.state ∙ ap (λ k. state_after k seed) start in
    let cells : HasCells cell n (64 * b) c.loop-block.row = subst (λ k. HasCells cell n k c.loop-block.row) start before.cells in
    record {
      state = c.next_bits.ensures.state ∙ ap (state_after count) state ∙ state_after-add count (64 * b) seed
          ∙ (let sum : count + 64 * b ≡ min (64 * (b + 1)) n = omega arith in ap (λ k. state_after k seed) sum);
      density = c.next_bits.ensures.density ∙ before.density;
      cells = subst (λ k. HasCells cell n k c.insert_bits.new.self) end
          (HasCells-block cell (λ j. draws_cross c.loop-block.self.density (state_after (j + 1) c.loop-block.self.state)) n
          (64 * b) count c.next_bits.result c.loop-block.row c.insert_bits.new.self cells inside few c.next_bits.ensures.cells
          (λ i lt. ap₂ draws_cross before.density (ap (state_after (i + 1)) state ∙ state_after-add (i + 1) (64 * b) seed
          ∙ (let e : i + 1 + 64 * b ≡ 64 * b + i + 1 = omega arith in ap (λ k. state_after k seed) e)))
          c.insert_bits.ensures.width c.insert_bits.ensures.members);
    }

pub returns-clause-row : goal.returns-clause-row
returns-clause-row c =
    let all : min (64 * c.loop-block.block) c.args.n ≡ c.args.n = omega arith in
    map-cells _ _ _ (rw all at c.loop-block.invariant.cells)
