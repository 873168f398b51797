use Rattle.std.proofs.Common.{◌≡◌, ◌∙◌, ◌++◌, ◌∷◌, [], List, ℕ, sym, ap, ap₂, arith}
use Rattle.std.proofs.lemmas.List.FromFn.{map-range_with_len_more}
use Rattle.std.specs.Int.{div_ceil}
use Rattle.fca_model.specs.Context.{Context}
use Rattle.context_reduce.specs.Blocks.{row_block}
use Rattle.context_reduce.specs.Reduce.{transpose}
use Rattle.context_reduce.proofs.BlockLemmas.{blocks_are}
use Rattle.context_reduce.proofs.larger.blocks_of.Goals as goal

pub loop-k-preserved : goal.loop-k-preserved
loop-k-preserved g c =
    let K : Context = c.args.rows.now in
    let k = c.loop-k.k in
    c.in_ok-push.ensures.items ∙ ap₂ (λ (Cs : List Context) (C : Context). Cs ++ C ∷ []) c.loop-k.invariant c.in_ok-columns_of.ensures
    ∙ sym (map-range_with_len_more (λ (j : ℕ). transpose (row_block K j)) 0 k k (omega arith))

pub returns : goal.returns
returns g c =
    let e : c.loop-k.k ≡ c.div_ceil-k-end.result = omega (arith, c.loop-k-test.false, c.loop-k.auto.k-end) in
    blocks_are c.args.rows.now c.loop-k.blocks.items c.loop-k.k c.loop-k.invariant
    (e ∙ c.div_ceil-k-end.ensures ∙ ap (λ (n : ℕ). div_ceil n 256) c.len.ensures)
