use Rattle.std.proofs.Common.{◌≡◌, ◌∙◌, ◌++◌, ◌∷◌, [], List, false, map, get_or, length, sym, ap, ap₂, arith}
use Rattle.std.proofs.lemmas.List.FromFn.{map-range_with_len_more}
use Rattle.fca_model.specs.Sets.{Set}
use Rattle.fca_model.specs.Context.{Context}
use Rattle.context_reduce.specs.Blocks.{row_block}
use Rattle.context_reduce.specs.Reduce.{column}
use Rattle.context_reduce.proofs.larger.columns_of.Goals as goal

pub row_block-part-requires : goal.row_block-part-requires
row_block-part-requires g c = (omega arith, (omega (arith, c.width-width.ensures.words), c.requires))

pub loop-m-preserved : goal.loop-m-preserved
loop-m-preserved g c =
    let B : Context = row_block c.args.rows.now c.args.k in
    let m = c.loop-m.m in
    let is : c.column_of.result ≡ column B m = c.column_of.ensures
    ∙ ap (λ (Rs : List Set). map (λ row. get_or row m false) Rs) c.row_block-part.ensures.rows in
    c.in_ok-push.ensures.ok ∙ ap₂ (λ (C : Context) (Z : Set). record C { rows = C.rows ++ Z ∷ [] }) c.loop-m.invariant is
    ∙ ap (λ (Rs : List Set). record { width = length B.rows; rows = Rs }) (sym (map-range_with_len_more (column B) 0 m m (omega arith)))
