use Rattle.std.proofs.Common.{◌∙◌, ◌++◌, ◌∷◌, [], List, sym, ap₂, arith}
use Rattle.fca_model.specs.Sets.{Set}
use Rattle.context_reduce.specs.Reduce.{attributes_above}
use Rattle.std.proofs.lemmas.List.FromFn.{map-range_with_len_more}
use Rattle.context_reduce.proofs.finding.all_attributes_above.Goals as goal

pub loop-m-preserved : goal.loop-m-preserved
loop-m-preserved c =
    let K = c.args.rows.now in
    let m = c.loop-m.m in
    c.in_ok-push.ensures.items ∙ ap₂ (λ (Zs : List Set) (Z : Set). Zs ++ Z ∷ []) c.loop-m.invariant c.attributes_above.ensures
    ∙ sym (map-range_with_len_more (attributes_above K) 0 m m (omega arith))
