use Rattle.std.proofs.Common.{◌∙◌, ◌++◌, List, sym, ap}
use Rattle.fca_model.specs.Sets.{Set}
use Rattle.fca_model.specs.Context.{Context}
use Rattle.lectic_concepts.specs.Branches.{branch}
use Rattle.table_texts.specs.declared.tops.Top.{Top}
use Rattle.table_texts.proofs.TopLemmas.{flat_map-next}
use Rattle.table_texts.proofs.tops.split_large.Goals as goal

pub loop-top-preserved : goal.loop-top-preserved
loop-top-preserved g c =
    let K : Context = c.args.crosses.now in
    let top : Top g.row.W = c.top-item.result in
    record {
      tops = c.in_ok-split_if_large.ensures.tops;
      laid = c.in_ok-split_if_large.ensures.branches
          ∙ ap (λ (Xs : List Set). Xs ++ branch K top.intent top.from) c.loop-top.invariant.laid
          ∙ sym (flat_map-next (λ (x : Top g.row.W). branch K x.intent x.from) c.args.tops.now c.loop-top.top-index top c.loop-top-test.true
          c.top-item.is);
    }
