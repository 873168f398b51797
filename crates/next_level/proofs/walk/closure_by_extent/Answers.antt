use Rattle.std.proofs.Common.{ap, length-set, ◌∙◌, length, true, sym, arith}
use Rattle.next_level.proofs.LevelWalkLemmas.{extent_tried, closure_shared}
use Rattle.next_level.proofs.walk.closure_by_extent.Goals as goal

pub closure_among-shared-requires : goal.closure_among-shared-requires
closure_among-shared-requires g c =
    let wide = c.requires.wide in (
      omega arith,
      (
        omega (arith, c.width-width.ensures.words),
        (
          c.requires.inside,
          (
            ap length c.with-tried.ensures ∙ length-set c.args.a.now c.args.i true ∙ wide,
            extent_tried c.args.indexed.now c.args.a.now c.args.i c.args.extent.now c.requires.extent wide c.requires.inside c.with-tried.result
                c.with-tried.ensures,
          ),
        ),
      ),
    )

pub returns-then-within : goal.returns-then-within
returns-then-within g c = closure_shared c.args.indexed.now c.args.a.now c.args.i c.args.larger.now c.with-tried.result c.requires.wide
    c.requires.larger c.with-tried.ensures c.closure_among-shared.result c.closure_among-shared.ensures
    (sym c.within.ensures ∙ c.if-within.true)
