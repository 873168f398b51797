use Rattle.std.proofs.Common.{◌≡◌, ap, length-set, ◌∙◌, length, true, set, sym, subst, arith}
use Rattle.fca_model.specs.Sets.{within}
use Rattle.fca_model.specs.Context.{closure}
use Rattle.fca_model.proofs.SetLemmas.{within_trans}
use Rattle.fca_model.proofs.ClosureLemmas.{closure_extensive}
use Rattle.next_level.proofs.LevelWalkLemmas.{extent_tried}
use Rattle.next_level.proofs.walk.is_shared.Goals as goal

pub closure_among-shared-requires : goal.closure_among-shared-requires
closure_among-shared-requires g c =
    let wide = c.requires.wide in (
      omega arith,
      (
        omega (arith, c.width-width.ensures.words),
        (
          c.requires.inside,
          (
            ap length c.with-tried.ensures ∙ length-set c.args.a.now c.args.i true ∙ wide,
            extent_tried c.args.indexed.now c.args.a.now c.args.i c.args.extent.now c.requires.extent wide c.requires.inside c.with-tried.result
                c.with-tried.ensures,
          ),
        ),
      ),
    )

pub returns-then-within : goal.returns-then-within
returns-then-within g c = λ _.
    let X = set c.args.a.now c.args.i true in
    within_trans c.args.larger.now X (closure c.args.indexed.now X)
    (subst (λ Y. within c.args.larger.now Y ≡ true) c.with-tried.ensures (sym c.within.ensures ∙ c.if-within.true))
    (closure_extensive c.args.indexed.now X (length-set c.args.a.now c.args.i true ∙ c.requires.wide))

pub returns : goal.returns
returns g c = λ t. subst (λ Y. within c.args.larger.now Y ≡ true)
    (c.closure_among-shared.ensures ∙ ap (closure c.args.indexed.now) c.with-tried.ensures) (sym c.within-2.ensures ∙ t)
