use Rattle.std.proofs.Common.{rules, ◌≡◌, ◌∙◌, length, subst, sym, arith}
use Rattle.std.proofs.lemmas.List.{take_all}
use Rattle.std.proofs.lemmas.List.Elements.{All-get_or}
use Rattle.fca_model.specs.Sets.{Set}
use Rattle.fca_model.proofs.ListLemmas.{copied_more}
use Rattle.lectic_concepts.proofs.tree.resize_sets.Goals as goal

pub resize-requires : goal.resize-requires
resize-requires g c =
    let set : Set = c.set-item.result in
    let even : length set ≡ c.args.width =
    subst (λ (X : Set). length X ≡ c.args.width) (sym c.set-item.is)
    (All-get_or (λ (X : Set). length X ≡ c.args.width) c.args.sets.now c.loop-set.set-index set (omega arith) c.requires.even) in
    (search rules, omega (arith, even, c.requires.fits))

pub loop-set-preserved : goal.loop-set-preserved
loop-set-preserved g c = copied_more c.args.sets.now c.loop-set.set-index c.set-item.result c.loop-set-test.true c.set-item.is
    c.resize.result c.loop-set.all.items _ c.resize.ensures c.loop-set.invariant c.in_ok-push.ensures.items

pub returns : goal.returns
returns g c = c.loop-set.invariant ∙ take_all c.loop-set.set-index c.args.sets.now c.loop-set-test.false
