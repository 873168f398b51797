use Rattle.std.proofs.Common.{ℕ, List, take, sym, ap₂, subst}
use Rattle.fca_model.specs.Sets.{Set}
use Rattle.fca_model.specs.Context.{Context}
use Rattle.lectic_concepts.specs.Branches.{branch}
use Rattle.concept_walk.specs.Gatherings.{Fills}
use Rattle.table_texts.specs.Tops.{branches}
use Rattle.table_texts.specs.declared.tops.Top.{Top}
use Rattle.concept_walk.proofs.LineLemmas.{Fills-append}
use Rattle.table_texts.proofs.TopLemmas.{flat_map-next}
use Rattle.table_texts.proofs.filling.gather_tops.Goals as goal

pub loop-top-preserved : goal.loop-top-preserved
loop-top-preserved g c =
    let K : Context = c.args.crosses.now in
    let top : Top g.row.W = c.top-item.result in
    let filled : Fills K c.loop-top.gathering c.gather_branch.new.gathering (branch K top.intent top.from) =
    subst (Fills K c.loop-top.gathering c.gather_branch.new.gathering) (ap₂ (λ (A : Set) (k : ℕ). branch K A k) c.node.ensures.intent c.node.ensures.from)
    c.in_ok-gather_branch.ensures in
    subst (Fills K c.args.gathering.now c.gather_branch.new.gathering)
    (sym (flat_map-next (λ (x : Top g.row.W). branch K x.intent x.from) c.args.tops.now c.loop-top.top-index top c.loop-top-test.true
    c.top-item.is))
    (Fills-append K c.args.gathering.now c.loop-top.gathering c.gather_branch.new.gathering (branches K (take c.loop-top.top-index c.args.tops.now))
    (branch K top.intent top.from) c.loop-top.invariant filled)
