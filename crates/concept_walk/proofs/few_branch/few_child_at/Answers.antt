use Rattle.std.proofs.Common.{◌∙◌, true, set, ap}
use Rattle.fca_model.specs.Context.{Context, closure}
use Rattle.lectic_concepts.proofs.IntentLemmas.{intent_with, within_with}
use Rattle.concept_walk.proofs.few_branch.few_child_at.Goals as goal

pub returns-then-is_child-clause-wide : goal.returns-then-is_child-clause-wide
returns-then-is_child-clause-wide g c =
    let B = set c.args.node.now.intent.now c.args.i true in
    (intent_with c.args.crosses.now c.args.node.now.intent.now c.args.i c.requires.node.wide c.requires.inside
    c.closure_with-larger.result.intent
    (c.closure_with-larger.ensures.closed ∙ ap (λ (J : Context). closure J B) c.rows-rows.ensures)).wide

pub returns-then-is_child-clause-closed : goal.returns-then-is_child-clause-closed
returns-then-is_child-clause-closed g c =
    let B = set c.args.node.now.intent.now c.args.i true in
    (intent_with c.args.crosses.now c.args.node.now.intent.now c.args.i c.requires.node.wide c.requires.inside
    c.closure_with-larger.result.intent
    (c.closure_with-larger.ensures.closed ∙ ap (λ (J : Context). closure J B) c.rows-rows.ensures)).closed

pub returns-then-is_child-clause-larger : goal.returns-then-is_child-clause-larger
returns-then-is_child-clause-larger g c =
    let B = set c.args.node.now.intent.now c.args.i true in
    within_with c.args.crosses.now c.args.node.now.intent.now c.args.i c.requires.node.wide c.requires.inside
    c.closure_with-larger.result.intent
    (c.closure_with-larger.ensures.closed ∙ ap (λ (J : Context). closure J B) c.rows-rows.ensures)
