use Rattle.lectic_concepts.proofs.IntentLemmas.{intent_with, within_with}
use Rattle.concept_walk.proofs.branch.child_at.Goals as goal

pub returns-then-is_child-clause-wide : goal.returns-then-is_child-clause-wide
returns-then-is_child-clause-wide g c = (intent_with c.args.crosses.now c.args.node.now.intent.now c.args.i c.requires.node.wide
    c.requires.inside c.closure_with-larger.result.intent c.closure_with-larger.ensures.closed).wide

pub returns-then-is_child-clause-closed : goal.returns-then-is_child-clause-closed
returns-then-is_child-clause-closed g c = (intent_with c.args.crosses.now c.args.node.now.intent.now c.args.i c.requires.node.wide
    c.requires.inside c.closure_with-larger.result.intent c.closure_with-larger.ensures.closed).closed

pub returns-then-is_child-clause-larger : goal.returns-then-is_child-clause-larger
returns-then-is_child-clause-larger g c = within_with c.args.crosses.now c.args.node.now.intent.now c.args.i c.requires.node.wide
    c.requires.inside c.closure_with-larger.result.intent c.closure_with-larger.ensures.closed
