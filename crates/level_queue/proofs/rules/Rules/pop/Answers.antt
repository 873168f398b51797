use Rattle.std.proofs.Common.{length, refl, sym, ◌∙◌}
use Rattle.level_queue.proofs.OpenLemmas.{not_nil}
use Rattle.level_queue.proofs.RuleLemmas.{no_length, popped, popped_alone, popped_is}
use Rattle.level_queue.proofs.rules.Rules.pop.Goals as goal

pub invariant_of-self : goal.invariant_of-self
invariant_of-self c = popped c.self.inside.known c.self.inside.accepted c.self.inside.all c.pop.new.self c.self.invariant c.pop.ensures.last
    c.pop-then-not-is_empty-2.new.self
    (λ e. not_nil c.as_slice.result.now (length c.as_slice.result.now) refl c.is_empty.result c.is_empty.ensures c.if-not-is_empty.true
    (c.as_slice.ensures.members ∙ e)) c.pop-then-not-is_empty-2.ensures.last

pub invariant_of-self-else-not-is_empty-2 : goal.invariant_of-self-else-not-is_empty-2
invariant_of-self-else-not-is_empty-2 c = popped_alone c.self.inside.known c.self.inside.accepted c.self.inside.all c.pop.new.self
    c.self.invariant c.pop.ensures.last
    (sym c.as_slice-then-not-is_empty.ensures.members
    ∙ no_length c.as_slice-then-not-is_empty.result.now (sym c.is_empty-then-not-is_empty.ensures ∙ c.if-not-is_empty-2.false))
    (λ e. not_nil c.as_slice.result.now (length c.as_slice.result.now) refl c.is_empty.result c.is_empty.ensures c.if-not-is_empty.true
    (c.as_slice.ensures.members ∙ e))

pub returns-then-not-is_empty-2 : goal.returns-then-not-is_empty-2
returns-then-not-is_empty-2 c parts i e = popped_is c.self.inside.known c.self.inside.accepted c.self.inside.all c.pop.new.self
    c.self.invariant c.pop.ensures.last parts i (c.self.view_is ∙ e)

pub returns-else-not-is_empty-2 : goal.returns-else-not-is_empty-2
returns-else-not-is_empty-2 c parts i e = popped_is c.self.inside.known c.self.inside.accepted c.self.inside.all c.pop.new.self
    c.self.invariant c.pop.ensures.last parts i (c.self.view_is ∙ e)
