use Rattle.std.proofs.Common.{◌∙◌, ap, sym, subst}
use Rattle.fca_model.specs.Context.{closure}
use Rattle.fca_model.specs.Implications.{rule}
use Rattle.implication_closure.specs.Closing.{RuleList, Fits}
use Rattle.canonical_basis.specs.Reduced.{context_of}
use Rattle.canonical_basis.proofs.OrderLemmas.{closed_more, set_at}
use Rattle.canonical_basis.proofs.ListLemmas.{closure_is}
use Rattle.canonical_basis.proofs.ordering.close_in_list.Goals as goal

pub loop-set-preserved : goal.loop-set-preserved
loop-set-preserved c =
    let L = c.args.list.now in
    let k = c.loop-set.set-index in
    let X = c.set-item.result in
    let C = c.closure.result in
    let wide = set_at L.width k c.args.sets.now X c.requires c.loop-set-test.true c.set-item.is in
    record {
      fits = subst (λ s. Fits s L) (sym c.closure.ensures.scratch) c.loop-set.invariant.fits;
      width = ap (λ (l : RuleList). l.width) c.in_ok-push.ensures.ok ∙ c.loop-set.invariant.width;
      members = closed_more (λ P. rule P (closure (context_of L) P)) c.args.sets.now k X c.loop-set.closed.members c.push.new.self.members
          (rule X C) c.loop-set-test.true c.set-item.is
          c.loop-set.invariant.members (ap (rule X) (closure_is L c.width.ensures.even X C wide c.closure.ensures.closure))
          (ap (λ (l : RuleList). l.members) c.in_ok-push.ensures.ok);
    }
