use Rattle.std.proofs.Common.{◌≡◌, refl, ◌∙◌, ap, sym, subst, length, true}
use Rattle.fca_model.specs.Sets.{Set, within, join}
use Rattle.fca_model.specs.Implications.{Rule}
use Rattle.fca_model.proofs.SetLemmas.{within_refl, within_trans, within-join, length-join}
use Rattle.implication_closure.proofs.ClosingLemmas.{closes_measure, closes_within, closed_end}
use Rattle.implication_closure.proofs.close_from_the_first.Goals as goal

pub loop-i-init : goal.loop-i-init
loop-i-init g c = record { wide = refl; above = within_refl c.args.x.now; least = λ T h r. h }

pub loop-i-smaller : goal.loop-i-smaller
loop-i-smaller g c = closes_measure c.args.members.now c.args.x.now c.requires c.loop-i.closed c.join-closed.result c.in-Some.i
    c.index-members-i.result c.loop-i.invariant.wide
    (sym c.first_broken.ensures ∙ c.in-Some.is) c.index-members-i.is
    (c.join-closed.ensures ∙ ap (λ (j : Rule). join c.loop-i.closed j.conclusion) (sym c.index-members-i.is))

pub loop-i-preserved : goal.loop-i-preserved
loop-i-preserved g c =
    let e : c.join-closed.result ≡ join c.loop-i.closed c.index-members-i.result.conclusion = c.join-closed.ensures
    ∙ ap (λ (j : Rule). join c.loop-i.closed j.conclusion) (sym c.index-members-i.is) in
    let more : Set = c.index-members-i.result.conclusion in
    record {
      wide = ap length e ∙ length-join c.loop-i.closed more ∙ c.loop-i.invariant.wide;
      above = subst (λ X. within c.args.x.now X ≡ true) (sym e)
          (within_trans c.args.x.now c.loop-i.closed (join c.loop-i.closed more) c.loop-i.invariant.above
          (within-join c.loop-i.closed more));
      least = λ T h r. subst (λ X. within X T ≡ true) (sym e)
          (closes_within c.args.members.now c.args.x.now c.requires c.loop-i.closed T c.in-Some.i c.index-members-i.result
          (sym c.first_broken.ensures ∙ c.in-Some.is) c.index-members-i.is (c.loop-i.invariant.least T h r) r);
    }

pub returns : goal.returns
returns g c = closed_end c.args.members.now c.args.x.now c.requires c.loop-i.closed c.loop-i.invariant.wide c.loop-i.invariant.above
    c.loop-i.invariant.least (sym c.first_broken.ensures ∙ c.in_default.is)
