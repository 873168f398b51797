use Rattle.std.proofs.Common.{◌≡◌, ◌∙◌, ap, sym, cond, length, take, true, false}
use Rattle.fca_model.specs.Sets.{join, within}
use Rattle.fca_model.proofs.SetLemmas.{length-join}
use Rattle.direct_basis.specs.Direct.{one_pass}
use Rattle.direct_basis.proofs.JoinLemmas.{pass_more}
use Rattle.direct_basis.proofs.passing.pass_over.Goals as goal
use Rattle.direct_basis.proofs.passing.pass_over.Goals.{then-within, else-within}

pub loop-i-preserved : goal.loop-i-preserved
loop-i-preserved c =
    let i = c.i-item.result in
    let J = c.args.members.now in
    let X = c.args.x.now in
    let k = c.loop-i.i-index in
    let P = one_pass (take k J) X in
    let more = pass_more J k i X c.loop-i-test.true c.i-item.is in
    elim c.if-within.branch [
      | then-within w ↦
          let t : within i.premise X ≡ true = sym c.within.ensures ∙ w.if-within.true in
          let e = w.joined-is ∙ w.join-joined.ensures in
          record {
            wide = ap length e ∙ length-join c.loop-i.joined i.conclusion ∙ c.loop-i.invariant.wide;
            pass = e ∙ ap (λ Z. join Z i.conclusion) c.loop-i.invariant.pass ∙ sym (more ∙ ap (λ b. cond b (join P i.conclusion) P) t);
          }
      | else-within w ↦
          let f : within i.premise X ≡ false = sym c.within.ensures ∙ w.if-within.false in
          record {
            wide = ap length w.joined-is ∙ c.loop-i.invariant.wide;
            pass = w.joined-is ∙ c.loop-i.invariant.pass ∙ sym (more ∙ ap (λ b. cond b (join P i.conclusion) P) f);
          }
    ]
