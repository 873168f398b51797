use Rattle.std.proofs.Common.{◌∙◌, ap, sym, length, get_or}
use Rattle.fca_model.proofs.SetLemmas.{length-join}
use Rattle.canonical_basis.proofs.DerivationLemmas.{sound_on}
use Rattle.canonical_basis.proofs.derivations.is_sound.Goals as goal

pub loop-i-preserved : goal.loop-i-preserved
loop-i-preserved c =
    let J = c.args.members.now in
    let k = c.loop-i.i-index in
    record {
      wide = ap length c.join-reached.ensures ∙ length-join c.loop-i.reached
          (get_or J (get_or c.args.steps.now k 0) c.index-members-i-in-loop-i.result).conclusion ∙ c.loop-i.invariant.wide;
      sound = c.loop-i.invariant.sound
          ∙ sound_on J c.loop-i.reached c.args.c.now c.join-reached.result c.args.steps.now k c.index-members-i.result
          c.index-members-i-in-loop-i.result c.loop-i-test.true
          c.if-i-members.false (sym c.within.ensures ∙ c.if-not-within.false) c.join-reached.ensures;
    }
