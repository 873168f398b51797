use Rattle.std.proofs.Common.{◌≡◌, ◌∙◌, sym, subst, true}
use Rattle.fca_model.specs.Implications.{follows, rule}
use Rattle.canonical_basis.proofs.DerivationLemmas.{sound_follows}
use Rattle.canonical_basis.proofs.derivations.check.Goals as goal

pub returns-clause-follows : goal.returns-clause-follows
returns-clause-follows c = λ t. subst (λ js. follows c.args.list.now.width js (rule c.args.p.now c.args.c.now) ≡ true)
    c.as_slice.ensures.members
    (sound_follows c.args.list.now.width c.as_slice.result.now c.args.p.now c.args.c.now c.deref.result.now (sym c.is_sound.ensures ∙ t))
