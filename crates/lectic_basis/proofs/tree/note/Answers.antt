use Rattle.std.proofs.Common.{true, set, refl, sym, subst}
use Rattle.lectic_basis.specs.Forced.{AreForced}
use Rattle.lectic_basis.proofs.ForcedLemmas.{forced_set}
use Rattle.lectic_basis.proofs.tree.note.Goals as goal

pub returns-in-Some : goal.returns-in-Some
returns-in-Some g c J bounded forced = subst (AreForced J c.args.a.now) (sym c.put.ensures)
    (forced_set J c.args.a.now (set c.args.a.now c.args.i true) c.args.larger.now c.args.forced.now.items c.args.i c.in-Some.lasting refl
    bounded c.in-Some.ensures.member forced)
