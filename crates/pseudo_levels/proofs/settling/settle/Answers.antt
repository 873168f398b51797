use Rattle.std.proofs.Common.{◌∙◌, [], length, refl, sym, ap, subst}
use Rattle.std.proofs.lemmas.Result.{on_ok_weaker}
use Rattle.fca_model.proofs.SetLemmas.{length-join}
use Rattle.pseudo_levels.specs.Search.{Grows}
use Rattle.pseudo_levels.proofs.ReachLemmas.{closed_settles, broken_settles}
use Rattle.pseudo_levels.proofs.settling.settle.Goals as goal

pub returns-in-Some-clause-settled : goal.returns-in-Some-clause-settled
returns-in-Some-clause-settled c K e none =
    on_ok_weaker c.add.result (λ added. broken_settles
    [] K c.args.found.now.members c.args.set.now c.join.result c.in-Some.member c.add.new.self
    (c.in-Some.ensures.wide ∙ sym c.requires.wide) c.in-Some.ensures.broken c.join.ensures added) c.add.ensures.added

pub returns-in-Some-clause-grows : goal.returns-in-Some-clause-grows
returns-in-Some-clause-grows c =
    subst (λ n. Grows n c.args.candidates.now c.add.new.self)
    (ap length c.join.ensures ∙ length-join c.args.set.now c.in-Some.member.conclusion ∙ c.requires.wide) c.add.ensures.grows

pub returns-in-None-clause-settled : goal.returns-in-None-clause-settled
returns-in-None-clause-settled c K e none =
    on_ok_weaker c.grow.result (λ g. closed_settles [] K c.args.found.now.members c.args.set.now c.grow.new.self
    (c.requires.wide ∙ sym e) refl c.in-None.ensures.broken g none) c.grow.ensures.grown
