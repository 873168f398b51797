use Rattle.std.proofs.Common.{◌∙◌, [], ◌∷◌, cond, sym, ap}
use Rattle.std.proofs.lemmas.Bool.{false≢true, false_from_ne_true}
use Rattle.direct_basis.specs.Direct.{proper}
use Rattle.direct_basis.specs.Levels.{placed}
use Rattle.direct_basis.proofs.FreeLemmas.{proper_free}
use Rattle.direct_basis.proofs.levels.visit.Goals as goal

pub returns-in_default-clause-found : goal.returns-in_default-clause-found
returns-in_default-clause-found c =
    let K = c.args.rows.now in
    let A = c.args.set in
    let lacks = false_from_ne_true (proper K A) (λ p. false≢true (sym c.in_default.ensures ∙ proper_free K A c.requires p)) in
    sym (ap (λ b. placed c.args.found.now.keys (cond b (A ∷ []) [])) lacks)
