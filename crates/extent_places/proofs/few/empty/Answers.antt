use Rattle.std.proofs.Common.{◌∙◌, ◌<◌, [], ◌∷◌, length, length-append, sym, ap, subst, arith}
use Rattle.fca_model.specs.Context.{Context}
use Rattle.extent_places.proofs.FewLemmas.{but_last, last_row, with_last}
use Rattle.extent_places.proofs.few.empty.Goals as goal

pub loop-rows-smaller : goal.loop-rows-smaller
loop-rows-smaller g c =
    let J : Context = c.loop-rows.rows in
    let some : 0 < length J.rows = omega (arith, c.len.ensures, c.loop-rows-test.true) in
    subst (λ (X : Context). length X.rows < length J.rows) (sym (c.pop.ensures.last (but_last J) (last_row J) (with_last J some)))
    (omega (arith, ap (λ (X : Context). length X.rows) (with_last J some), length-append (but_last J).rows (last_row J ∷ [])))

pub loop-rows-preserved : goal.loop-rows-preserved
loop-rows-preserved g c =
    let J : Context = c.loop-rows.rows in
    let some : 0 < length J.rows = omega (arith, c.len.ensures, c.loop-rows-test.true) in
    ap (λ (X : Context). X.width) (c.pop.ensures.last (but_last J) (last_row J) (with_last J some)) ∙ c.loop-rows.invariant
