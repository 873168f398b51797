use Rattle.std.proofs.Common.{◌≡◌, ◌+◌, [], ◌∷◌, ◌∙◌, sym, ap, subst, arith}
use Rattle.fca_model.specs.Sets.{Set}
use Rattle.fca_model.specs.Context.{Context}
use Rattle.lectic_concepts.specs.Branches.{branch}
use Rattle.lectic_concepts.proofs.IntentLemmas.{IsIntent}
use Rattle.lectic_concepts.proofs.BranchLemmas.{branch_end}
use Rattle.extent_places.specs.Tries.{AreAttributesToTry}
use Rattle.extent_places.proofs.TryLemmas.{branch-between}
use Rattle.concept_walk.specs.Gatherings.{Fills}
use Rattle.concept_walk.proofs.steps.enter.Goals as goal

pub returns-in_default : goal.returns-in_default
returns-in_default g c =
    let K : Context = c.args.crosses.now in
    let A : Set = c.args.node.now.intent.now in
    let a : IsIntent K A = record { wide = c.requires.wide; closed = c.requires.closed } in
    let width : c.width-width.result ≡ K.width = c.width-width.ensures.width ∙ ap (λ (J : Context). J.width) c.rows-rows.ensures in
    let tries = subst (λ (J : Context). AreAttributesToTry J A c.attributes_to_try-tries.result) c.rows-rows.ensures c.attributes_to_try-tries.ensures.tries
    in
    let alone : branch K A c.args.node.now.from ≡ A ∷ [] =
    branch-between K A c.attributes_to_try-tries.result c.args.node.now.from c.width-width.result tries
    (omega (arith, width, c.requires.inside)) (omega (arith, width)) c.in_default.ensures ∙ ap (branch K A) width ∙ branch_end K A a in
    subst (Fills K c.args.gathering.now c.add.new.self) (sym alone) c.in_ok-add.ensures.added

pub returns : goal.returns
returns g c =
    let K : Context = c.args.crosses.now in
    let A : Set = c.args.node.now.intent.now in
    let a : IsIntent K A = record { wide = c.requires.wide; closed = c.requires.closed } in
    let width : c.width-width.result ≡ K.width = c.width-width.ensures.width ∙ ap (λ (J : Context). J.width) c.rows-rows.ensures in
    let tries = subst (λ (J : Context). AreAttributesToTry J A c.attributes_to_try-tries.result) c.rows-rows.ensures c.attributes_to_try-tries.ensures.tries
    in
    let last = c.in-Some.ensures in
    let alone : branch K A (c.in-Some.last + 1) ≡ A ∷ [] =
    branch-between K A c.attributes_to_try-tries.result (c.in-Some.last + 1) c.width-width.result tries (omega (arith, last.1))
    (omega (arith, width)) last.2 ∙ ap (branch K A) width ∙ branch_end K A a in (
      record {
        wide = c.attributes_to_try-tries.ensures.wide ∙ ap (λ (J : Context). J.width) c.rows-rows.ensures;
        tries = tries;
        inside = omega (arith, last.1, width);
      },
      omega (arith, last.0),
      subst (Fills K c.args.gathering.now c.add.new.self) (sym alone) c.in_ok-add.ensures.added,
    )
