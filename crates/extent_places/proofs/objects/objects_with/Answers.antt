use Rattle.std.proofs.Common.{◌≡◌, ◌∙◌, [], get_or, set, true, sym, subst, arith}
use Rattle.std.proofs.lemmas.List.{get_or_default}
use Rattle.fca_model.specs.Sets.{Set}
use Rattle.fca_model.specs.Context.{Context}
use Rattle.extent_places.specs.Objects.{HasObjects, alone}
use Rattle.extent_places.proofs.ObjectLemmas.{objects_with}
use Rattle.extent_places.proofs.objects.objects_with.Goals as goal

pub returns : goal.returns
returns g c =
    let K : Context = c.args.rows.now in
    let A : Set = c.args.a.now in
    let i = c.args.i in
    let C : Set = c.index-columns-i.result in
    let column : C ≡ get_or c.args.columns.now i [] = c.index-columns-i.is
    ∙ get_or_default c.args.columns.now i C [] (omega (arith, c.requires.inside, c.requires.columns.wide)) in
    subst (λ (S : Set). HasObjects K (set A i true) S) (sym c.meet.ensures)
    (objects_with K A c.args.objects.now C i c.requires.inside c.requires.wide c.requires.objects
    (subst (HasObjects K (alone K i)) (sym column) (c.requires.columns.each i c.requires.inside)))
