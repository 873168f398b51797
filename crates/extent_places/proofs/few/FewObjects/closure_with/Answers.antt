use Rattle.std.proofs.Common.{◌∙◌, arith}
use Rattle.fca_model.specs.Sets.{Set}
use Rattle.fca_model.specs.Context.{Context}
use Rattle.extent_places.proofs.AboveLemmas.{closure_above}
use Rattle.extent_places.proofs.FewLemmas.{few_with}
use Rattle.extent_places.proofs.few.FewObjects.closure_with.Goals as goal

pub returns-clause-closed : goal.returns-clause-closed
returns-clause-closed g c =
    let K : Context = c.args.rows.now in
    let A : Set = c.args.a.now in
    let w = c.requires.objects in
    c.meet_of-intent.ensures ∙ closure_above K w.least A c.args.i w.part
    (omega (arith, c.requires.wide, c.requires.inside)) c.with.result c.with.ensures c.args.self.now.rows w.rows

pub returns-clause-objects : goal.returns-clause-objects
returns-clause-objects g c =
    let K : Context = c.args.rows.now in
    let A : Set = c.args.a.now in
    let w = c.requires.objects in
    few_with K A c.meet_of-intent.result c.args.self.now c.args.objects.now c.objects_with-objects.result c.args.i w c.requires.wide
    c.requires.inside c.objects_with-objects.ensures
    (c.meet_of-intent.ensures ∙ closure_above K w.least A c.args.i w.part
    (omega (arith, c.requires.wide, c.requires.inside)) c.with.result c.with.ensures c.args.self.now.rows w.rows)
