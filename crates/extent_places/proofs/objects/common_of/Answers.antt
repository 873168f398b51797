use Rattle.std.proofs.Common.{◌≡◌, ◌∙◌, ◌<◌, false, [], get_or, set, sym, ap, subst, arith}
use Rattle.std.proofs.lemmas.List.{get_or_default}
use Rattle.fca_model.specs.Sets.{Set, full, size, within}
use Rattle.fca_model.specs.Context.{Context}
use Rattle.attr_bits.specs.Difference.{minus}
use Rattle.extent_places.specs.Objects.{HasObjects, alone}
use Rattle.extent_places.proofs.ObjectLemmas.{IsCommon, common_none, common_with, common_without, common_all, in_closure_of}
use Rattle.extent_places.proofs.ObjectLemmas.{within-column, fewer_left}
use Rattle.extent_places.proofs.objects.common_of.Goals as goal
use Rattle.extent_places.proofs.objects.common_of.Goals.{then-have_all, else-have_all}

pub loop-attribute-init : goal.loop-attribute-init
loop-attribute-init g c =
    let K : Context = c.args.rows.now in
    let A : Set = c.args.least.now in
    common_none K A c.minus-others.result c.requires.wide
    (c.minus-others.ensures ∙ ap (λ (X : Set). minus X A) (c.full.ensures ∙ ap full c.width.ensures.width))

pub loop-attribute-preserved : goal.loop-attribute-preserved
loop-attribute-preserved g c =
    let K : Context = c.args.rows.now in
    let A : Set = c.args.least.now in
    let T : Set = c.loop-attribute.others in
    let i = c.in-Some.attribute in
    let C : Set = c.index-columns-attribute.result in
    let inside : i < K.width = omega (arith, c.in-Some.ensures.in_range, c.loop-attribute.invariant.long) in
    let column : C ≡ get_or c.args.columns.now i [] =
    c.index-columns-attribute.is ∙ get_or_default c.args.columns.now i C [] (omega (arith, inside, c.requires.columns.wide)) in
    let same_bit : within c.args.objects.now C ≡ in_closure_of K A i =
    within-column K A c.args.objects.now C i inside c.requires.objects
    (subst (HasObjects K (alone K i)) (sym column) (c.requires.columns.each i inside)) in
    subst (λ (X : Set). IsCommon K A c.if-have_all.common X) (sym c.without-others.ensures)
    (elim c.if-have_all.branch [
      | then-have_all w ↦
          subst (λ (M : Set). IsCommon K A M (set T i false)) (sym (w.common-is ∙ w.insert.ensures))
          (common_with K A c.loop-attribute.common T i c.loop-attribute.invariant c.in-Some.ensures
          (sym same_bit ∙ sym c.have_all.ensures ∙ w.if-have_all.true))
      | else-have_all w ↦
          subst (λ (M : Set). IsCommon K A M (set T i false)) (sym w.common-is)
          (common_without K A c.loop-attribute.common T i c.loop-attribute.invariant
          (sym same_bit ∙ sym c.have_all.ensures ∙ w.if-have_all.false))
    ])

pub loop-attribute-smaller : goal.loop-attribute-smaller
loop-attribute-smaller g c = subst (λ (X : Set). size X < size c.loop-attribute.others) (sym c.without-others.ensures)
    (fewer_left c.loop-attribute.others c.in-Some.attribute c.in-Some.ensures)

pub returns : goal.returns
returns g c = common_all c.args.rows.now c.args.least.now c.loop-attribute.common c.loop-attribute.others c.loop-attribute.invariant
    c.in_default.ensures
