use Rattle.std.proofs.Common.{◌≡◌, ◌∙◌, ◌<◌, ◌-◌, [], length, get_or, sym, subst, arith}
use Rattle.std.proofs.lemmas.List.{get_or_default}
use Rattle.fca_model.specs.Sets.{Set, size, meet}
use Rattle.fca_model.specs.Context.{Context}
use Rattle.fca_model.proofs.StepLemmas.{first_missing_none}
use Rattle.attr_bits.proofs.PlaceLemmas.{member_below}
use Rattle.attr_bits.proofs.DifferenceLemmas.{first_missing-parts}
use Rattle.extent_places.specs.Objects.{HasObjects, alone}
use Rattle.extent_places.proofs.ObjectLemmas.{IsGrown, grown_more, grown_whole, less_lacking}
use Rattle.extent_places.proofs.objects.objects_above.Goals as goal

pub insert-requires : goal.insert-requires
insert-requires g c =
    let A : Set = c.args.a.now in
    let new = first_missing-parts A c.loop-attribute.grown c.in-Some.attribute (sym c.first_missing.ensures ∙ c.in-Some.is) in
    omega (arith, member_below A c.in-Some.attribute new.0, c.requires.even, c.loop-attribute.invariant.wide)

pub bounds-columns-attribute : goal.bounds-columns-attribute
bounds-columns-attribute g c =
    let A : Set = c.args.a.now in
    let new = first_missing-parts A c.loop-attribute.grown c.in-Some.attribute (sym c.first_missing.ensures ∙ c.in-Some.is) in
    omega (arith, member_below A c.in-Some.attribute new.0, c.requires.even, c.requires.columns.wide)

pub loop-attribute-smaller : goal.loop-attribute-smaller
loop-attribute-smaller g c =
    let A : Set = c.args.a.now in
    let G : Set = c.loop-attribute.grown in
    let i = c.in-Some.attribute in
    let new = first_missing-parts A G i (sym c.first_missing.ensures ∙ c.in-Some.is) in
    subst (λ (X : Set). length X - size X < length G - size G) (sym c.insert.ensures)
    (less_lacking G i (omega (arith, member_below A i new.0, c.requires.even, c.loop-attribute.invariant.wide)) new.1)

pub loop-attribute-preserved : goal.loop-attribute-preserved
loop-attribute-preserved g c =
    let K : Context = c.args.rows.now in
    let A : Set = c.args.a.now in
    let G : Set = c.loop-attribute.grown in
    let S : Set = c.loop-attribute.having in
    let i = c.in-Some.attribute in
    let new = first_missing-parts A G i (sym c.first_missing.ensures ∙ c.in-Some.is) in
    let inside : i < K.width = omega (arith, member_below A i new.0, c.requires.even) in
    let column : c.index-columns-attribute.result ≡ get_or c.args.columns.now i [] =
    c.index-columns-attribute.is ∙ get_or_default c.args.columns.now i c.index-columns-attribute.result []
    (omega (arith, inside, c.requires.columns.wide)) in
    subst (λ (T : Set). IsGrown K A c.insert.new.set T) (sym c.meet-having.ensures)
    (subst (λ (H : Set). IsGrown K A H (meet S c.index-columns-attribute.result)) (sym c.insert.ensures)
    (grown_more K A G S c.index-columns-attribute.result i inside c.loop-attribute.invariant new.0
    (subst (HasObjects K (alone K i)) (sym column) (c.requires.columns.each i inside))))

pub returns : goal.returns
returns g c =
    grown_whole c.args.rows.now c.args.a.now c.loop-attribute.grown c.loop-attribute.having c.requires.even
    (first_missing_none 0 c.args.a.now c.loop-attribute.grown (sym c.first_missing.ensures ∙ c.in_default.is)) c.loop-attribute.invariant
