use Rattle.std.proofs.Common.{◌≡◌, ◌∙◌, Some, List, get_or, sym, ap, arith}
use Rattle.fca_model.specs.Sets.{Set}
use Rattle.fca_model.specs.Context.{Context}
use Rattle.fca_model.specs.Exploration.{first_missing}
use Rattle.fca_model.proofs.ClosureLemmas.{closure_extensive}
use Rattle.extent_blocks.proofs.ClosureSteps.{begins, missing_inside, met_wide, met_above, met_less, kept_wide, kept_below, kept_more, ends}
use Rattle.extent_blocks.proofs.extent.BlockExtent.closure_by_columns.Goals as goal

pub loop-k-init : goal.loop-k-init
loop-k-init g c =
    let K : Context = c.args.indexed.now in
    let first = begins K c.args.a.now c.full-met.result c.width.result c.full-met.ensures
    (c.width.ensures.width ∙ ap (λ (X : Context). X.width) c.rows-rows.ensures) in
    record { met_wide = first.0; kept_wide = c.requires.wide; above = first.1; below = closure_extensive K c.args.a.now c.requires.wide }

pub place_lacking-requires : goal.place_lacking-requires
place_lacking-requires g c =
    let v = c.loop-k.invariant in
    let missing : first_missing 0 c.loop-k.met c.loop-k.kept ≡ Some c.in-Some.k = sym c.first_missing.ensures ∙ c.in-Some.is in (
      omega arith,
      (
        c.requires.inside,
        missing_inside c.args.indexed.now c.args.a.now c.args.i c.args.self.now c.requires.extent c.loop-k.met
            c.loop-k.kept v.met_wide v.kept_wide v.above v.below c.in-Some.k missing,
      ),
    )

pub loop-k-smaller-in-Some-place_lacking : goal.loop-k-smaller-in-Some-place_lacking
loop-k-smaller-in-Some-place_lacking g c =
    let K : Context = c.args.indexed.now in
    let v = c.loop-k.invariant in
    let missing : first_missing 0 c.loop-k.met c.loop-k.kept ≡ Some c.in-Some.k = sym c.first_missing.ensures ∙ c.in-Some.is in
    let R : Set = c.index-as_slice-place.result in
    let row : R ≡ get_or K.rows c.in-Some-place_lacking.place R = c.index-as_slice-place.is
    ∙ ap (λ (Rs : List Set). get_or Rs c.in-Some-place_lacking.place R)
    (c.as_slice.ensures.rows ∙ ap (λ (X : Context). X.rows) c.rows-rows.ensures) in
    omega (
      arith,
      met_less K c.args.a.now c.args.i c.args.self.now c.requires.extent c.loop-k.met c.loop-k.kept v.met_wide v.kept_wide v.above v.below
          c.in-Some.k missing
          c.in-Some-place_lacking.place c.in-Some-place_lacking.ensures.0 c.in-Some-place_lacking.ensures.1
          c.in-Some-place_lacking.ensures.2 R c.meet-met.result row c.meet-met.ensures,
    )

pub loop-k-preserved-in-Some-place_lacking : goal.loop-k-preserved-in-Some-place_lacking
loop-k-preserved-in-Some-place_lacking g c =
    let K : Context = c.args.indexed.now in
    let v = c.loop-k.invariant in
    let missing : first_missing 0 c.loop-k.met c.loop-k.kept ≡ Some c.in-Some.k = sym c.first_missing.ensures ∙ c.in-Some.is in
    let R : Set = c.index-as_slice-place.result in
    let row : R ≡ get_or K.rows c.in-Some-place_lacking.place R = c.index-as_slice-place.is
    ∙ ap (λ (Rs : List Set). get_or Rs c.in-Some-place_lacking.place R)
    (c.as_slice.ensures.rows ∙ ap (λ (X : Context). X.rows) c.rows-rows.ensures) in
    record {
      met_wide = met_wide K c.args.a.now c.args.i c.args.self.now c.requires.extent c.loop-k.met c.loop-k.kept v.met_wide v.kept_wide
          v.above v.below c.in-Some.k missing
          c.in-Some-place_lacking.place c.in-Some-place_lacking.ensures.0 c.in-Some-place_lacking.ensures.1
          c.in-Some-place_lacking.ensures.2 R c.meet-met.result row c.meet-met.ensures;
      kept_wide = v.kept_wide;
      above = met_above K c.args.a.now c.args.i c.args.self.now c.requires.extent c.loop-k.met c.loop-k.kept v.met_wide v.kept_wide v.above
          v.below c.in-Some.k missing
          c.in-Some-place_lacking.place c.in-Some-place_lacking.ensures.0 c.in-Some-place_lacking.ensures.1
          c.in-Some-place_lacking.ensures.2 R c.meet-met.result row c.meet-met.ensures;
      below = v.below;
    }

pub insert-requires : goal.insert-requires
insert-requires g c =
    let v = c.loop-k.invariant in
    let missing : first_missing 0 c.loop-k.met c.loop-k.kept ≡ Some c.in-Some.k = sym c.first_missing.ensures ∙ c.in-Some.is in (
      omega (arith, c.width.ensures.words),
      omega (
        arith,
        missing_inside c.args.indexed.now c.args.a.now c.args.i c.args.self.now c.requires.extent c.loop-k.met c.loop-k.kept v.met_wide
            v.kept_wide v.above v.below c.in-Some.k missing,
        v.kept_wide,
      ),
    )

pub loop-k-smaller : goal.loop-k-smaller
loop-k-smaller g c =
    let K : Context = c.args.indexed.now in
    let v = c.loop-k.invariant in
    let missing : first_missing 0 c.loop-k.met c.loop-k.kept ≡ Some c.in-Some.k = sym c.first_missing.ensures ∙ c.in-Some.is in
    let more = kept_more K c.args.a.now c.args.i c.args.self.now c.requires.extent c.loop-k.met c.loop-k.kept v.met_wide v.kept_wide v.above
    v.below c.in-Some.k missing c.in-None.ensures c.insert.new.self c.insert.ensures in
    omega (arith, more.0, more.1)

pub loop-k-preserved : goal.loop-k-preserved
loop-k-preserved g c =
    let K : Context = c.args.indexed.now in
    let v = c.loop-k.invariant in
    let missing : first_missing 0 c.loop-k.met c.loop-k.kept ≡ Some c.in-Some.k = sym c.first_missing.ensures ∙ c.in-Some.is in
    record {
      met_wide = v.met_wide;
      kept_wide = kept_wide K c.args.a.now c.args.i c.args.self.now c.requires.extent c.loop-k.met c.loop-k.kept v.met_wide v.kept_wide
          v.above v.below c.in-Some.k missing c.in-None.ensures c.insert.new.self c.insert.ensures;
      above = v.above;
      below = kept_below K c.args.a.now c.args.i c.args.self.now c.requires.extent c.loop-k.met c.loop-k.kept v.met_wide v.kept_wide v.above
          v.below c.in-Some.k missing c.in-None.ensures c.insert.new.self c.insert.ensures;
    }

pub returns : goal.returns
returns g c =
    let v = c.loop-k.invariant in
    ends c.args.indexed.now c.args.a.now c.loop-k.met c.loop-k.kept v.met_wide v.above v.below
    (sym c.first_missing.ensures ∙ c.in_default.is)
