use Rattle.std.proofs.Common.{◌≡◌, ◌∙◌, sym, true, false, refl, eq-eqb}
use Rattle.std.specs.List.{list_all}
use Rattle.std.proofs.lemmas.Bool.{ne_eqb}
use Rattle.text_pieces.specs.Marks.{is_mark}
use Rattle.cxt_format.proofs.CellLemmas.{mask-crosses, mask-others}
use Rattle.cxt_format.proofs.cells.crosses_in_lanes.Goals as goal

pub returns-then-marks-eq0 : goal.returns-then-marks-eq0
returns-then-marks-eq0 g c =
    let crosses = mask-crosses c.args.lanes g.row.N c.fits-lanes.0 c.requires in
    let others = mask-others c.args.lanes g.row.N c.fits-lanes.0 c.requires in
    let all : list_all is_mark c.args.lanes ≡ true = sym others ∙ eq-eqb _ _ c.if-marks-eq0.true in
    rw (all, crosses) refl

pub returns-else-marks-eq0 : goal.returns-else-marks-eq0
returns-else-marks-eq0 g c =
    let others = mask-others c.args.lanes g.row.N c.fits-lanes.0 c.requires in
    let all : list_all is_mark c.args.lanes ≡ false = sym others ∙ ne_eqb _ _ c.if-marks-eq0.false in
    rw all refl
