use Rattle.std.proofs.Common.{◌∙◌, sym, arith}
use Rattle.fca_model.specs.Sets.{Set}
use Rattle.attr_bits.proofs.PlaceLemmas.{member_below}
use Rattle.attr_bits.proofs.DifferenceLemmas.{first_missing-parts}
use Rattle.lattice_covers.proofs.chain.larger_rows.Goals as goal

pub larger_rows_with-requires : goal.larger_rows_with-requires
larger_rows_with-requires g c =
    let A : Set = c.args.a.now in
    let new = first_missing-parts A c.args.smaller.now c.in-Some.new (sym c.first_missing.ensures ∙ c.in-Some.is) in
    (omega arith, (omega (arith, c.width-width.ensures.words), (omega (arith, member_below A c.in-Some.new new.0, c.requires), new.0)))
