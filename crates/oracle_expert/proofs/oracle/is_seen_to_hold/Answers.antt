use Rattle.std.proofs.Common.{◌∙◌, sym, arith}
use Rattle.attr_bits.proofs.DifferenceLemmas.{first_missing-parts}
use Rattle.attr_bits.proofs.PlaceLemmas.{member_below}
use Rattle.oracle_expert.proofs.HoldLemmas.{extent_with_own}
use Rattle.oracle_expert.proofs.oracle.is_seen_to_hold.Goals as goal

pub closure_among-requires : goal.closure_among-requires
closure_among-requires g c =
    let P = c.args.premise.now in
    let at = first_missing-parts P _ c.in-Some.i (sym c.first_missing.ensures ∙ c.in-Some.is) in
    let below = member_below P c.in-Some.i at.0 in (
      omega arith,
      (
        omega (arith, c.width-width.ensures.words),
        (
          omega (arith, below, c.requires.premise),
          (
            c.requires.premise,
            extent_with_own c.args.indexed.now P c.in-Some.i _ c.requires.premise at.0 c.in-Ok.ensures,
          ),
        ),
      ),
    )
