use Rattle.std.proofs.Common.{ℕ, eqb, false, map, ap, ◌∙◌, arith, w8}
use Rattle.std.proofs.lemmas.Simd.{bitmask_splat}
use Rattle.std.proofs.lemmas.List.{get_or-map}
use Rattle.std.specs.Int.{bit_at}
use Rattle.text_pieces.proofs.MarkLemmas.{is_set-mask_l}
use Rattle.text_pieces.proofs.marks.places_of.Goals as goal

pub returns : goal.returns
returns c j lt =
    let is : ℕ → _ = λ (x : ℕ). eqb x c.args.byte in
    ap (λ m. eqb (bit_at m j) 1) (bitmask_splat w8 eqb c.args.lanes 64 c.args.byte c.fits-lanes.0 (omega arith))
    ∙ is_set-mask_l (map is c.args.lanes) j ∙ get_or-map is c.args.lanes j 0 false (omega (arith, c.fits-lanes.0))
