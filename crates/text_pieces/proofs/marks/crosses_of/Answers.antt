use Rattle.std.proofs.Common.{◌≡◌, ◌∙◌, ◌||◌, ℕ, List, eqb, get_or, length, sym, ap, ap₂, arith}
use Rattle.std.proofs.lemmas.List.{get_or-take}
use Rattle.attr_bits.proofs.WordwiseLemmas.{or_bitwise}
use Rattle.text_pieces.proofs.marks.crosses_of.Goals as goal

pub returns : goal.returns
returns c j lt =
    let cells : List ℕ = c.args.cells.now in
    let lanes : List ℕ = c.lanes_of-lanes.result in
    let lane : get_or lanes j 0 ≡ get_or cells j 0 = sym (get_or-take (length cells) lanes j 0 lt)
    ∙ ap (λ xs. get_or xs j 0) c.lanes_of-lanes.ensures in
    or_bitwise.bits c.places_of.result c.places_of-2.result j (omega arith) (omega arith) (omega (arith, c.requires))
    ∙ ap₂ (λ x y. x || y) (c.places_of.ensures j (omega (arith, c.requires)) ∙ ap (λ x. eqb x 88) lane)
    (c.places_of-2.ensures j (omega (arith, c.requires)) ∙ ap (λ x. eqb x 120) lane)
