use Rattle.std.proofs.Common.{◌≡◌, ◌∙◌, List, length, map, sym, ap, arith}
use Rattle.fca_model.specs.Tables.{Text}
use Rattle.packed_concepts.proofs.PieceLemmas.{length-piece_texts}
use Rattle.packed_concepts.proofs.pieces.Pieces.len.Goals as goal

pub returns : goal.returns
returns c =
    let n = length-piece_texts c.self.inside.blocks.items (map (λ v. v.items) c.self.inside.tails.items) c.self.invariant.same in
    let all : length c.args.self.now ≡ length c.self.inside.blocks.items = ap (λ (xs : List Text). length xs) (sym c.self.view_is) ∙ n in
    omega (arith, all, c.len.ensures, c.self.inside.blocks.ok.0)
