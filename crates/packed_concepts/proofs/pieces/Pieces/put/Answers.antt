use Rattle.std.proofs.Common.{◌≡◌, ◌<◌, ◌∙◌, ◌++◌, ℕ, List, [], Vec, Global, length, map, get_or, take, sym, ap, ap₂, arith}
use Rattle.std.proofs.lemmas.List.{length-map, get_or-map}
use Rattle.fca_model.specs.Tables.{Text}
use Rattle.packed_concepts.specs.Pieces.{piece_text, piece_texts}
use Rattle.packed_concepts.specs.declared.block.TextBlock.{TextBlock}
use Rattle.packed_concepts.proofs.PieceLemmas.{length-piece_texts, piece_at, moved}
use Rattle.packed_concepts.proofs.pieces.Pieces.put.Goals as goal

abbrev behind : List (Vec ℕ Global) → List Text
behind tails = map (λ v. v.items) tails

-- there are as many blocks and tails as texts
count_line : (bs : List TextBlock) (tails : List (Vec ℕ Global)) (texts : List Text) (i : ℕ) → length bs ≡ length (behind tails)
    → piece_texts bs (behind tails) ≡ texts → i < length texts
    → (i < length bs) × (i < length tails)
count_line bs tails texts i same is inside =
    let n : length texts ≡ length bs = sym (ap length is) ∙ length-piece_texts bs (behind tails) same in
    let m : length (behind tails) ≡ length tails = length-map tails (λ v. v.items) in
    (omega (arith, n, inside), omega (arith, n, m, same, inside))

tail_there : (tails : List (Vec ℕ Global)) (i : ℕ) (v : Vec ℕ Global) → i < length tails → v ≡ get_or tails i v
    → v.items ≡ get_or (behind tails) i []
tail_there tails i v inside is = ap (λ (u : Vec ℕ Global). u.items) is
    ∙ sym (get_or-map (λ (u : Vec ℕ Global). u.items) tails i v [] inside)

pub index-requires : goal.index-requires
index-requires c =
    let both = count_line c.self.inside.blocks.items c.self.inside.tails.items c.args.self.now c.args.i c.self.invariant.same c.self.view_is
    c.requires.inside in
    omega (arith, both.0, c.self.inside.blocks.ok.0)

pub index-requires-2 : goal.index-requires-2
index-requires-2 c =
    let both = count_line c.self.inside.blocks.items c.self.inside.tails.items c.args.self.now c.args.i c.self.invariant.same c.self.view_is
    c.requires.inside in
    omega (arith, both.1, c.self.inside.tails.ok.0)

pub put_piece-requires : goal.put_piece-requires
put_piece-requires c =
    let bs : List TextBlock = c.self.inside.blocks.items in
    let tails : List (Vec ℕ Global) = c.self.inside.tails.items in
    let b : TextBlock = c.index.result.now in
    let v : Vec ℕ Global = c.index-2.result.now in
    let both = count_line bs tails c.args.self.now c.args.i c.self.invariant.same c.self.view_is c.requires.inside in
    record {
      piece = moved (get_or bs c.args.i b) b (get_or (behind tails) c.args.i []) v.items c.index.ensures
          (tail_there tails c.args.i v both.1 c.index-2.ensures) (c.self.invariant.each c.args.i b both.0);
      room = c.requires.room;
    }

pub returns-clause-text : goal.returns-clause-text
returns-clause-text c =
    let bs : List TextBlock = c.self.inside.blocks.items in
    let tails : List (Vec ℕ Global) = c.self.inside.tails.items in
    let b : TextBlock = c.index.result.now in
    let v : Vec ℕ Global = c.index-2.result.now in
    let both = count_line bs tails c.args.self.now c.args.i c.self.invariant.same c.self.view_is c.requires.inside in
    c.put_piece.ensures.text
    ∙ ap (λ z. take c.args.start c.args.text.now ++ z)
    (ap₂ piece_text c.index.ensures (tail_there tails c.args.i v both.1 c.index-2.ensures)
    ∙ sym (piece_at bs (behind tails) c.args.i b c.self.invariant.same both.0)
    ∙ ap (λ (xs : List Text). get_or xs c.args.i []) c.self.view_is)
