use Rattle.std.proofs.Common.{rules, ◌≡◌, ◌<◌, ◌+◌, ◌*◌, ◌^◌, ℕ, List, min, subst, length, arith}
use Rattle.text_pieces.proofs.MarkLemmas.{CrossedTo, CrossedTo-block, CrossedTo-all}
use Rattle.text_pieces.proofs.marks.set_of_marks.Goals as goal

pub loop-block-preserved : goal.loop-block-preserved
loop-block-preserved c =
    let cells : List ℕ = c.args.cells.now in
    let from : ℕ = 64 * c.loop-block.block in
    let end : ℕ = c.min-end.result in
    let start : min (length cells) from ≡ from = omega arith in
    let small : c.crosses_of.result < 2 ^ 64 = search rules in
    let last : end ≡ min (length cells) (from + 64) = omega (arith, c.min-end.ensures) in
    let next : end ≡ min (length cells) (64 * (c.loop-block.block + 1)) = omega arith in
    subst (CrossedTo cells c.insert_bits.new.self) next
    (CrossedTo-block from end c.crosses_of.result cells c.loop-block.set c.insert_bits.new.self
    (subst (CrossedTo cells c.loop-block.set) start c.loop-block.invariant) (omega arith) last
    c.crosses_of.ensures small c.insert_bits.ensures.width c.insert_bits.ensures.members)

pub returns : goal.returns
returns c =
    let cells : List ℕ = c.args.cells.now in
    let all : min (length cells) (64 * c.loop-block.block) ≡ length cells = omega arith in
    CrossedTo-all cells c.loop-block.set (subst (CrossedTo cells c.loop-block.set) all c.loop-block.invariant)
