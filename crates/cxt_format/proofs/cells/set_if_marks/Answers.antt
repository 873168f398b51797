use Rattle.std.proofs.Common.{rules, ◌≡◌, ◌<◌, ◌+◌, ◌-◌, ◌*◌, ◌^◌, ℕ, List, min, subst, refl, length, arith}
use Rattle.cxt_format.proofs.CellLemmas.{ReadTo, ReadTo-block, ReadTo-all, crosses_if_marks-None, cond-None}
use Rattle.cxt_format.proofs.cells.set_if_marks.Goals as goal

pub loop-block-preserved : goal.loop-block-preserved
loop-block-preserved g c =
    let cells : List ℕ = c.args.cells.now in
    let from : ℕ = 64 * c.loop-block.block in
    let end : ℕ = c.min-end.result in
    let bits : ℕ = c.in_ok-crosses_if_marks.field-0 in
    let start : min (length cells) from ≡ from = omega arith in
    let small : bits < 2 ^ 64 = search rules in
    let last : end ≡ min (length cells) (from + 64) = omega (arith, c.min-end.ensures) in
    let next : end ≡ min (length cells) (64 * (c.loop-block.block + 1)) = omega arith in
    subst (ReadTo cells c.insert_bits.new.self) next
    (ReadTo-block from end bits cells c.loop-block.set c.insert_bits.new.self
    (subst (ReadTo cells c.loop-block.set) start c.loop-block.invariant) (omega arith) last
    c.in_ok-crosses_if_marks.ensures small c.insert_bits.ensures.width c.insert_bits.ensures.members)

pub returns : goal.returns
returns g c =
    let cells : List ℕ = c.args.cells.now in
    let all : min (length cells) (64 * c.loop-block.block) ≡ length cells = omega arith in
    let read = ReadTo-all cells c.loop-block.set (subst (ReadTo cells c.loop-block.set) all c.loop-block.invariant) in
    rw (read.0, read.1) refl

pub returns-in_err-crosses_if_marks : goal.returns-in_err-crosses_if_marks
returns-in_err-crosses_if_marks g c =
    let from : ℕ = 64 * c.loop-block.block in
    let told = crosses_if_marks-None c.args.cells.now from (c.min-end.result - from) c.in_err-crosses_if_marks.ensures in
    rw (cond-None _ _ told) c.from_residual.ensures
