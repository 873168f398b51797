use Rattle.std.proofs.Common.{◌≡◌, ◌+◌, ◌-◌, ◌≤◌, ◌++◌, ℕ, List, take, drop, length, sym, ap, ◌∙◌, arith}
use Rattle.std.proofs.Math.Seq.{take-append-add}
use Rattle.std.proofs.lemmas.List.{take-take, length-take, length-take-le, length-drop}
use Rattle.std.proofs.lemmas.Slice.{take-put_mid}
use borrow.Rule.Slice.PartMut.{put_mid}
use Rattle.packed_concepts.proofs.block.put_block.Goals as goal

-- the block was put down whole, and counts as far as it is filled
block_put : (text new bytes : List ℕ) (start filled k : ℕ) → new ≡ bytes → length new ≡ 16 → start + 16 ≤ length text → filled ≤ 16
    → take (start + filled) (put_mid start k text new) ≡ take start text ++ take filled bytes
block_put text new bytes start filled k is long inside block =
    let whole : take (start + 16) (put_mid start k text new) ≡ take start text ++ new =
    take-put_mid start k text new (start + 16) (omega (arith, long)) (omega (arith, inside)) in
    sym (take-take (start + filled) (start + 16) (put_mid start k text new) (omega (arith, block)))
    ∙ ap (take (start + filled)) (whole ∙ ap (λ z. take start text ++ z) is)
    ∙ ap (λ n. take (n + filled) (take start text ++ bytes)) (sym (length-take-le start text (omega (arith, inside))))
    ∙ take-append-add (take start text) bytes filled

pub returns-clause-text : goal.returns-clause-text
returns-clause-text c =
    let b = c.args.block.now in
    let long : length c.copy_from_slice.new.self ≡ 16 =
    omega (
      arith,
      c.copy_from_slice.ensures.len,
      length-take (c.args.start + 16 - c.args.start) (drop c.args.start c.args.text.now),
      length-drop c.args.start c.args.text.now,
      c.requires.room,
    ) in
    block_put c.args.text.now c.copy_from_slice.new.self b.bytes c.args.start b.filled
    (c.args.start + 16 - c.args.start) c.copy_from_slice.ensures.after long (omega (arith, c.requires.room)) c.requires.filled
