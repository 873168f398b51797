use Rattle.std.proofs.Common.{◌≡◌, ◌++◌, [], take, sym, ap, ◌∙◌, append_assoc}
use Rattle.std.proofs.lemmas.List.{append-nil}
use Rattle.packed_concepts.proofs.pieces.put_piece.Goals as goal

pub returns-then-block-lt-BLOCK_BYTES-clause-text : goal.returns-then-block-lt-BLOCK_BYTES-clause-text
returns-then-block-lt-BLOCK_BYTES-clause-text c =
    let b = c.args.block.now in
    let none : c.args.tail.now.items ≡ [] = c.requires.piece.alone c.if-block-lt-BLOCK_BYTES.true in
    c.put_block-end.ensures.text
    ∙ ap (λ z. take c.args.start c.args.text.now ++ z)
    (sym (append-nil (take b.filled b.bytes)) ∙ ap (λ z. take b.filled b.bytes ++ z) (sym none))

pub returns-clause-text : goal.returns-clause-text
returns-clause-text c =
    let b = c.args.block.now in
    c.put_bytes.ensures.text
    ∙ ap (λ z. z ++ c.deref.result.now) c.put_block-end.ensures.text
    ∙ append_assoc (take c.args.start c.args.text.now) (take b.filled b.bytes) c.deref.result.now
    ∙ ap (λ z. take c.args.start c.args.text.now ++ (take b.filled b.bytes ++ z)) c.deref.ensures.value
