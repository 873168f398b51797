use Rattle.std.proofs.Common.{◌+◌, ◌-◌, length, drop, arith}
use Rattle.std.proofs.lemmas.List.{length-take, length-drop}
use Rattle.std.proofs.lemmas.Slice.{drop-put_mid}
use Rattle.packed_concepts.proofs.pieces.put_bytes.Goals as goal

pub returns-clause-rest : goal.returns-clause-rest
returns-clause-rest c =
    let len = length c.args.bytes.now in
    let mid = length-take (c.args.start + len - c.args.start) (drop c.args.start c.args.text.now) in
    let rest = length-drop c.args.start c.args.text.now in
    drop-put_mid c.args.start (c.args.start + len - c.args.start) c.args.text.now c.copy_from_slice.new.self (c.args.start + len)
    (omega arith) (omega (arith, c.requires))
    (omega (arith, c.copy_from_slice.ensures.len, mid, rest, c.requires))
