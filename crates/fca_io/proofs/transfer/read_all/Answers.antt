use Rattle.std.proofs.Common.{arith, ◌++◌, take, refl}
use Rattle.std.proofs.KnownBytes.{Consumes-trans}
use Rattle.fca_io.proofs.Streams.{length-joined, memory-not-long}
use Rattle.fca_io.proofs.transfer.read_all.Goals as goal

-- with the chunk there are more than the limit
pub returns-then-count-limit-clause-taken : goal.returns-then-count-limit-clause-taken
returns-then-count-limit-clause-taken g c =
    let moved = take c.in_ok-count.count c.read.new.into in
    let total = length-joined c.loop-bytes.bytes.items moved c.loop-bytes.bytes.len c.in_ok-count.count
    c.loop-bytes.bytes.ok.0 c.in_ok-count.ensures.bound.1 in
    record {
      bytes = c.loop-bytes.bytes.items ++ moved;
      gone = Consumes-trans _ _ _ _ _ c.loop-bytes.invariant.1 c.in_ok-count.ensures.bytes.0;
      long = (λ _. omega arith, λ _. refl);
    }

-- with the chunk, for which there was no memory, there are no more than the limit
pub returns-in_err-extend_from_slice-clause-taken : goal.returns-in_err-extend_from_slice-clause-taken
returns-in_err-extend_from_slice-clause-taken g c =
    let moved = take c.in_ok-count.count c.read.new.into in
    let total = length-joined c.loop-bytes.bytes.items moved c.loop-bytes.bytes.len c.in_ok-count.count
    c.loop-bytes.bytes.ok.0 c.in_ok-count.ensures.bound.1 in
    record {
      bytes = c.loop-bytes.bytes.items ++ moved;
      gone = Consumes-trans _ _ _ _ _ c.loop-bytes.invariant.1 c.in_ok-count.ensures.bytes.0;
      long = (λ long. absurd (memory-not-long _ c.from_residual-in_err-extend_from_slice.ensures.1 long), λ more. absurd (omega arith));
    }
