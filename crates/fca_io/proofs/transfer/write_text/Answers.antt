use Rattle.std.proofs.Common.{rules, arith, ◌<◌, ◌++◌, ◌∙◌, take, length, ap, refl}
use Rattle.std.specs.Option.{option_map}
use Rattle.std.proofs.KnownBytes.{Appends-trans}
use Rattle.fca_io.proofs.Streams.{split-front, not-empty, part-uncounted, whole-counted}
use Rattle.fca_io.specs.Faults.{one_more}
use Rattle.fca_io.proofs.transfer.write_text.Goals as goal

-- what was written joins the front, and what is left of the rest is the rest
pub loop-rest-preserved : goal.loop-rest-preserved
loop-rest-preserved g c =
    let loop = c.loop-rest.invariant in
    let rest = c.loop-rest.rest.now in
    let count = c.in_ok-count.count in
    let front = loop.moved.0 in
    let some : 0 < length rest = omega (arith, c.in_ok-count.ensures.some, c.in_ok-count.ensures.bound) in record {
      moved = (
        front ++ take count rest,
        split-front _ front rest count _ loop.moved.1 refl c.in_ok-count.ensures.bound,
        Appends-trans _ _ _ _ _ loop.moved.2 c.in_ok-count.ensures.bytes,
      );
      none = not-empty _ front rest loop.moved.1 some;
      in_part = λ more. part-uncounted rest count _ _ _ more c.in_ok-count.ensures.counted ∙ loop.in_part some;
      at_once = λ _ done. whole-counted rest count _ _ _ refl c.in_ok-count.ensures.bound done c.in_ok-count.ensures.counted
          ∙ ap (option_map one_more) (loop.in_part some);
      settled = search rules;
    }
