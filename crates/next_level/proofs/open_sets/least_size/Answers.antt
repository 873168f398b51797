use Rattle.std.proofs.Common.{◌≡◌, ◌≤◌, ◌⊎◌, inl, inr, arith}
use Rattle.std.proofs.lemmas.Bool.{cases_lt}
use Rattle.next_level.proofs.SizeLemmas.{least_more}
use Rattle.next_level.proofs.open_sets.least_size.Goals as goal

pub loop-member-preserved : goal.loop-member-preserved
loop-member-preserved g c =
    let k = c.loop-member.least in
    let s = c.size.result in
    let r = c.min-least.result in
    let below : r ≤ k = omega (arith, c.min-least.ensures) in
    let too : r ≤ s = omega (arith, c.min-least.ensures) in
    let one : (r ≡ k) ⊎ (r ≡ s) = elim (cases_lt k s)
    [ inl lt ↦ inl (omega (arith, c.min-least.ensures, lt)) | inr ge ↦ inr (omega (arith, c.min-least.ensures, ge)) ] in
    least_more c.args.past k s r c.args.members.now c.loop-member.member-index c.member-item.result c.loop-member-test.true c.member-item.is
    c.size.ensures.size below too one c.loop-member.invariant
