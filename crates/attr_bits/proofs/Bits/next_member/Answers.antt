use Rattle.std.proofs.Common.{w64, get_or, arith}
use Rattle.std.proofs.lemmas.Nat.Bits.{bit_at-trailing_zeros}
use Rattle.attr_bits.proofs.PlaceLemmas.{shown, width_is, word_below}
use Rattle.attr_bits.proofs.MemberLemmas.{next_in_first, next_in_word, none_before}
use Rattle.attr_bits.proofs.Bits.next_member.Goals.{then-first-reached+else-rest-ne0, else-first-reached}
use Rattle.attr_bits.proofs.Bits.next_member.Goals as goal

pub returns-then-rest-ne0 : goal.returns-then-rest-ne0
returns-then-rest-ne0 g c = next_in_first (shown c.self.invariant c.self.view_is) c.args.from c.if-rest-ne0.true

pub returns-then-self-k-ne0 : goal.returns-then-self-k-ne0
returns-then-self-k-ne0 g c = next_in_word (shown c.self.invariant c.self.view_is) c.args.from c.loop-k.k (omega arith) c.if-self-k-ne0.true
    (none_before (shown c.self.invariant c.self.view_is) c.args.from c.loop-k.k
    (λ h. elim c.if-first-reached.branch [
      | then-first-reached+else-rest-ne0 w ↦ w.if-rest-ne0.false
      | else-first-reached w ↦
          absurd (omega arith)
    ])
    c.loop-k.invariant)

pub returns : goal.returns
returns g c i low high =
    none_before (shown c.self.invariant c.self.view_is) c.args.from c.words_reached-reached.result
    (λ h. elim c.if-first-reached.branch [
      | then-first-reached+else-rest-ne0 w ↦ w.if-rest-ne0.false
      | else-first-reached w ↦
          absurd (omega arith)
    ])
    (λ j a b. c.loop-k.invariant j a (omega arith)) i low (omega (arith, c.words_reached-reached.ensures.reached))

-- ---- what is found is below the width

pub overflow_add-result : goal.overflow_add-result
overflow_add-result g c = omega (
  arith,
  (next_in_first (shown c.self.invariant c.self.view_is) c.args.from c.if-rest-ne0.true).in_range,
  width_is (shown c.self.invariant c.self.view_is),
)

pub overflow_cast-result : goal.overflow_cast-result
overflow_cast-result g c = omega (
  arith,
  width_is (shown c.self.invariant c.self.view_is),
  word_below (shown c.self.invariant c.self.view_is) c.loop-k.k c.if-self-k-ne0.true,
)

pub overflow_mul-result : goal.overflow_mul-result
overflow_mul-result g c = omega (
  arith,
  width_is (shown c.self.invariant c.self.view_is),
  word_below (shown c.self.invariant c.self.view_is) c.loop-k.k c.if-self-k-ne0.true,
)

pub overflow_add-result-then-self-k-ne0 : goal.overflow_add-result-then-self-k-ne0
overflow_add-result-then-self-k-ne0 g c =
    omega (
      arith,
      width_is (shown c.self.invariant c.self.view_is),
      word_below (shown c.self.invariant c.self.view_is) c.loop-k.k c.if-self-k-ne0.true,
      (bit_at-trailing_zeros w64 (get_or c.self.inside.words c.loop-k.k 0) (omega (arith, c.if-self-k-ne0.true))
          (c.self.invariant.small c.loop-k.k)).0,
    )
