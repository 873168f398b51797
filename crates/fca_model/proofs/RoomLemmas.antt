-- A step has less room after it tried an attribute, and this is so even together with the room of a step at a later attribute.
use Rattle.std.proofs.Common.{◌≡◌, ◌<◌, ◌≤◌, ◌+◌, ◌*◌, ◌-◌, ◌^◌, ℕ, suc, ap, ◌∙◌, arith, pow_mono, pow_pos, pow-suc}
use Rattle.std.proofs.Math.Pow.{pow-lt}
use Rattle.fca_model.specs.StepBounds.{steps_bound}

-- the first `end` was replaced by an earlier one
pub room_less : (n from i end : ℕ) → from ≤ i → i < end → end ≤ n → steps_bound n from i < steps_bound n from end
room_less n from i end low less inside =
    let falls : 2 ^ (n - end) < 2 ^ (n - i) = pow-lt (omega arith) in
    let most : 2 ^ (n - i) ≤ 2 ^ (n - from) = pow_mono (omega arith) in
    omega arith

-- and a step was begun behind the attribute that was tried
pub room_below : (n from i end far : ℕ) → from ≤ i → i < end → end ≤ n → steps_bound n from i + steps_bound n (i + 1) far < steps_bound n from end
room_below n from i end far low less inside =
    let most : 2 ^ (n - i) ≤ 2 ^ (n - from) = pow_mono (omega arith) in
    let falls : 2 ^ (n - end) ≤ 2 ^ (n - (i + 1)) = pow_mono (omega arith) in
    let next : n - i ≡ suc (n - (i + 1)) = omega arith in
    let double : 2 ^ (n - i) ≡ 2 ^ (n - (i + 1)) * 2 = ap (λ k. 2 ^ k) next ∙ pow-suc 2 (n - (i + 1)) in
    omega (arith, pow_pos (n - far), pow_pos (n - (i + 1)))
