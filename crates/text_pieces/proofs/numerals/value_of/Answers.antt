use Rattle.std.proofs.Common.{◌≡◌, ◌∙◌, ◌≤◌, ◌<◌, ◌+◌, ◌*◌, ◌-◌, ◌^◌, ℕ, length, get_or, take, sym, ap, subst, arith}
use Rattle.std.proofs.lemmas.List.{take_all}
use Rattle.text_pieces.specs.Numerals.{value_of, in_64_bits}
use Rattle.text_pieces.proofs.NumeralLemmas.{in_64_bits-past, in_64_bits-fits, in_64_bits-none}
use Rattle.text_pieces.proofs.numerals.value_of.Goals as goal

pub returns-in_err-value : goal.returns-in_err-value
returns-in_err-value c =
    let digits = c.args.digits.now in
    let i = c.loop-digit.digit-index in
    let inside : i < length digits = omega arith in
    let past : 2 ^ 64 ≤ c.loop-digit.value * 10 + (get_or digits i 0 - 48) =
    in_64_bits-none _ (sym c.with_digit.ensures ∙ c.in_err-value.was) in
    let IsPast : ℕ → Type 0 = λ n. 2 ^ 64 ≤ n * 10 + (get_or digits i 0 - 48) in
    c.from_residual.ensures ∙ sym (in_64_bits-past digits i 0 inside (subst IsPast c.loop-digit.invariant.0 past))

pub returns : goal.returns
returns c =
    let digits = c.args.digits.now in
    let all : value_of (take c.loop-digit.digit-index digits) ≡ value_of digits =
    ap value_of (take_all c.loop-digit.digit-index digits (let past = c.loop-digit-test.false in omega arith)) in
    sym (in_64_bits-fits c.loop-digit.value c.loop-digit.invariant.1) ∙ ap in_64_bits (c.loop-digit.invariant.0 ∙ all)
