use Rattle.std.proofs.Common.{◌≡◌, ◌∙◌, ap, sym, cond, Some, None}
use Rattle.fca_model.specs.Exploration.{is_expert}
use Rattle.text_pieces.specs.Numerals.{value_of, in_64_bits}
use Rattle.text_pieces.proofs.NumeralLemmas.{in_64_bits-some, in_64_bits-none}
use Rattle.expert_wire.proofs.WordLemmas.{no_expert}
use Rattle.expert_wire.proofs.words.expert_number.Goals as goal

pub returns-in-Some : goal.returns-in-Some
returns-in-Some c =
    let digits = c.args.digits.now in
    let small : in_64_bits (value_of digits) ≡ Some c.in-Some.number =
    ap (λ bytes. in_64_bits (value_of bytes)) (sym c.as_bytes.ensures.value) ∙ sym c.value_of.ensures ∙ c.in-Some.is in
    c.as_expert.ensures ∙ ap (λ x. cond (is_expert x) (Some x) None) (in_64_bits-some (value_of digits) c.in-Some.number small)

pub returns-in-None : goal.returns-in-None
returns-in-None c =
    let digits = c.args.digits.now in
    let large : in_64_bits (value_of digits) ≡ None = ap (λ bytes. in_64_bits (value_of bytes)) (sym c.as_bytes.ensures.value)
    ∙ sym c.value_of.ensures ∙ c.in-None.is in
    no_expert (value_of digits) (in_64_bits-none (value_of digits) large)
