use Rattle.std.proofs.Common.{◌≡◌, ◌∙◌, ◌-◌, ℕ, Option, true, length, take, drop, sym, ap}
use Rattle.std.specs.Prelude.{option_and_then, bytes_eq, codes}
use Rattle.fca_command.specs.Experts.{expert_count}
use Rattle.fca_command.specs.Flags.{serving_for}
use Rattle.fca_command.proofs.WordLemmas.{serving_of-counted}
use Rattle.fca_command.proofs.flags.serving_of.Goals as goal

pub returns-in-len2-up-clause-serving : goal.returns-in-len2-up-clause-serving
returns-in-len2-up-clause-serving c =
    let words = c.args.words.now in
    let named : bytes_eq c.flag-item.result (codes "--experts") ≡ true = sym c.is_experts_flag.ensures ∙ c.if-is_experts_flag.true in
    let counted : c.expert_count.result ≡ expert_count c.experts-item.result = c.expert_count.ensures.count
    ∙ ap expert_count c.bytes.ensures in
    c.serving_for.ensures.serving
    ∙ ap (λ (count : Option ℕ). option_and_then (serving_for (take (length words - 2) (drop 2 words))) count) counted
    ∙ serving_of-counted words c.flag-item.result c.experts-item.result c.in-len2-up.len_at_least c.flag-item.is c.experts-item.is named
