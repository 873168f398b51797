use Rattle.std.proofs.Common.{ℕ, suc, ◌+◌, ◌*◌, length, ap, ◌∙◌, arith}
use Rattle.pseudo_levels.proofs.IndexLemmas.{meets_pair}
use Rattle.pseudo_levels.proofs.member_index.bucket_of.Goals as goal

pub returns-in-Some-next_member-clause-met : goal.returns-in-Some-next_member-clause-met
returns-in-Some-next_member-clause-met c =
    let a : ℕ = c.in-Some.first in
    let b : ℕ = c.in-Some-next_member.second in
    meets_pair (length c.args.premise.now) a b c.bucket_of_pair.result c.args.premise.now
    (c.bucket_of_pair.ensures ∙ ap (λ n. suc (a * n + b)) c.width-width.ensures.width)
    (omega (arith, c.in-Some-next_member.ensures.at_least)) c.in-Some-next_member.ensures.in_range c.in-Some.ensures.member
    c.in-Some-next_member.ensures.member

pub returns-in-None-clause-met : goal.returns-in-None-clause-met
returns-in-None-clause-met c =
    let a : ℕ = c.in-Some.first in
    meets_pair (length c.args.premise.now) a a c.bucket_of_pair-in-None.result c.args.premise.now
    (c.bucket_of_pair-in-None.ensures ∙ ap (λ n. suc (a * n + a)) c.width-width.ensures.width)
    (omega arith) c.in-Some.ensures.in_range c.in-Some.ensures.member c.in-Some.ensures.member
