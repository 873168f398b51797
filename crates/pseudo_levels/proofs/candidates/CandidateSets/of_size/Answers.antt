use Rattle.std.proofs.Common.{◌≡◌, ◌∙◌, ap, filter, ◌==◌, arith}
use Rattle.std.proofs.lemmas.Result.{IfOk-weaker}
use Rattle.fca_model.specs.Sets.{Set, size}
use Rattle.pseudo_levels.proofs.BySizeLemmas.{sets_at, sets_past}
use Rattle.pseudo_levels.proofs.candidates.CandidateSets.of_size.Goals as goal

pub returns-then-place-len-clause-sets : goal.returns-then-place-len-clause-sets
returns-then-place-len-clause-sets c =
    IfOk-weaker c.in_order.result (λ all. all.items ≡ c.index.result.now.keys)
    (λ sets. sets.items ≡ filter (λ X. size X == c.args.k) c.args.self.now)
    (λ all is. is ∙ sets_at (λ sets. sets.keys) c.self.inside.by_size.items c.args.k c.index.result.now c.self.invariant
    (omega arith) c.index.ensures ∙ ap (filter (λ (X : Set). size X == c.args.k)) c.self.view_is)
    c.in_order.ensures.sets

pub returns-else-place-len-clause-sets : goal.returns-else-place-len-clause-sets
returns-else-place-len-clause-sets c =
    c.new.ensures.items ∙ sets_past (λ sets. sets.keys) c.self.inside.by_size.items c.args.k c.self.invariant (omega arith)
    ∙ ap (filter (λ (X : Set). size X == c.args.k)) c.self.view_is
