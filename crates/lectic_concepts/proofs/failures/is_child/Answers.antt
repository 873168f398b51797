use Rattle.std.proofs.Common.{Some, nat_eq, ap, ◌∙◌}
use Rattle.std.specs.Option.{option_eq}
use Rattle.lectic_concepts.proofs.FailureLemmas.{child_if}
use Rattle.lectic_concepts.proofs.failures.is_child.Goals as goal

pub returns : goal.returns
returns g c =
    child_if c.args.rows.now c.args.a.now c.args.i c.requires.lacks c.requires.wide c.requires.inside c.args.closed.now c.requires.closed
    c.eq.result
    (c.eq.ensures ∙ ap (λ o. option_eq nat_eq o (Some c.args.i)) c.first_missing.ensures)
