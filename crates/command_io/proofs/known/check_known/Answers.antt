use Rattle.std.proofs.Common.{◌≡◌, ◌∙◌, ℕ, Some, refl, sym, ap}
use Rattle.fca_model.specs.Context.{Context}
use Rattle.explore_state.specs.Faults.{first_break}
use Rattle.command_io.proofs.known.check_known.Goals as goal

pub returns-in-Some-clause-broken : goal.returns-in-Some-clause-broken
returns-in-Some-clause-broken c =
    let found : ℕ × ℕ = (c.in-Some.row, c.in-Some.index) in
    let rows = c.as_slice.ensures.rows ∙ ap (λ (K : Context). K.rows) c.rows.ensures.rows in
    let same : first_break c.args.known.now.members 0 c.args.table.now.context.rows ≡ Some found =
    ap (first_break c.args.known.now.members 0) (sym rows) ∙ sym c.first_break.ensures ∙ c.in-Some.is in
    (found, same, refl)
