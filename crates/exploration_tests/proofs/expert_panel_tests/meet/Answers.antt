use Rattle.std.proofs.Common.{◌≡◌, ◌∙◌, ℕ, All, sym, ap, subst}
use Rattle.explore_state.specs.History.{Opening}
use Rattle.turn_lock.specs.Passes.{Belongs}
use Rattle.exploration_tests.specs.declared.expert_panel_tests.Meeting.{Meeting}
use Rattle.expert_panel.specs.Seats.{IsSeatOf}
use Rattle.expert_panel.proofs.EndingLemmas.{seats_of}
use Rattle.exploration_tests.proofs.expert_panel_tests.meet.Goals as goal

abbrev two : Meeting → ℕ
two meeting = 2

pub run_panel-requires-after_bounds : goal.run_panel-requires-after_bounds
run_panel-requires-after_bounds g c κs within =
    let gate = c.in_ok-gate.gate in
    let wide : 2 ≡ gate.base.table.context.width =
    sym (ap (λ (o : Opening). o.table.context.width) c.in_ok-gate.ensures.opening ∙ c.in_ok-opened.ensures.width) in
    subst (All (IsSeatOf two gate)) (sym c.as_mut_slice.ensures.value)
    (seats_of two gate c.in_ok-seats.seats.items (subst (All (Belongs gate)) (sym c.in_ok-seats.ensures.passes) c.in_ok-gate.ensures.belong)
    (λ k d h. wide))
