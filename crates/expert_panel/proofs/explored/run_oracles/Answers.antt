use Rattle.std.proofs.Common.{◌≡◌, ◌∙◌, ◌++◌, sym, ap, subst, map, length, take, drop, arith, All, List}
use Rattle.std.specs.List.{list_any}
use Rattle.expert_gate.specs.Turns.{HasClosed}
use Rattle.turn_lock.specs.Passes.{Belongs, badge}
use Rattle.turn_lock.proofs.ClosingLemmas.{roll-belongs, length-roll}
use Rattle.oracle_expert.specs.Oracles.{Recall}
use Rattle.expert_panel.specs.declared.seat.Seat.{Seat}
use Rattle.expert_panel.specs.Seats.{IsSeatOf}
use Rattle.expert_panel.specs.Explorations.{ended_spent, is_out_of_memory}
use Rattle.expert_panel.proofs.ShareLemmas.{passes, experts}
use Rattle.expert_panel.proofs.EndingLemmas.{written_back, seats_of, badges_kept, ended}
use Rattle.expert_panel.proofs.explored.run_oracles.Goals as goal

pub seat_experts-requires : goal.seat_experts-requires
seat_experts-requires g c =
    let many = length-roll c.args.gate c.args.passes.items c.requires.some c.requires.passes in
    let all = c.requires.oracles in
    omega arith

pub run_panel-requires-after_bounds : goal.run_panel-requires-after_bounds
run_panel-requires-after_bounds g c κs within =
    let some = c.requires.some in
    let belong : All (Belongs c.args.gate) c.args.passes.items =
    roll-belongs c.args.gate c.args.passes.items (omega arith) c.requires.passes in
    subst (All (IsSeatOf (λ (r : Recall). r.table.context.width) c.args.gate)) (sym c.as_mut_slice.ensures.value)
    (seats_of (λ (r : Recall). r.table.context.width) c.args.gate c.in_ok-seats.seats.items
    (subst (All (Belongs c.args.gate)) (sym c.in_ok-seats.ensures.passes) belong)
    (subst (All (λ (r : Recall). r.table.context.width ≡ c.args.gate.base.table.context.width))
    (sym c.in_ok-seats.ensures.experts) c.requires.width))

pub close-requires : goal.close-requires
close-requires g c =
    let news : List (Seat Recall) = c.run_panel.new.seats in
    let kept = c.run_panel.auto.seats in
    let was = c.as_mut_slice.ensures.len in
    let len : c.in_ok-seats.seats.len ≡ length news = omega arith in
    let back : take c.in_ok-seats.seats.len (news ++ drop (length news) c.in_ok-seats.seats.items) ≡ news =
    written_back c.in_ok-seats.seats.len news (drop (length news) c.in_ok-seats.seats.items) len in
    record {
      passes = ap (map badge) (c.in_ok-passes.ensures.passes ∙ ap passes back)
          ∙ badges_kept c.args.gate.base c.as_mut_slice.result.now news c.run_panel.ensures
          ∙ ap (λ (seats : List (Seat Recall)). map badge (passes seats)) c.as_mut_slice.ensures.value
          ∙ ap (map badge) c.in_ok-seats.ensures.passes ∙ c.requires.passes;
    }

pub returns : goal.returns
returns g c =
    let news : List (Seat Recall) = c.run_panel.new.seats in
    let kept = c.run_panel.auto.seats in
    let was = c.as_mut_slice.ensures.len in
    let all = c.requires.oracles in
    let count : length c.args.oracles.items ≡ c.args.gate.passes = omega arith in
    let len : c.in_ok-seats.seats.len ≡ length news = omega arith in
    let back : take c.in_ok-seats.seats.len (news ++ drop (length news) c.in_ok-seats.seats.items) ≡ news =
    written_back c.in_ok-seats.seats.len news (drop (length news) c.in_ok-seats.seats.items) len in
    ended c.args.gate c.args.passes.items c.args.oracles.items c.as_mut_slice.result.now news c.close.result
    (subst (HasClosed c.args.gate.base c.close.result.journal) (c.in_ok-passes.ensures.passes ∙ ap passes back) c.close.ensures.entries)
    c.requires.some c.requires.passes c.requires.fresh count c.requires.no_row_dropped
    (ap passes c.as_mut_slice.ensures.value ∙ c.in_ok-seats.ensures.passes)
    (ap experts c.as_mut_slice.ensures.value ∙ c.in_ok-seats.ensures.experts) c.run_panel.ensures
    (sym (c.any_out_of_memory.ensures ∙ ap (list_any (λ (seat : Seat Recall). is_out_of_memory seat.ended)) (c.deref.ensures.value ∙ back))
    ∙ c.if-any_out_of_memory.false)
    c.requires.known c.close.ensures.opening c.in_ok-passes.oracles.items c.any_spent-spent.result
    (c.in_ok-passes.ensures.experts ∙ ap experts back)
    (c.any_spent-spent.ensures ∙ ap (list_any (λ (seat : Seat Recall). ended_spent seat.ended)) (c.deref-2.ensures.value ∙ back))
