use Rattle.std.proofs.Common.{rules}
use Rattle.expert_gate.specs.Seats.{EachSeat}
use Rattle.expert_panel.specs.Seats.{HasRunSeat}
use Rattle.expert_gate.proofs.SeatLemmas.{EachSeat-append}
use Rattle.expert_panel.proofs.panel.+fn-run_halves-join_mut+arg2+fn-run_halves-join_mut+arg3+run_halves.Goals as goal

pub returns : goal.returns
returns g t c =
    let front : EachSeat (HasRunSeat g.X.Expert.width g.X.Expert.memory g.X.Expert.answers g.X.Expert.learns c.args.gate.now.base)
    c.split_at_mut-front.result.0.now c.front-1.given.0 = search rules in
    let back : EachSeat (HasRunSeat g.X.Expert.width g.X.Expert.memory g.X.Expert.answers g.X.Expert.learns c.args.gate.now.base)
    c.split_at_mut-front.result.1.now c.back-1.given.0 = search rules in
    rw (c.split_at_mut-front.ensures.value) (EachSeat-append
    (HasRunSeat g.X.Expert.width g.X.Expert.memory g.X.Expert.answers g.X.Expert.learns c.args.gate.now.base)
    c.split_at_mut-front.result.0.now c.split_at_mut-front.result.1.now c.front-1.given.0 c.back-1.given.0 front back)
