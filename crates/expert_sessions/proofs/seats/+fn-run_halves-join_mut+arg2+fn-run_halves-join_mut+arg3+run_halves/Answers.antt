use Rattle.std.proofs.Common.{rules}
use Rattle.expert_gate.specs.Seats.{EachSeat}
use Rattle.expert_sessions.specs.Serving.{HasSat}
use Rattle.expert_gate.proofs.SeatLemmas.{EachSeat-append}
use Rattle.expert_sessions.proofs.seats.+fn-run_halves-join_mut+arg2+fn-run_halves-join_mut+arg3+run_halves.Goals as goal

pub returns : goal.returns
returns g t c =
    let front : EachSeat (HasSat g.E.Source.left g.E.Sink.held g.E.Source.reads g.E.Source.faults g.E.Sink.faults c.args.terms.now.table
    c.args.terms.now.lines) c.split_at_mut-front.result.0.now c.front-1.given.0 = search rules in
    let back : EachSeat (HasSat g.E.Source.left g.E.Sink.held g.E.Source.reads g.E.Source.faults g.E.Sink.faults c.args.terms.now.table
    c.args.terms.now.lines) c.split_at_mut-front.result.1.now c.back-1.given.0 = search rules in
    rw (c.split_at_mut-front.ensures.value) (EachSeat-append
    (HasSat g.E.Source.left g.E.Sink.held g.E.Source.reads g.E.Source.faults g.E.Sink.faults c.args.terms.now.table
    c.args.terms.now.lines)
    c.split_at_mut-front.result.0.now c.split_at_mut-front.result.1.now c.front-1.given.0 c.back-1.given.0 front back)
