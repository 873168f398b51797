use Rattle.std.proofs.Common.{◌≡◌, ◌≤◌, ◌<◌, ◌⊎◌, map, inl, inr, refl, sym, subst, arith}
use Rattle.std.specs.Prelude.{All}
use Rattle.turn_lock.specs.Passes.{Belongs, IsFresh}
use Rattle.turn_lock.proofs.ClosingLemmas.{roll-belongs, length-roll}
use Rattle.expert_sessions.proofs.ServingLemmas.{length-news, roll_kept, seats_ready, talks_told, others_told}
use Rattle.expert_sessions.proofs.serving.serve_ends.Goals as goal

pub fill_seats-seats-requires-clause-many : goal.fill_seats-seats-requires-clause-many
fill_seats-seats-requires-clause-many g c =
    let counts = c.in-Ok.ensures.counts in
    let some : 1 ≤ c.in-Ok.hall.gate.passes = c.in-Ok.ensures.some in
    let many = length-roll c.in-Ok.hall.gate c.in-Ok.hall.passes.items some c.in-Ok.ensures.passes in
    omega arith

pub run_seats-requires-clause-ready : goal.run_seats-requires-clause-ready
run_seats-requires-clause-ready g c κs within =
    let counts = c.in-Ok.ensures.counts in
    let some : 1 ≤ c.in-Ok.hall.gate.passes = c.in-Ok.ensures.some in
    let belong : All (Belongs c.in-Ok.hall.gate) c.in-Ok.hall.passes.items =
    roll-belongs c.in-Ok.hall.gate c.in-Ok.hall.passes.items (omega arith) c.in-Ok.ensures.passes in
    seats_ready g.E.Source.left g.E.Sink.held g.E.Source.reads g.E.Source.faults g.E.Sink.faults c.in-Ok.hall.terms.table
    c.in-Ok.hall.terms.lines c.in-Ok.hall.gate c.fill_seats-seats.result.items
    (subst (All (Belongs c.in-Ok.hall.gate)) (sym c.fill_seats-seats.ensures.passes) belong)
    (subst (All IsFresh) (sym c.fill_seats-seats.ensures.passes) c.in-Ok.ensures.fresh)

pub split_into-passes-requires-clause-room : goal.split_into-passes-requires-clause-room
split_into-passes-requires-clause-room g c =
    let counts = c.in-Ok.ensures.counts in
    let some : 1 ≤ c.in-Ok.hall.gate.passes = c.in-Ok.ensures.some in
    let many = length-news g.E.Source.left g.E.Sink.held g.E.Source.reads g.E.Source.faults g.E.Sink.faults c.args.explore.opening.table
    c.in-Ok.hall.terms.table c.args.lines c.in-Ok.hall.terms.lines c.in-Ok.hall.gate c.in-Ok.hall.passes.items
    (map (λ seat. seat.pass) c.run_seats.new.seats.items)
    c.fill_seats-seats.result.items c.run_seats.new.seats.items some c.in-Ok.ensures.passes c.fill_seats-seats.ensures.passes refl
    c.run_seats.ensures in
    let room = c.in-Ok.ensures.room in
    let passes = room.passes in
    let ends = room.ends in
    let ended = room.ended in
    (omega arith, omega arith, omega arith)

pub close-requires : goal.close-requires
close-requires g c =
    let counts = c.in-Ok.ensures.counts in
    let some : 1 ≤ c.in-Ok.hall.gate.passes = c.in-Ok.ensures.some in
    record {
      passes = roll_kept g.E.Source.left g.E.Sink.held g.E.Source.reads g.E.Source.faults g.E.Sink.faults c.args.explore.opening.table
          c.in-Ok.hall.terms.table c.args.lines c.in-Ok.hall.terms.lines c.in-Ok.hall.gate c.in-Ok.hall.passes.items
          c.split_into-passes.result.0.items
          c.fill_seats-seats.result.items c.run_seats.new.seats.items some c.in-Ok.ensures.passes c.fill_seats-seats.ensures.passes
          c.split_into-passes.ensures.passes c.run_seats.ensures;
    }

pub returns-clause-talks : goal.returns-clause-talks
returns-clause-talks g c =
    let counts = c.in-Ok.ensures.counts in
    let some : 1 ≤ c.in-Ok.hall.gate.passes = c.in-Ok.ensures.some in
    talks_told g.E.Source.left g.E.Sink.held g.E.Source.reads g.E.Source.faults g.E.Sink.faults c.args.explore.opening.table
    c.in-Ok.hall.terms.table c.args.lines c.in-Ok.hall.terms.lines c.in-Ok.hall.gate c.in-Ok.hall.passes.items
    c.split_into-passes.result.0.items
    c.fill_seats-seats.result.items c.run_seats.new.seats.items some c.in-Ok.ensures.passes c.fill_seats-seats.ensures.passes
    c.split_into-passes.ensures.passes c.run_seats.ensures
    c.close.result.journal c.close.ensures.entries c.args.ends.items c.split_into-passes.result.1.items c.split_into-passes.result.2.items
    c.in-Ok.ensures.terms.0 c.in-Ok.ensures.terms.1 c.fill_seats-seats.ensures.ends c.split_into-passes.ensures.ends
    c.split_into-passes.ensures.ended

pub returns-clause-others : goal.returns-clause-others
returns-clause-others g c = λ e h.
    let counts = c.in-Ok.ensures.counts in
    let some : 1 ≤ c.in-Ok.hall.gate.passes = c.in-Ok.ensures.some in
    others_told g.E.Source.left g.E.Sink.held g.E.Source.reads g.E.Source.faults g.E.Sink.faults c.args.explore.opening.table
    c.in-Ok.hall.terms.table c.args.lines c.in-Ok.hall.terms.lines c.in-Ok.hall.gate c.in-Ok.hall.passes.items
    c.split_into-passes.result.0.items
    c.fill_seats-seats.result.items c.run_seats.new.seats.items some c.in-Ok.ensures.passes c.fill_seats-seats.ensures.passes
    c.split_into-passes.ensures.passes c.run_seats.ensures
    c.close.result.journal c.close.ensures.entries e
    (elim h as (λ _. (e ≡ 0) ⊎ (c.in-Ok.hall.gate.passes < e)) [ inl none ↦ inl none | inr more ↦ inr (omega arith) ])

pub run_seats-requires-clause-terms : goal.run_seats-requires-clause-terms
run_seats-requires-clause-terms g c κs within = record {
  width = let table = c.in-Ok.ensures.terms.0 in let base = c.in-Ok.ensures.base in cc;
  turns = let lines = c.in-Ok.ensures.terms.1 in let counts = c.in-Ok.ensures.counts.0 in let most = c.requires.turns.0 in omega arith;
}
