use Rattle.std.proofs.Common.{◌∙◌, ◌+◌, refl, arith}
use Rattle.std.proofs.lemmas.Result.{err_from_is_err_and}
use Rattle.expert_wire.proofs.WriteLemmas.{Underway-start, Underway-equal, Underway-more, Underway-fault}
use Rattle.packed_concepts.proofs.StretchLemmas.{next-round}
use Rattle.packed_concepts.proofs.rounds.write_jobs.Goals as goal

pub loop-from-init : goal.loop-from-init
loop-from-init g c = record {
  inside = omega arith;
  room = refl;
  some = c.requires.some;
  underway = Underway-start _ _ _ _ _;
}

pub returns-in_err-write_round : goal.returns-in_err-write_round
returns-in_err-write_round g c =
    let p = err_from_is_err_and c.from_residual.result c.from_residual.ensures.1 in
    let from = c.loop-from.from in
    let next = next-round c.args.names.now c.args.jobs.now from (from + c.min.result) (omega arith) in
    rw (p.1, p.2) (Underway-fault _ _ _ (Underway-equal next c.loop-from.invariant.underway) c.in_err-write_round.ensures.written)

pub loop-from-preserved : goal.loop-from-preserved
loop-from-preserved g c =
    let from = c.loop-from.from in
    let next = next-round c.args.names.now c.args.jobs.now from (from + c.min.result) (omega arith) in
    record {
      inside = omega (arith, c.min.ensures, c.loop-from.invariant.inside);
      room = c.in_ok-write_round.ensures.room ∙ c.loop-from.invariant.room;
      some = omega (arith, c.lay_out.ensures.room, c.loop-from.invariant.some);
      underway = Underway-more _ _ (Underway-equal next c.loop-from.invariant.underway) c.in_ok-write_round.ensures.written;
    }
