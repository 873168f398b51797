use Rattle.std.proofs.Common.{◌∙◌, Ok, Err, add-one}
use Rattle.std.proofs.lemmas.Result.{err_from_is_err_and}
use Rattle.expert_wire.proofs.WriteLemmas.{Writes-then, Writes-equal, Underway-equal, Underway-more, Underway-fault, flat_map-drop}
use Rattle.packed_concepts.specs.Stretches.{lines_on}
use Rattle.packed_concepts.proofs.rounds.write_stretches.Goals as goal

pub returns-in_err-end-clause-written : goal.returns-in_err-end-clause-written
returns-in_err-end-clause-written g c =
    let p = err_from_is_err_and c.from_residual.result c.from_residual.ensures.1 in
    let next = flat_map-drop (lines_on c.args.names.now) c.args.job.now c.loop-stretch.stretch-index c.stretch-item.result
    c.loop-stretch-test.true c.stretch-item.is in
    rw (p.1, p.2) (Underway-fault _ _ _ (Underway-equal next c.loop-stretch.invariant.underway) c.in_err-end.ensures.failed)

pub returns-in_err-write_bytes-clause-written : goal.returns-in_err-write_bytes-clause-written
returns-in_err-write_bytes-clause-written g c =
    let p = err_from_is_err_and c.from_residual-in_err-write_bytes.result c.from_residual-in_err-write_bytes.ensures.1 in
    let next = flat_map-drop (lines_on c.args.names.now) c.args.job.now c.loop-stretch.stretch-index c.stretch-item.result
    c.loop-stretch-test.true c.stretch-item.is in
    let passed = c.in_ok-end.ensures.passed in
    let fault = Err c.in_err-write_bytes.field-0.0 in
    rw (p.1, p.2) (Underway-fault _ _ _ (Underway-equal next c.loop-stretch.invariant.underway)
    (Writes-equal {r = fault} passed.split (Writes-then fault passed.written c.in_err-write_bytes.ensures)))

pub loop-stretch-preserved : goal.loop-stretch-preserved
loop-stretch-preserved g c =
    let next = flat_map-drop (lines_on c.args.names.now) c.args.job.now c.loop-stretch.stretch-index c.stretch-item.result
    c.loop-stretch-test.true c.stretch-item.is in
    let passed = c.in_ok-end.ensures.passed in
    record {
      room = c.in_ok-end.ensures.room ∙ c.loop-stretch.invariant.room;
      underway = rw add-one (Underway-more _ _ (Underway-equal next c.loop-stretch.invariant.underway)
          (Writes-equal {r = Ok tt} passed.split (Writes-then (Ok tt) passed.written c.in_ok-write_bytes.ensures)));
    }
