use Rattle.std.proofs.Common.{ap}
use Rattle.std.proofs.lemmas.Result.{IfErr-weaker}
use Rattle.command_io.specs.Streams.{moment}
use Rattle.fca_run.specs.Calls.{shelf_moment}
use Rattle.fca_run.proofs.CallLemmas.{plain-comes}
use Rattle.fca_run.proofs.call.run_plain.Goals as goal

pub returns : goal.returns
returns g c =
    let s = shelf_moment g.H.Shelf.tells g.H.Shelf.faults g.H.Shelf.fetches c.args.shelf.now in
    let s' = shelf_moment g.H.Shelf.tells g.H.Shelf.faults g.H.Shelf.fetches c.plain_output-output.new.shelf in
    let input = moment g.S.Source.left g.S.Source.faults c.args.input.now in
    let input' = moment g.S.Source.left g.S.Source.faults c.plain_output-output.new.input in
    let output = c.plain_output-output in
    let same = moment g.S.Source.left g.S.Source.faults in
    record {
      ran = record {
        output = output.result;
        comes = plain-comes s s' input input' output.result c.args.command.now c.requires.plain output.ensures.output output.ensures.ending
            output.ensures.course
            output.ensures.cause output.ensures.refused output.ensures.read_to_end (λ kept. ap same (output.ensures.input_kept kept))
            (IfErr-weaker output.result _ _ (λ stop kept. λ file. ap same (kept file)) output.ensures.unread) output.ensures.quiet
            output.ensures.quiet_input output.ensures.few;
        concluded = c.conclude_command.ensures;
      };
    }
