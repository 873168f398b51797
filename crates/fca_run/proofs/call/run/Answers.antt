use Rattle.std.proofs.Common.{◌≡◌, ◌∙◌, [], true, false, Option, None, Err, inl, refl, sym, subst}
use Rattle.fca_command.specs.Commands.{command_form, waits_for_nobody}
use Rattle.fca_command.specs.declared.command.Command.{Command}
use Rattle.command_io.specs.Streams.{moment}
use Rattle.command_io.specs.declared.stop.Stop.TheVariants.{NoCommand, Memory}
use Rattle.fca_run.specs.Causes.{command_file_at_fault}
use Rattle.fca_run.specs.Calls.{shelf_moment, link_moment, sides, outside, HasRun, CallComesTo}
use Rattle.fca_run.proofs.CallLemmas.{plain-linked, unread-input, concluded-memory, call-memory}
use Rattle.fca_run.proofs.call.run.Goals as goal

pub returns-then-waits_for_nobody : goal.returns-then-waits_for_nobody
returns-then-waits_for_nobody g c =
    let end_sides = sides g.L.End.Source.left g.L.End.Sink.held g.L.End.Source.reads g.L.End.Source.faults g.L.End.Sink.faults in
    let s = shelf_moment g.H.Shelf.tells g.H.Shelf.faults g.H.Shelf.fetches c.args.shelf.now in
    let s' = shelf_moment g.H.Shelf.tells g.H.Shelf.faults g.H.Shelf.fetches c.run_plain.new.shelf in
    let input = moment g.S.Source.left g.S.Source.faults c.args.input.now in
    let input' = moment g.S.Source.left g.S.Source.faults c.run_plain.new.input in
    let link = link_moment g.L.Listener.listens g.L.Listener.listens_at g.L.Listener.ends g.L.Listener.open_faults
    g.L.Listener.accept_faults c.args.link.now in
    let command : Command = c.in-Ok-Some.command in
    let plain : waits_for_nobody command ≡ true = sym c.waits_for_nobody.ensures ∙ c.if-waits_for_nobody.true in
    let Ran : Option Command → Type 0 = λ call. HasRun end_sides call (outside s input link) (outside s' input' link)
    (moment g.K.Sink.held g.K.Sink.faults c.args.out.now) (moment g.K.Sink.held g.K.Sink.faults c.run_plain.new.out)
    (moment g.E.Sink.held g.E.Sink.faults c.args.err.now) (moment g.E.Sink.held g.E.Sink.faults c.run_plain.new.err) c.run_plain.result in
    let ran = c.run_plain.ensures.ran in
    record {
      ran = subst Ran (sym c.in-Ok-Some.field-0-is ∙ c.in-Ok-Some.ensures.command)
          (record {
            output = ran.output;
            comes = plain-linked s s' input input' ran.output end_sides link command plain ran.comes;
            concluded = ran.concluded;
          });
    }

pub returns-else-waits_for_nobody : goal.returns-else-waits_for_nobody
returns-else-waits_for_nobody g c =
    let end_sides = sides g.L.End.Source.left g.L.End.Sink.held g.L.End.Source.reads g.L.End.Source.faults g.L.End.Sink.faults in
    let s = shelf_moment g.H.Shelf.tells g.H.Shelf.faults g.H.Shelf.fetches c.args.shelf.now in
    let s' = shelf_moment g.H.Shelf.tells g.H.Shelf.faults g.H.Shelf.fetches c.waiting_output-output.new.shelf in
    let input = moment g.S.Source.left g.S.Source.faults c.args.input.now in
    let link = link_moment g.L.Listener.listens g.L.Listener.listens_at g.L.Listener.ends g.L.Listener.open_faults
    g.L.Listener.accept_faults c.args.link.now in
    let link' = link_moment g.L.Listener.listens g.L.Listener.listens_at g.L.Listener.ends g.L.Listener.open_faults
    g.L.Listener.accept_faults c.waiting_output-output.new.link in
    let command : Command = c.in-Ok-Some.command in
    let waits : waits_for_nobody command ≡ false = sym c.waits_for_nobody.ensures ∙ c.if-waits_for_nobody.false in
    let Ran : Option Command → Type 0 = λ call. HasRun end_sides call (outside s input link) (outside s' input link')
    (moment g.K.Sink.held g.K.Sink.faults c.args.out.now) (moment g.K.Sink.held g.K.Sink.faults c.conclude_command.new.out)
    (moment g.E.Sink.held g.E.Sink.faults c.args.err.now) (moment g.E.Sink.held g.E.Sink.faults c.conclude_command.new.err) c.conclude_command.result in
    let output = c.waiting_output-output.result in
    record {
      ran = subst Ran (sym c.in-Ok-Some.field-0-is ∙ c.in-Ok-Some.ensures.command)
          (record {
            output = output;
            comes = unread-input end_sides s s' input link link' output command waits c.waiting_output-output.ensures;
            concluded = c.conclude_command.ensures;
          });
    }

pub returns-in-Ok-None : goal.returns-in-Ok-None
returns-in-Ok-None g c =
    let end_sides = sides g.L.End.Source.left g.L.End.Sink.held g.L.End.Source.reads g.L.End.Source.faults g.L.End.Sink.faults in
    let old = outside (shelf_moment g.H.Shelf.tells g.H.Shelf.faults g.H.Shelf.fetches c.args.shelf.now)
    (moment g.S.Source.left g.S.Source.faults c.args.input.now)
    (link_moment g.L.Listener.listens g.L.Listener.listens_at g.L.Listener.ends g.L.Listener.open_faults g.L.Listener.accept_faults
    c.args.link.now) in
    let none : command_form c.args.words.now ≡ None = sym c.in-Ok-None.ensures.command ∙ c.in-Ok-None.field-0-is in
    let Ran : Option Command → Type 0 = λ call. HasRun end_sides call old old
    (moment g.K.Sink.held g.K.Sink.faults c.args.out.now) (moment g.K.Sink.held g.K.Sink.faults c.conclude.new.out)
    (moment g.E.Sink.held g.E.Sink.faults c.args.err.now) (moment g.E.Sink.held g.E.Sink.faults c.conclude.new.err) c.conclude.result in
    record { ran = subst Ran (sym none) (record { output = Err NoCommand; comes = (inl refl, refl); concluded = c.conclude.ensures }) }

pub returns-in-Err : goal.returns-in-Err
returns-in-Err g c =
    let end_sides = sides g.L.End.Source.left g.L.End.Sink.held g.L.End.Source.reads g.L.End.Source.faults g.L.End.Sink.faults in
    let old = outside (shelf_moment g.H.Shelf.tells g.H.Shelf.faults g.H.Shelf.fetches c.args.shelf.now)
    (moment g.S.Source.left g.S.Source.faults c.args.input.now)
    (link_moment g.L.Listener.listens g.L.Listener.listens_at g.L.Listener.ends g.L.Listener.open_faults g.L.Listener.accept_faults
    c.args.link.now) in
    let call = command_form c.args.words.now in
    let end = c.conclude-in-Err in
    record {
      ran = record {
        output = Err Memory;
        comes = call-memory end_sides old call;
        concluded = concluded-memory (moment g.K.Sink.held g.K.Sink.faults c.args.out.now)
            (moment g.K.Sink.held g.K.Sink.faults end.new.out)
            (moment g.E.Sink.held g.E.Sink.faults c.args.err.now) (moment g.E.Sink.held g.E.Sink.faults end.new.err) end.result (λ _. [])
            (command_file_at_fault call) end.ensures;
      };
    }
