use Rattle.std.proofs.Common.{rules, ◌≡◌, Result, inl, inr, refl, sym, ap, subst}
use Rattle.std.specs.Io.KnownBytes.{Appends}
use Rattle.fca_model.specs.Tables.{Text}
use Rattle.fca_io.specs.Faults.{Rose}
use Rattle.fca_io.specs.Transfers.{AppendsFront}
use Rattle.command_io.specs.Endings.{Output, MayBecome}
use Rattle.command_io.specs.Endings.Outcome.{Written, CutOff, Stopped}
use Rattle.command_io.specs.declared.stop.Stop.{Stop}
use Rattle.command_io.proofs.output.conclude.Goals as goal

pub returns-then-is_err : goal.returns-then-is_err
returns-then-is_err g c =
    let output : Output = c.in-Ok.output in
    let same : c.output.inside.text ≡ output.text = ap (λ (o : Output). o.text) c.output.view_is in
    let Began : Text → Type 0 = AppendsFront (g.K.Sink.held c.args.out.now) (g.K.Sink.held c.write.new.out) in
    let rose : Rose (g.K.Sink.faults c.args.out.now) (g.K.Sink.faults c.write.new.out) = search rules in
    let Becomes : Result Output Stop → Type 0 = λ result. MayBecome result (CutOff output) in
    record {
      outcome = CutOff output;
      became = subst Becomes (sym c.in-Ok.is) (inr refl);
      status = refl;
      text = (subst Began same c.write.ensures.front, rose);
      line = c.explain_in_words.ensures;
    }

pub returns-else-is_err : goal.returns-else-is_err
returns-else-is_err g c =
    let output : Output = c.in-Ok.output in
    let same : c.output.inside.text ≡ output.text = ap (λ (o : Output). o.text) c.output.view_is in
    let Gained : Text → Type 0 = Appends (g.K.Sink.held c.args.out.now) (g.K.Sink.held c.write.new.out) in
    let whole : Gained c.output.inside.text = search rules in
    let quiet : g.K.Sink.faults c.write.new.out ≡ g.K.Sink.faults c.args.out.now = search rules in
    let Becomes : Result Output Stop → Type 0 = λ result. MayBecome result (Written output) in
    record {
      outcome = Written output;
      became = subst Becomes (sym c.in-Ok.is) (inl refl);
      status = search rules;
      text = (subst Gained same whole, quiet);
      line = search rules;
    }

pub returns-in-Err : goal.returns-in-Err
returns-in-Err g c =
    let Becomes : Result Output Stop → Type 0 = λ result. MayBecome result (Stopped c.in-Err.stop) in
    record {
      outcome = Stopped c.in-Err.stop;
      became = subst Becomes (sym c.in-Err.is) refl;
      status = c.status-in-Err.ensures;
      text = refl;
      line = c.explain_stop.ensures;
    }
