-- Each stop has its line: what is written is it, by the stop that it is.
use Rattle.std.proofs.Common.{◌≡◌, ◌∙◌, sym, ap}
use Rattle.fca_model.specs.Tables.{Text}
use Rattle.fca_io.specs.declared.outside.TheConstants.{READ_FAULT, TOO_LONG}
use Rattle.text_pieces.specs.declared.faults.FaultPlace.{FaultPlace}
use Rattle.text_pieces.specs.declared.faults.FaultPlace.TheVariants.{Whole}
use Rattle.expert_wire.proofs.WriteLemmas.{Writes-equal}
use Rattle.command_io.specs.ErrLines.{placed_line, breaks_line, stop_line}
use Rattle.command_io.specs.declared.err_line.TheConstants.{BAD_VALUES, BAD_PLAN, ATTRIBUTES_DIFFER}
use Rattle.command_io.proofs.err_line.write_stop.Goals as goal

same_placed : (name other : Text) (description same : FaultPlace × Text) → name ≡ other → description ≡ same
    → placed_line name description ≡ placed_line other same
same_placed name other description same e g = cc

pub returns-in-NoCommand : goal.returns-in-NoCommand
returns-in-NoCommand g c = Writes-equal (ap (stop_line c.args.file.now) (sym c.in-NoCommand.is)) c.write_plain.ensures

pub returns-in-TooLong : goal.returns-in-TooLong
returns-in-TooLong g c = Writes-equal (ap (λ (name : Text). placed_line name (Whole, TOO_LONG.now)) c.name_of.ensures
    ∙ ap (stop_line c.args.file.now) (sym c.in-TooLong.is)) c.write_whole.ensures

pub returns-in-NoCxt : goal.returns-in-NoCxt
returns-in-NoCxt g c = Writes-equal (same_placed _ _ _ _ c.name_of-in-NoCxt.ensures c.description.ensures
    ∙ ap (stop_line c.args.file.now) (sym c.in-NoCxt.is)) c.write_placed.ensures

pub returns-in-NoCsv : goal.returns-in-NoCsv
returns-in-NoCsv g c = Writes-equal (same_placed _ _ _ _ c.name_of-in-NoCsv.ensures c.description-in-NoCsv.ensures
    ∙ ap (stop_line c.args.file.now) (sym c.in-NoCsv.is)) c.write_placed-in-NoCsv.ensures

pub returns-in-BadValues : goal.returns-in-BadValues
returns-in-BadValues g c = Writes-equal (ap (λ (name : Text). placed_line name (Whole, BAD_VALUES.now)) c.name_of-in-BadValues.ensures
    ∙ ap (stop_line c.args.file.now) (sym c.in-BadValues.is)) c.write_whole-in-BadValues.ensures

pub returns-in-BadPlan : goal.returns-in-BadPlan
returns-in-BadPlan g c = Writes-equal (ap (λ (name : Text). placed_line name (Whole, BAD_PLAN.now)) c.name_of-in-BadPlan.ensures
    ∙ ap (stop_line c.args.file.now) (sym c.in-BadPlan.is)) c.write_whole-in-BadPlan.ensures

pub returns-in-NoKnown : goal.returns-in-NoKnown
returns-in-NoKnown g c = Writes-equal (ap (placed_line c.args.file.now) c.description-in-NoKnown.ensures
    ∙ ap (stop_line c.args.file.now) (sym c.in-NoKnown.is)) c.write_placed-in-NoKnown.ensures

pub returns-in-RowBreaks : goal.returns-in-RowBreaks
returns-in-RowBreaks g c = Writes-equal (ap (λ (name : Text). breaks_line name c.in-RowBreaks.row c.in-RowBreaks.rule)
    c.name_of-in-RowBreaks.ensures ∙ ap (stop_line c.args.file.now) (sym c.in-RowBreaks.is)) c.write_breaks.ensures

pub returns-in-NoScript : goal.returns-in-NoScript
returns-in-NoScript g c = Writes-equal (same_placed _ _ _ _ c.as_bytes.ensures.value c.description-in-NoScript.ensures
    ∙ ap (stop_line c.args.file.now) (sym c.in-NoScript.is)) c.write_placed-in-NoScript.ensures

pub returns-in-UnknownAttribute : goal.returns-in-UnknownAttribute
returns-in-UnknownAttribute g c = Writes-equal
    (ap (stop_line c.args.file.now) (sym c.in-UnknownAttribute.is)) c.write_plain-in-UnknownAttribute.ensures

pub returns-in-OtherAttributes : goal.returns-in-OtherAttributes
returns-in-OtherAttributes g c = Writes-equal (ap
    (λ (name : Text). placed_line name (Whole, ATTRIBUTES_DIFFER.now)) c.name_of-in-OtherAttributes.ensures
    ∙ ap (stop_line c.args.file.now) (sym c.in-OtherAttributes.is)) c.write_whole-in-OtherAttributes.ensures

pub returns-in-ReadFault : goal.returns-in-ReadFault
returns-in-ReadFault g c = Writes-equal (ap (λ (name : Text). placed_line name (Whole, READ_FAULT.now)) c.name_of-in-ReadFault.ensures
    ∙ ap (stop_line c.args.file.now) (sym c.in-ReadFault.is)) c.write_whole-in-ReadFault.ensures

pub returns-in-ListenerFault : goal.returns-in-ListenerFault
returns-in-ListenerFault g c = Writes-equal (ap (stop_line c.args.file.now) (sym c.in-ListenerFault.is)) c.write_plain-in-ListenerFault.ensures

pub returns-in-Memory : goal.returns-in-Memory
returns-in-Memory g c = Writes-equal (ap (stop_line c.args.file.now) (sym c.in-Memory.is)) c.write_plain-in-Memory.ensures
