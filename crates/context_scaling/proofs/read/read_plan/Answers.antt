use Rattle.std.proofs.Common.{[], ◌≡◌, ◌∙◌, ◌<◌, ◌==◌, ℕ, List, Result, Err, length, sym, subst, ap, true, false, inr, eq-eqb, arith}
use Rattle.std.proofs.lemmas.Bool.{ne_eqb}
use Rattle.std.specs.Str.Lossy.{utf8_valid_len}
use Rattle.std.proofs.lemmas.Str.{utf8_valid_len-IsUtf8}
use Rattle.context_scaling.specs.Scaling.{PlanRecord}
use Rattle.csv_context.specs.Records.{csv_records}
use Rattle.text_pieces.specs.Telling.{Tells}
use Rattle.context_scaling.specs.PlanForm.{records_form, plan_form}
use Rattle.context_scaling.specs.declared.PlanFault.{PlanFault}
use Rattle.context_scaling.specs.declared.PlanFault.TheVariants as fault
use Rattle.context_scaling.proofs.read.read_plan.Goals as goal

pub returns-in-Ok-clause-form : goal.returns-in-Ok-clause-form
unfolding plan_form
returns-in-Ok-clause-form c =
    let text = c.in-Ok.ensures.cases in
    let whole : utf8_valid_len c.args.bytes.now == length c.args.bytes.now ≡ true =
    eq-eqb _ _ (utf8_valid_len-IsUtf8 c.args.bytes.now text.1) in
    let P : List ℕ → Type 0 = λ bytes. Tells fault.Memory c.read_text.result (records_form c.args.values.now 1 [] (csv_records bytes)) in
    rw whole (subst P text.0 c.read_text.ensures.form)

pub returns-in-Err-clause-form : goal.returns-in-Err-clause-form
unfolding plan_form
returns-in-Err-clause-form c =
    let at = c.in-Err.ensures.valid_len in
    let short : utf8_valid_len c.args.bytes.now < length c.args.bytes.now = let P : ℕ → Type 0 = λ n. n < length c.args.bytes.now in
    subst P at c.in-Err.ensures.cases.1.short in
    let broken : utf8_valid_len c.args.bytes.now == length c.args.bytes.now ≡ false = ne_eqb _ _ (omega arith) in
    let told : ℕ → Result (List PlanRecord) PlanFault = λ n. Err (fault.NotUtf8 n) in
    inr (rw broken (ap told (sym at ∙ sym c.valid_up_to.ensures)))
