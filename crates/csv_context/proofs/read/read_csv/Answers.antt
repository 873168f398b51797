use Rattle.std.proofs.Common.{◌≡◌, ◌∙◌, ◌<◌, ◌==◌, ℕ, List, Result, Err, length, sym, subst, ap, true, false, inr, eq-eqb, arith}
use Rattle.std.proofs.lemmas.Bool.{ne_eqb}
use Rattle.std.specs.Str.Lossy.{utf8_valid_len}
use Rattle.std.proofs.lemmas.Str.{utf8_valid_len-IsUtf8}
use Rattle.fca_model.specs.Tables.{NamedContext}
use Rattle.csv_context.specs.Records.{csv_records}
use Rattle.text_pieces.specs.Telling.{Tells}
use Rattle.csv_context.specs.Form.{table_form, csv_form}
use Rattle.csv_context.specs.declared.CsvFault.{CsvFault}
use Rattle.csv_context.specs.declared.CsvFault.TheVariants as fault
use Rattle.csv_context.proofs.read.read_csv.Goals as goal

pub returns-in-Ok : goal.returns-in-Ok
unfolding csv_form
returns-in-Ok c =
    let text = c.in-Ok.ensures.cases in
    let whole : utf8_valid_len c.args.bytes.now == length c.args.bytes.now ≡ true =
    eq-eqb _ _ (utf8_valid_len-IsUtf8 c.args.bytes.now text.1) in
    let P : List ℕ → Type 0 = λ bytes. Tells fault.Memory c.read_text.result (table_form (csv_records bytes)) in
    rw whole (subst P text.0 c.read_text.ensures)

pub returns-in-Err : goal.returns-in-Err
unfolding csv_form
returns-in-Err c =
    let at = c.in-Err.ensures.valid_len in
    let short : utf8_valid_len c.args.bytes.now < length c.args.bytes.now = let P : ℕ → Type 0 = λ n. n < length c.args.bytes.now in
    subst P at c.in-Err.ensures.cases.1.short in
    let broken : utf8_valid_len c.args.bytes.now == length c.args.bytes.now ≡ false = ne_eqb _ _ (omega arith) in
    let told : ℕ → Result NamedContext CsvFault = λ n. Err (fault.NotUtf8 n) in
    inr (rw broken (ap told (sym at ∙ sym c.valid_up_to.ensures)))
