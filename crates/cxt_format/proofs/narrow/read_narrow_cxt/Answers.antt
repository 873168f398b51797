use Rattle.std.proofs.Common.{◌≡◌, ◌∙◌, ◌<◌, ◌==◌, ℕ, List, Result, Err, length, sym, subst, ap, true, false, inr, eq-eqb, arith}
use Rattle.std.proofs.lemmas.Bool.{ne_eqb}
use Rattle.std.specs.Str.Lossy.{utf8_valid_len}
use Rattle.std.proofs.lemmas.Str.{utf8_valid_len-IsUtf8}
use Rattle.fca_model.specs.Tables.{NamedContext}
use Rattle.text_pieces.specs.Lines.{lines}
use Rattle.text_pieces.specs.Telling.{Tells}
use Rattle.cxt_format.specs.Form.{table_form, without_bom, cxt_form}
use Rattle.cxt_format.specs.Untitled.{untitled_form}
use Rattle.cxt_format.specs.declared.CxtFault.{CxtFault}
use Rattle.cxt_format.specs.declared.CxtFault.TheVariants as fault
use Rattle.cxt_format.proofs.narrow.read_narrow_cxt.Goals as goal

pub returns-in-Ok : goal.returns-in-Ok
unfolding cxt_form
returns-in-Ok c =
    let text = c.in-Ok.ensures.cases in
    let whole : utf8_valid_len c.args.bytes.now == length c.args.bytes.now ≡ true =
    eq-eqb _ _ (utf8_valid_len-IsUtf8 c.args.bytes.now text.1) in
    let P : List ℕ → Type 0 = λ bytes. Tells fault.Memory c.read_narrow_text.result (untitled_form (table_form (lines (without_bom bytes)))) in
    rw whole (subst P text.0 c.read_narrow_text.ensures)

pub returns-in-Err : goal.returns-in-Err
unfolding cxt_form
returns-in-Err c =
    let at = c.in-Err.ensures.valid_len in
    let short : utf8_valid_len c.args.bytes.now < length c.args.bytes.now = let P : ℕ → Type 0 = λ n. n < length c.args.bytes.now in
    subst P at c.in-Err.ensures.cases.1.short in
    let broken : utf8_valid_len c.args.bytes.now == length c.args.bytes.now ≡ false = ne_eqb _ _ (omega arith) in
    let told : ℕ → Result NamedContext CxtFault = λ n. Err (fault.NotUtf8 n) in
    inr (rw broken (ap told (sym at ∙ sym c.valid_up_to.ensures)))
