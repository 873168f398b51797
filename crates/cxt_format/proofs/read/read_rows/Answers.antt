use Rattle.std.proofs.Common.{◌≡◌, ◌⊎◌, ◌∙◌, ◌+◌, ℕ, [], Err, sym, ap, inl, inr}
use Rattle.std.proofs.lemmas.List.{length_push}
use Rattle.fca_model.specs.Context.{Context}
use Rattle.cxt_format.specs.Form.{next_row, rows_form}
use Rattle.cxt_format.specs.declared.CxtFault.TheVariants as fault
use Rattle.cxt_format.proofs.FormLemmas.{more-Ok, more-Err, Parses-passed}
use Rattle.cxt_format.proofs.read.read_rows.Goals as goal

pub returns-in_err-next_row-clause-form : goal.returns-in_err-next_row-clause-form
returns-in_err-next_row-clause-form g c =
    let e = c.in_err-next_row.field-0.0 in
    let loop = c.loop-place in
    let why : (e ≡ fault.Memory) ⊎ (rows_form c.args.width [] c.args.count c.args.lines.now ≡ Err e) = elim c.in_err-next_row.ensures.form [
      | inl is ↦ inl is
      | inr is ↦ inr (sym loop.invariant.2 ∙ more-Err
          (λ before. next_row c.args.width) loop.rows.rows c.args.count loop._place loop.lines e c.loop-place-test.true is)
    ] in
    Parses-passed (λ rows. rows.rows) c.from_residual-in_err-next_row.result
    (rows_form c.args.width [] c.args.count c.args.lines.now) c.next_row.new.lines e c.from_residual-in_err-next_row.ensures why

pub loop-place-preserved : goal.loop-place-preserved
loop-place-preserved g c =
    let loop = c.loop-place in
    let pushed = c.in_ok-push.ensures.ok in
    let rows = ap (λ (K : Context). K.rows) pushed in (
      rw rows (length_push loop.rows.rows c.in_ok-next_row.field-0 ∙ ap (λ (n : ℕ). n + 1) loop.invariant.0),
      ap (λ (K : Context). K.width) pushed ∙ loop.invariant.1,
      rw rows
          (sym (more-Ok (λ before. next_row c.args.width) loop.rows.rows c.args.count loop._place loop.lines c.in_ok-next_row.field-0
          c.next_row.new.lines c.loop-place-test.true c.in_ok-next_row.ensures.form)
          ∙ loop.invariant.2),
    )
