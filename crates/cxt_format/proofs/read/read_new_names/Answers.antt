use Rattle.std.proofs.Common.{◌≡◌, ◌⊎◌, ◌∙◌, ◌+◌, ◌++◌, ◌∷◌, ℕ, [], Err, sym, ap, inl, inr}
use Rattle.std.proofs.lemmas.List.{length_push}
use Rattle.cxt_format.specs.LineForms.{attribute_form}
use Rattle.cxt_format.specs.Form.{next, attributes_form}
use Rattle.cxt_format.specs.declared.CxtFault.TheVariants as fault
use Rattle.cxt_format.proofs.FormLemmas.{more-Ok, more-Err, Parses-passed}
use Rattle.cxt_format.proofs.read.read_new_names.Goals as goal

pub returns-in_err-next_attribute-clause-form : goal.returns-in_err-next_attribute-clause-form
returns-in_err-next_attribute-clause-form c =
    let e = c.in_err-next_attribute.field-0.0 in
    let loop = c.loop-place in
    let why : (e ≡ fault.Memory) ⊎ (attributes_form [] c.args.count c.args.lines.now ≡ Err e) = elim c.in_err-next_attribute.ensures.form [
      | inl is ↦ inl is
      | inr is ↦ inr (sym loop.invariant.1 ∙ more-Err
          (λ before. next (attribute_form before)) loop.names.keys c.args.count loop._place loop.lines e c.loop-place-test.true is)
    ] in
    Parses-passed (λ names. names.keys) c.from_residual.result
    (attributes_form [] c.args.count c.args.lines.now) c.next_attribute.new.lines e c.from_residual.ensures why

pub loop-place-preserved : goal.loop-place-preserved
loop-place-preserved c =
    let loop = c.loop-place in
    let new = c.in_ok-next_attribute.ensures.new in
    let keys : c.insert.new.self.keys ≡ loop.names.keys ++ c.in_ok-next_attribute.field-0 ∷ [] = rw new at c.in_ok-insert.ensures.keys in (
      rw keys (length_push loop.names.keys c.in_ok-next_attribute.field-0 ∙ ap (λ (n : ℕ). n + 1) loop.invariant.0),
      rw keys
          (sym (more-Ok (λ before. next (attribute_form before)) loop.names.keys c.args.count loop._place loop.lines
          c.in_ok-next_attribute.field-0 c.next_attribute.new.lines c.loop-place-test.true c.in_ok-next_attribute.ensures.form)
          ∙ loop.invariant.1),
    )
