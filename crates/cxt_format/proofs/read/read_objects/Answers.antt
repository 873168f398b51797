use Rattle.std.proofs.Common.{◌∙◌, sym, ap, ℕ, ◌+◌}
use Rattle.cxt_format.specs.LineForms.{name_form}
use Rattle.cxt_format.specs.Form.{next}
use Rattle.cxt_format.proofs.FormLemmas.{more-Ok}
use Rattle.cxt_format.proofs.read.read_objects.Goals as goal

pub loop-place-preserved : goal.loop-place-preserved
loop-place-preserved c = (
  c.in_ok-push.ensures.len ∙ ap (λ (n : ℕ). n + 1) c.loop-place.invariant.0,
  rw c.in_ok-push.ensures.items
      (sym (more-Ok (λ before. next name_form) c.loop-place.names.items c.args.count c.loop-place._place c.loop-place.lines
      c.in_ok-next_name.field-0 c.next_name.new.lines c.loop-place-test.true c.in_ok-next_name.ensures)
      ∙ c.loop-place.invariant.1),
)
