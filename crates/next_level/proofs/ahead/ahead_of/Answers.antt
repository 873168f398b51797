use Rattle.std.proofs.Common.{ap, filter, ltb, ◌∙◌, arith}
use Rattle.fca_model.specs.Sets.{size}
use Rattle.fca_model.specs.Context.{Context}
use Rattle.fca_model.specs.Implications.{premises}
use Rattle.next_level.proofs.ahead.ahead_of.Goals as goal

pub returns-in-Ok-clause-rest : goal.returns-in-Ok-clause-rest
returns-in-Ok-clause-rest g c e = record {
  all = omega (arith, c.if-seen-width.false);
  larger = ap (λ (X : Context). X.rows) (c.in-Ok.ensures.rest e)
      ∙ ap (λ xs. premises (filter (λ i. ltb c.args.size (size i.premise)) xs)) c.deref.ensures.value;
}
