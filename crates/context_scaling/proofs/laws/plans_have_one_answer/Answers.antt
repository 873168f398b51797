use Rattle.text_pieces.proofs.TellingLemmas.{one_answer}
use Rattle.context_scaling.specs.PlanForm.{plan_form}
use Rattle.context_scaling.specs.declared.PlanFault.TheVariants as fault
use Rattle.context_scaling.proofs.laws.plans_have_one_answer.Goals as goal

pub returns : goal.returns
returns c = λ t bytes. one_answer fault.Memory (plan_form t bytes)
