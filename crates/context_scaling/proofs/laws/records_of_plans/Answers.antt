use Rattle.std.proofs.Common.{◌≡◌, ◌↔◌, ◌==◌, ℕ, List, Ok, length, true, eq-eqb}
use Rattle.std.proofs.lemmas.Str.{utf8_valid_len-IsUtf8}
use Rattle.std.specs.Str.{IsUtf8}
use Rattle.std.specs.Str.Lossy.{utf8_valid_len}
use Rattle.text_pieces.specs.Lists.{EachName}
use Rattle.csv_context.specs.Records.{csv_records}
use Rattle.value_tables.specs.Values.{ValueTable}
use Rattle.context_scaling.specs.PlanForm.{plan_form}
use Rattle.context_scaling.specs.Refusals.{MakePlan}
use Rattle.context_scaling.specs.Scaling.{PlanRecord}
use Rattle.context_scaling.proofs.PlanLaw.{plan-made}
use Rattle.context_scaling.proofs.laws.records_of_plans.Goals as goal

records-made : (t : ValueTable) (bytes : List ℕ) (plan : List PlanRecord) → EachName t.attributes → IsUtf8 bytes
    → (plan_form t bytes ≡ Ok plan) ↔ MakePlan t (csv_records bytes) plan
unfolding plan_form
records-made t bytes plan named text =
    let whole : utf8_valid_len bytes == length bytes ≡ true = eq-eqb _ _ (utf8_valid_len-IsUtf8 bytes text) in
    rw whole (plan-made t named (csv_records bytes) plan)

pub returns : goal.returns
returns c = records-made
