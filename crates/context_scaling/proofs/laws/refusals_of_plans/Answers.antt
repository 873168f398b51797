use Rattle.std.proofs.Common.{◌≡◌, ◌<◌, ◌≤◌, ◌==◌, ◌↔◌, ℕ, List, Err, true, length, inl, inr, refl, sym, ap, eq-eqb, eqb-true, arith}
use Rattle.std.proofs.lemmas.Bool.{cases_Bool, cases_lt, eqb-false}
use Rattle.std.proofs.lemmas.Str.{utf8_valid_len-IsUtf8, utf8_valid_len_le}
use Rattle.std.specs.Str.{IsUtf8}
use Rattle.std.specs.Str.Lossy.{utf8_valid_len}
use Rattle.text_pieces.specs.Lists.{EachName}
use Rattle.csv_context.specs.Records.{csv_records}
use Rattle.value_tables.specs.Values.{ValueTable}
use Rattle.context_scaling.specs.PlanForm.{plan_form}
use Rattle.context_scaling.specs.Refusals.{IsRefused}
use Rattle.context_scaling.specs.declared.PlanFault.{PlanFault}
use Rattle.context_scaling.specs.declared.PlanFault.TheVariants as fault
use Rattle.context_scaling.proofs.RefusalLemmas.{same-fault}
use Rattle.context_scaling.proofs.PlanLaw.{plan-refused}
use Rattle.context_scaling.proofs.laws.refusals_of_plans.Goals as goal

short : (m n : ℕ) → m ≤ n → (m ≡ n → ⊥) → m < n
short m n within differs = elim (cases_lt m n) [
  | inl less ↦ less
  | inr more ↦ absurd (differs (omega arith))
]

same-place : (bytes : List ℕ) (at : ℕ) → fault.NotUtf8 (utf8_valid_len bytes) ≡ fault.NotUtf8 at → at ≡ utf8_valid_len bytes
same-place bytes at is = cc

text-refused : (t : ValueTable) (bytes : List ℕ) (at : ℕ) → EachName t.attributes
    → (plan_form t bytes ≡ Err (fault.NotUtf8 at)) ↔ ((at ≡ utf8_valid_len bytes) × (at < length bytes))
unfolding plan_form
text-refused t bytes at named = elim (cases_Bool (utf8_valid_len bytes == length bytes)) [
  | inl whole ↦
      let size : utf8_valid_len bytes ≡ length bytes = eqb-true _ _ whole in
      rw whole (
        λ is. absurd ((plan-refused t named (csv_records bytes) (fault.NotUtf8 at)).0 is).faulty.faulty,
        λ of. absurd (omega (arith, size, of.0, of.1)),
      )
  | inr broken ↦
      let within : utf8_valid_len bytes ≤ length bytes = utf8_valid_len_le bytes in
      let less : utf8_valid_len bytes < length bytes = short (utf8_valid_len bytes) (length bytes) within (eqb-false _ _ broken) in
      rw broken (
        λ is. (let same = same-place bytes at (same-fault _ _ _ refl is) in (same, omega (arith, same, less))),
        λ of. ap (λ (n : ℕ). Err (fault.NotUtf8 n)) (sym of.0),
      )
]

records-refused : (t : ValueTable) (bytes : List ℕ) (e : PlanFault) → EachName t.attributes → IsUtf8 bytes
    → (plan_form t bytes ≡ Err e) ↔ IsRefused t (csv_records bytes) e
unfolding plan_form
records-refused t bytes e named text =
    let whole : utf8_valid_len bytes == length bytes ≡ true = eq-eqb _ _ (utf8_valid_len-IsUtf8 bytes text) in
    rw whole (plan-refused t named (csv_records bytes) e)

pub returns : goal.returns
returns c = record { text = text-refused; records = records-refused }
