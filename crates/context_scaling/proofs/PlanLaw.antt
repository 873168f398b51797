-- What the records of a file make: the records before the first at fault make a plan, one scaling each.
use Rattle.std.proofs.Common.{◌≡◌, ◌∙◌, ◌<◌, ◌+◌, ◌++◌, ◌∷◌, ◌↔◌, [], ℕ, zero, suc, List, Ok, Err, length, take}
use Rattle.std.proofs.Common.{append-nil, append_assoc, inl, inr, refl, sym, ap, subst, arith}
use Rattle.text_pieces.specs.Lists.{EachName}
use Rattle.csv_context.specs.Records.{Record}
use Rattle.value_tables.specs.Values.{ValueTable}
use Rattle.context_scaling.specs.Back.{plan_record_at}
use Rattle.context_scaling.specs.PlanForm.{record_form, records_form}
use Rattle.context_scaling.specs.Refusals.{IsRefused, MakePlan, record_at}
use Rattle.context_scaling.specs.Scaling.{PlanRecord, made_names}
use Rattle.context_scaling.specs.declared.PlanFault.{PlanFault}
use Rattle.context_scaling.proofs.RefusalLemmas.{cases-Result, ok-err, same-fault, same-ok}
use Rattle.context_scaling.proofs.RefusalLaw.{record-made, record-refused}

-- ---- one scaling each

-- records from record i on, behind these scalings, make one scaling each
record Steps (t : ValueTable) (i : ℕ) (before : List PlanRecord) (all : List Record) (made : List PlanRecord) : Type 0 where
  size : length made ≡ length all
  each : (k : ℕ) → k < length all → record_form t (i + k) (made_names (before ++ take k made)) (record_at all k) ≡ Ok (plan_record_at made k)

-- the record is read into that scaling; all but the record's place and plan is left as it is
abbrev Reads : ValueTable → Record → PlanRecord → ℕ → List PlanRecord → Type 0
Reads t fields s i plan = record_form t i (made_names plan) fields ≡ Ok s

moved : (t : ValueTable) (fields : Record) (s : PlanRecord) (i j : ℕ) (one two : List PlanRecord) → i ≡ j → one ≡ two → Reads t fields s i one
    → Reads t fields s j two
moved t fields s i j one two places plans reads =
    subst (λ (n : ℕ). Reads t fields s n two) places (subst (Reads t fields s i) plans reads)

module _ (t : ValueTable) where
  steps : (i : ℕ) (before : List PlanRecord) (all : List Record) (plan : List PlanRecord) → records_form t i before all ≡ Ok plan
      → (made : List PlanRecord) × (plan ≡ before ++ made) × Steps t i before all made
  steps i before [] plan is =
      let same : before ≡ plan = same-ok _ before plan refl is in
      ([], sym same ∙ sym (append-nil before), record { size = refl; each = λ k below. absurd (omega arith) })
  steps i before (fields ∷ all) plan is = elim (cases-Result (record_form t i (made_names before) fields)) [
    | inl bad ↦ absurd (ok-err _ plan bad.0 is (rw bad.1 refl))
    | inr good ↦
        let later = steps (i + 1) (before ++ good.0 ∷ []) all plan (rw good.1 at is) in (
          good.0 ∷ later.0,
          later.1 ∙ append_assoc before (good.0 ∷ []) later.0,
          record { size = ap suc later.2.size; each = each good.0 later.0 good.1 later.2.each },
        )
  ]
    where
      each : (s : PlanRecord) (made : List PlanRecord) → Reads t fields s i before
          → ((k : ℕ) → k < length all → Reads t (record_at all k) (plan_record_at made k) (i + 1 + k) ((before ++ s ∷ []) ++ take k made))
          → (k : ℕ) → k < suc (length all)
          → Reads t (record_at (fields ∷ all) k) (plan_record_at (s ∷ made) k) (i + k) (before ++ take k (s ∷ made))
      each s made first rest zero below =
          moved t fields s i (i + 0) before (before ++ []) (omega arith) (sym (append-nil before)) first
      each s made first rest (suc k) below =
          moved t (record_at all k) (plan_record_at made k) (i + 1 + k) (i + suc k) _ (before ++ s ∷ take k made) (omega arith)
          (append_assoc before (s ∷ []) (take k made)) (rest k (omega arith))

  back : (i : ℕ) (before : List PlanRecord) (all : List Record) (made : List PlanRecord) → Steps t i before all made
      → records_form t i before all ≡ Ok (before ++ made)
  back i before [] [] of = ap Ok (sym (append-nil before))
  back i before [] (s ∷ made) of = absurd (omega (arith, of.size))
  back i before (fields ∷ all) [] of = absurd (omega (arith, of.size))
  back i before (fields ∷ all) (s ∷ made) of =
      let first : record_form t i (made_names before) fields ≡ Ok s =
      moved t fields s (i + 0) i (before ++ []) before (omega arith) (append-nil before) (of.each 0 (omega arith)) in
      let rest : records_form t (i + 1) (before ++ s ∷ []) all ≡ Ok ((before ++ s ∷ []) ++ made) =
      back (i + 1) (before ++ s ∷ []) all made (record { size = omega (arith, of.size); each = later }) in
      rw first (rest ∙ ap Ok (append_assoc before (s ∷ []) made))
    where
      later : (k : ℕ) → k < length all → Reads t (record_at all k) (plan_record_at made k) (i + 1 + k) ((before ++ s ∷ []) ++ take k made)
      later k below =
          moved t (record_at all k) (plan_record_at made k) (i + suc k) (i + 1 + k) (before ++ s ∷ take k made) _ (omega arith)
          (sym (append_assoc before (s ∷ []) (take k made))) (of.each (suc k) (omega arith))

  -- ---- plans

  module _ (named : EachName t.attributes) where
    pub plan-made : (all : List Record) (plan : List PlanRecord) → (records_form t 1 [] all ≡ Ok plan) ↔ MakePlan t all plan
    plan-made all plan = (there, here)
      where
        there : records_form t 1 [] all ≡ Ok plan → MakePlan t all plan
        there is =
            let one = steps 1 [] all plan is in
            subst (MakePlan t all) (sym one.1) (record {
              size = one.2.size;
              each = λ k below.
                  (record-made t (k + 1) (take k one.0) (record_at all k) named (plan_record_at one.0 k)).0
                  (moved t (record_at all k) (plan_record_at one.0 k) (1 + k) (k + 1) (take k one.0) _ (omega arith) refl (one.2.each k below));
            })

        here : MakePlan t all plan → records_form t 1 [] all ≡ Ok plan
        here of = back 1 [] all plan (record {
          size = of.size;
          each = λ k below.
              moved t (record_at all k) (plan_record_at plan k) (k + 1) (1 + k) (take k plan) _ (omega arith) refl
              ((record-made t (k + 1) (take k plan) (record_at all k) named (plan_record_at plan k)).1 (of.each k below));
        })

    -- ---- refusals

    -- records from record i on, behind these scalings, are refused: the first at fault decides
    record FirstRefused (i : ℕ) (before : List PlanRecord) (all : List Record) (e : PlanFault) : Type 0 where
      front : List Record
      fields : Record
      rest : List Record
      plan : List PlanRecord
      whole : all ≡ front ++ fields ∷ rest
      made : records_form t i before front ≡ Ok plan
      faulty : record_form t (i + length front) (made_names plan) fields ≡ Err e

    first-refused : (i : ℕ) (before : List PlanRecord) (all : List Record) (e : PlanFault) → records_form t i before all ≡ Err e
        → FirstRefused i before all e
    first-refused i before [] e is = absurd (ok-err _ before e refl is)
    first-refused i before (fields ∷ records) e is = elim (cases-Result (record_form t i (made_names before) fields)) [
      | inl bad ↦
          let same : bad.0 ≡ e = same-fault _ bad.0 e refl (rw bad.1 at is) in
          let here : i ≡ i + 0 = omega arith in
          let P : ℕ → Type 0 = λ k. record_form t k (made_names before) fields ≡ Err e in
          record {
            front = [];
            fields = fields;
            rest = records;
            plan = before;
            whole = refl;
            made = refl;
            faulty = subst P here (bad.1 ∙ ap Err same);
          }
      | inr good ↦
          let later = first-refused (i + 1) (before ++ good.0 ∷ []) records e (rw good.1 at is) in
          let next : i + 1 + length later.front ≡ i + length (fields ∷ later.front) = omega arith in
          let P : ℕ → Type 0 = λ k. record_form t k (made_names later.plan) later.fields ≡ Err e in
          record {
            front = fields ∷ later.front;
            fields = later.fields;
            rest = later.rest;
            plan = later.plan;
            whole = ap (λ (rs : List Record). fields ∷ rs) later.whole;
            made = rw good.1 later.made;
            faulty = subst P next later.faulty;
          }
    ]

    refused-back : (i : ℕ) (before : List PlanRecord) (front : List Record) (fields : Record) (rest : List Record) (plan : List PlanRecord)
        (e : PlanFault) → records_form t i before front ≡ Ok plan → record_form t (i + length front) (made_names plan) fields ≡ Err e
        → records_form t i before (front ++ fields ∷ rest) ≡ Err e
    refused-back i before [] fields rest plan e made faulty =
        let same : before ≡ plan = same-ok _ before plan refl made in
        let here : i + 0 ≡ i = omega arith in
        let first : record_form t i (made_names before) fields ≡ Err e =
        subst (λ (k : ℕ). record_form t k (made_names before) fields ≡ Err e) here
        (subst (λ (p : List PlanRecord). record_form t (i + 0) (made_names p) fields ≡ Err e) (sym same) faulty) in
        rw first refl
    refused-back i before (one ∷ front) fields rest plan e made faulty = elim (cases-Result (record_form t i (made_names before) one)) [
      | inl bad ↦ absurd (ok-err _ plan bad.0 made (rw bad.1 refl))
      | inr good ↦
          let next : i + length (one ∷ front) ≡ i + 1 + length front = omega arith in
          let P : ℕ → Type 0 = λ k. record_form t k (made_names plan) fields ≡ Err e in
          rw good.1 (refused-back (i + 1) (before ++ good.0 ∷ []) front fields rest plan e (rw good.1 at made) (subst P next faulty))
    ]

    pub plan-refused : (all : List Record) (e : PlanFault) → (records_form t 1 [] all ≡ Err e) ↔ IsRefused t all e
    plan-refused all e = (there, here)
      where
        there : records_form t 1 [] all ≡ Err e → IsRefused t all e
        there is =
            let one = first-refused 1 [] all e is in
            let number : 1 + length one.front ≡ length one.front + 1 = omega arith in
            let P : ℕ → Type 0 = λ k. record_form t k (made_names one.plan) one.fields ≡ Err e in
            record {
              front = one.front;
              fields = one.fields;
              rest = one.rest;
              plan = one.plan;
              whole = one.whole;
              made = (plan-made one.front one.plan).0 one.made;
              faulty = (record-refused t (length one.front + 1) one.plan one.fields named e).0 (subst P number one.faulty);
            }

        here : IsRefused t all e → records_form t 1 [] all ≡ Err e
        here of =
            let number : length of.front + 1 ≡ 1 + length of.front = omega arith in
            let P : ℕ → Type 0 = λ k. record_form t k (made_names of.plan) of.fields ≡ Err e in
            let faulty = subst P number ((record-refused t (length of.front + 1) of.plan of.fields named e).1 of.faulty) in
            let made = (plan-made of.front of.plan).1 of.made in
            subst (λ (rs : List Record). records_form t 1 [] rs ≡ Err e) (sym of.whole)
            (refused-back 1 [] of.front of.fields of.rest of.plan e made faulty)
