-- Which refusal of a record comes. A record that is at fault in some way is refused for that, or for what it is tried for before.
use Rattle.std.proofs.Common.{◌≡◌, ◌∙◌, ◌<◌, ◌≤◌, ◌+◌, ◌%◌, ◌++◌, ◌↔◌, ◌⊎◌, [], ℕ, false}
use Rattle.std.proofs.Common.{not, map, List, Option, Some, None, Result, Ok, Err, length, drop, get_or, slice_get}
use Rattle.std.proofs.Common.{inl, inr, refl, sym, ap, subst, arith, nat_lt}
use Rattle.std.specs.List.{position_from}
use Rattle.std.proofs.lemmas.Bool.{cases_Bool, cases_lt, false≢true, lt-ltb}
use Rattle.fca_model.specs.Tables.{Text}
use Rattle.fca_model.specs.declared.TheConstants.{MAX_ATTRIBUTES}
use Rattle.text_pieces.specs.Lists.{EachName}
use Rattle.csv_context.specs.Records.{Record}
use Rattle.value_tables.specs.Form.{first_bad, is_field}
use Rattle.text_pieces.specs.Telling.{then, unless}
use Rattle.value_tables.specs.Values.{ValueTable, column, object_at, value_at}
use Rattle.context_scaling.specs.PlanForm.{few_names, kind_form, kind_of, names_form, or_fault, place_of, record_form}
use Rattle.context_scaling.specs.PlanForm.{scale_value, plan_record_form, plan_record_of, field_kind}
use Rattle.context_scaling.specs.Refusals.{HasBadName, HasBadScale, HasBadValue, IsAtFault, IsFaultless, IsFirstFault, IsRecordOf}
use Rattle.context_scaling.specs.Refusals.{NamesNoKind, numbered_field, is_new_name, turn_of}
use Rattle.context_scaling.specs.Scaling.{PlanRecord, is_scalable, made_names, names_of}
use Rattle.context_scaling.specs.declared.scales.Kind.{Kind}
use Rattle.context_scaling.specs.declared.scales.ScaleValue.{ScaleValue}
use Rattle.context_scaling.specs.declared.PlanFault.{PlanFault}
use Rattle.context_scaling.specs.declared.PlanFault.TheVariants as fault
use Rattle.context_scaling.proofs.RefusalLemmas.{bad-scale, bad-value, cases-Result, kind-Ok, kind-fault, names-Ok, names-fault}
use Rattle.context_scaling.proofs.RefusalLemmas.{names-new, ok-err, place-Some, place-first, record-fault, same-fault, same-ok}
use Rattle.context_scaling.proofs.RefusalLemmas.{no_bad-scale, no_bad-value, same-some, unscalable}

-- ---- there is one first

only-first : (P : ℕ → Type 0) (a b : ℕ) → P a → P b → ((k : ℕ) → k < a → P k → ⊥) → ((k : ℕ) → k < b → P k → ⊥) → a ≡ b
only-first P a b at_a at_b before_a before_b = elim (cases_lt a b) [
  | inl less ↦ absurd (before_b a less at_a)
  | inr more ↦ elim (cases_lt b a) [
    | inl less ↦ absurd (before_a b less at_b)
    | inr same ↦ omega arith
  ]
]

one-scale : (k : Kind) (fields : Record) (a b : ℕ) → HasBadScale k fields a → HasBadScale k fields b → a ≡ b
one-scale k fields a b one two =
    let P : ℕ → Type 0 = λ j. (3 ≤ j) × (is_field (field_kind k) (numbered_field fields j) ≡ false) in
    only-first P a b (one.behind, one.bad) (two.behind, two.bad)
    (λ j less at. false≢true (sym at.1 ∙ one.first j at.0 less))
    (λ j less at. false≢true (sym at.1 ∙ two.first j at.0 less))

one-value : (t : ValueTable) (s : PlanRecord) (a b : ℕ) → HasBadValue t s a → HasBadValue t s b → a ≡ b
one-value t s a b one two =
    let P : ℕ → Type 0 = λ r. is_scalable s.kind (value_at s.place (object_at t r)) ≡ false in
    only-first P a b (unscalable s.kind _ one.numbers one.some one.bad) (unscalable s.kind _ two.numbers two.some two.bad)
    (λ r less at. false≢true (sym at ∙ one.first r less))
    (λ r less at. false≢true (sym at ∙ two.first r less))

one-name : (seen : List Text) (s : PlanRecord) (a b : ℕ) → HasBadName seen s a → HasBadName seen s b → a ≡ b
one-name seen s a b one two =
    let P : ℕ → Type 0 = λ p. is_new_name seen (names_of s) p ≡ false in
    let same : one.place ≡ two.place = only-first P one.place two.place one.bad two.bad
    (λ p less at. false≢true (sym at ∙ one.first p less))
    (λ p less at. false≢true (sym at ∙ two.first p less)) in
    one.field ∙ ap (λ (p : ℕ). p % length s.values + 3) same ∙ sym two.field

-- the scaling of these parts
abbrev of_parts : Kind → Text → ℕ → List ScaleValue → PlanRecord
of_parts k attribute place values = record { kind = k; attribute = attribute; place = place; values = values }

scaling-ext : (s r : PlanRecord) → s.kind ≡ r.kind → s.attribute ≡ r.attribute → s.place ≡ r.place → s.values ≡ r.values → s ≡ r
scaling-ext s r kinds attributes places values =
    let same : of_parts s.kind s.attribute s.place s.values ≡ of_parts r.kind r.attribute r.place r.values = cc in
    same

one-scaling : (t : ValueTable) (fields : Record) (s r : PlanRecord) → IsRecordOf t s fields → IsRecordOf t r fields → s ≡ r
one-scaling t fields s r one two =
    let kinds : s.kind ≡ r.kind = same-some _ s.kind r.kind one.kind two.kind in
    let attributes : s.attribute ≡ r.attribute = one.attribute ∙ sym two.attribute in
    let P : ℕ → Type 0 = λ m. slice_get t.attributes m ≡ Some (numbered_field fields 2) in
    let places : s.place ≡ r.place = only-first P s.place r.place (one.place ∙ ap Some one.attribute) (two.place ∙ ap Some two.attribute)
    (λ m less at. one.first m less (at ∙ ap Some (sym one.attribute)))
    (λ m less at. two.first m less (at ∙ ap Some (sym two.attribute))) in
    let values : s.values ≡ r.values = one.values ∙ ap (λ (k : Kind). map (scale_value k) (drop 2 fields)) kinds ∙ sym two.values in
    scaling-ext s r kinds attributes places values

-- ---- the form refuses what is at fault

-- this answer is a refusal for that, or for what a record is tried for before
record Refuses (f : PlanFault) (r : Result PlanRecord PlanFault) : Type 0 where
  told : PlanFault
  is : r ≡ Err told
  by : (told ≡ f) ⊎ (turn_of told < turn_of f)

module _ (t : ValueTable) (i : ℕ) (plan : List PlanRecord) (fields : Record) (named : EachName t.attributes) where
  abbrev seen : List Text
  seen = made_names plan

  -- the answers from each try on
  abbrev from_place : Kind → Result PlanRecord PlanFault
  from_place k = then (or_fault (fault.UnknownAttribute i) (place_of t (get_or fields 1 [])))
      (λ place. plan_record_form t i seen fields (plan_record_of k place fields))

  abbrev from_names : PlanRecord → Result PlanRecord PlanFault
  from_names s = then (names_form i s.kind s.attribute seen s.values) (λ names. few_names i names s)

  abbrev from_values : PlanRecord → Result PlanRecord PlanFault
  from_values s = unless (position_from (λ text. not (is_scalable s.kind text)) 0 (column t s.place)) (fault.BadValue i) (from_names s)

  past_kind : (f : PlanFault) → 1 < turn_of f → ((k : Kind) → kind_form i fields ≡ Ok k → Refuses f (from_place k))
      → Refuses f (record_form t i seen fields)
  past_kind f later next = elim (cases-Result (kind_form i fields)) [
    | inl bad ↦
        let same : bad.0 ≡ fault.BadKind i = (kind-fault i fields bad.0 bad.1).0 in
        let P : PlanFault → Type 0 = λ e. turn_of e < turn_of f in
        record { told = bad.0; is = rw bad.1 refl; by = inr (subst P (sym same) later) }
    | inr good ↦ rw good.1 (next good.0 good.1)
  ]

  past_place : (f : PlanFault) (k : Kind) → 2 < turn_of f
      → ((place : ℕ) → place_of t (get_or fields 1 []) ≡ Some place → Refuses f (plan_record_form t i seen fields (plan_record_of k place fields)))
      → Refuses f (from_place k)
  past_place f k later next = by (place_of t (get_or fields 1 [])) refl
    where
      by : (o : Option ℕ) → place_of t (get_or fields 1 []) ≡ o → Refuses f (then (or_fault (fault.UnknownAttribute i) o)
          (λ place. plan_record_form t i seen fields (plan_record_of k place fields)))
      by None none = record { told = fault.UnknownAttribute i; is = refl; by = inr later }
      by (Some place) found = next place found

  scaling-Ok : (s r : PlanRecord) → plan_record_form t i seen fields s ≡ Ok r → s ≡ r
  scaling-Ok s r is = by_scale (first_bad (field_kind s.kind) 3 (drop 2 fields)) is
    where
      by_many : (names : List Text) → few_names i names s ≡ Ok r → s ≡ r
      by_many names is = elim (cases_Bool (nat_lt MAX_ATTRIBUTES (length names))) [
        | inl many ↦ absurd (ok-err _ r (fault.TooMany i) is (rw many refl))
        | inr few ↦ same-ok _ s r refl (rw few at is)
      ]

      by_names : (o : Result (List Text) PlanFault) → then o (λ names. few_names i names s) ≡ Ok r → s ≡ r
      by_names (Err e) is = absurd (ok-err _ r e is refl)
      by_names (Ok names) is = by_many names is

      by_value : (o : Option ℕ) → unless o (fault.BadValue i) (from_names s) ≡ Ok r → s ≡ r
      by_value (Some q) is = absurd (ok-err _ r (fault.BadValue i q) is refl)
      by_value None is = by_names (names_form i s.kind s.attribute seen s.values) is

      by_scale : (o : Option ℕ) → unless o (fault.BadScale i) (from_values s) ≡ Ok r → s ≡ r
      by_scale (Some j) is = absurd (ok-err _ r (fault.BadScale i j) is refl)
      by_scale None is = by_value (position_from (λ text. not (is_scalable s.kind text)) 0 (column t s.place)) is

  record_of : (k : Kind) (place : ℕ) → kind_form i fields ≡ Ok k → place_of t (get_or fields 1 []) ≡ Some place
      → IsRecordOf t (plan_record_of k place fields) fields
  record_of k place form found = record {
    kind = kind-Ok i fields k form;
    attribute = refl;
    place = place-Some t (get_or fields 1 []) place found;
    first = place-first t (get_or fields 1 []) place found;
    values = refl;
  }

  module _ (s : PlanRecord) (of : IsRecordOf t s fields) where
    past_names_of : (f : PlanFault) → 2 < turn_of f → Refuses f (plan_record_form t i seen fields s) → Refuses f (record_form t i seen fields)
    past_names_of f later next =
        past_kind f (omega (arith, later)) (λ k form. past_place f k later (λ place found.
        let same : s ≡ plan_record_of k place fields = one-scaling t fields s _ of (record_of k place form found) in
        subst (λ (r : PlanRecord). Refuses f (plan_record_form t i seen fields r)) same next))

    past_scale : (f : PlanFault) → 3 < turn_of f → Refuses f (from_values s) → Refuses f (plan_record_form t i seen fields s)
    past_scale f later next = by (first_bad (field_kind s.kind) 3 (drop 2 fields))
      where
        by : (o : Option ℕ) → Refuses f (unless o (fault.BadScale i) (from_values s))
        by (Some j) = record { told = fault.BadScale i j; is = refl; by = inr later }
        by None = next

    past_value : (f : PlanFault) → 4 < turn_of f → Refuses f (from_names s) → Refuses f (from_values s)
    past_value f later next = by (position_from (λ text. not (is_scalable s.kind text)) 0 (column t s.place))
      where
        by : (o : Option ℕ) → Refuses f (unless o (fault.BadValue i) (from_names s))
        by (Some r) = record { told = fault.BadValue i r; is = refl; by = inr later }
        by None = next

    past_name : (f : PlanFault) → 5 < turn_of f
        → ((names : List Text) → names_form i s.kind s.attribute seen s.values ≡ Ok names → Refuses f (few_names i names s))
        → Refuses f (from_names s)
    past_name f later next = by (names_form i s.kind s.attribute seen s.values) refl
      where
        by : (r : Result (List Text) PlanFault) → names_form i s.kind s.attribute seen s.values ≡ r
            → Refuses f (then r (λ names. few_names i names s))
        by (Err e) is =
            let one = names-fault i s.place s.attribute s.values s.kind seen e is in
            let P : PlanFault → Type 0 = λ e. turn_of e < turn_of f in
            record { told = e; is = refl; by = inr (subst P (sym one.fault_is) later) }
        by (Ok names) is = next names is

  -- each fault in its turn

  refuses : (f : PlanFault) → IsAtFault t i plan fields f → Refuses f (record_form t i seen fields)
  refuses (fault.NotUtf8 at) never = absurd never
  refuses (fault.BadKind k) at = record { told = fault.BadKind i; is = at_kind at.1; by = inl (ap fault.BadKind (sym at.0)) }
    where
      at_kind : NamesNoKind fields → record_form t i seen fields ≡ Err (fault.BadKind i)
      at_kind (inl short) = rw (lt-ltb (length fields) 3 short) refl
      at_kind (inr none) = elim (cases_Bool (nat_lt (length fields) 3)) [
        | inl short ↦ rw short refl
        | inr long ↦ let no : kind_of (get_or fields 0 []) ≡ None = none in rw (long, no) refl
      ]
  refuses (fault.UnknownAttribute k) at =
      past_kind (fault.UnknownAttribute k) (omega arith) (λ kind form. by kind (place_of t (get_or fields 1 [])) refl)
    where
      by : (kind : Kind) (o : Option ℕ) → place_of t (get_or fields 1 []) ≡ o → Refuses (fault.UnknownAttribute k)
          (then (or_fault (fault.UnknownAttribute i) o) (λ place. plan_record_form t i seen fields (plan_record_of kind place fields)))
      by kind None none =
          record { told = fault.UnknownAttribute i; is = refl; by = inl (ap fault.UnknownAttribute (sym at.0)) }
      by kind (Some place) found = absurd (at.1 place (place-Some t (get_or fields 1 []) place found))
  refuses (fault.BadScale k j) (same, (s, of, bad)) =
      past_names_of s of (fault.BadScale k j) (omega arith) (by (first_bad (field_kind s.kind) 3 (drop 2 fields)) refl)
    where
      by : (o : Option ℕ) → first_bad (field_kind s.kind) 3 (drop 2 fields) ≡ o
          → Refuses (fault.BadScale k j) (unless o (fault.BadScale i) (from_values s))
      by None none = absurd (no_bad-scale s.kind fields j none bad)
      by (Some q) found =
          let fields_same : q ≡ j = one-scale s.kind fields q j (bad-scale s.kind fields q found) bad in
          record { told = fault.BadScale i q; is = refl; by = inl (cc) }
  refuses (fault.BadValue k r) (same, (s, of, bad)) =
      past_names_of s of (fault.BadValue k r) (omega arith) (past_scale s of (fault.BadValue k r) (omega arith)
      (by (position_from (λ text. not (is_scalable s.kind text)) 0 (column t s.place)) refl))
    where
      by : (o : Option ℕ) → position_from (λ text. not (is_scalable s.kind text)) 0 (column t s.place) ≡ o
          → Refuses (fault.BadValue k r) (unless o (fault.BadValue i) (from_names s))
      by None none = absurd (no_bad-value t s r none bad)
      by (Some q) found =
          let objects_same : q ≡ r = one-value t s q r (bad-value t s q found) bad in
          record { told = fault.BadValue i q; is = refl; by = inl (cc) }
  refuses (fault.BadName k j) (same, (s, of, bad)) =
      past_names_of s of (fault.BadName k j) (omega arith) (past_scale s of (fault.BadName k j) (omega arith)
      (past_value s of (fault.BadName k j) (omega arith) (by (names_form i s.kind s.attribute seen s.values) refl)))
    where
      by : (r : Result (List Text) PlanFault) → names_form i s.kind s.attribute seen s.values ≡ r
          → Refuses (fault.BadName k j) (then r (λ names. few_names i names s))
      by (Err e) form =
          let one = names-fault i s.place s.attribute s.values s.kind seen e form in
          let fields_same : one.field ≡ j = one-name seen s one.field j one.has bad in
          let told : e ≡ fault.BadName i one.field = one.fault_is in
          record { told = e; is = refl; by = inl (cc) }
      by (Ok names) form =
          absurd (false≢true (sym bad.bad
          ∙ names-new i s.place s.attribute s.values s.kind seen names form bad.place bad.inside))
  refuses (fault.TooMany k) (same, (s, of, many)) =
      past_names_of s of (fault.TooMany k) (omega arith) (past_scale s of (fault.TooMany k) (omega arith)
      (past_value s of (fault.TooMany k) (omega arith) (past_name s of (fault.TooMany k) (omega arith) by)))
    where
      by : (names : List Text) → names_form i s.kind s.attribute seen s.values ≡ Ok names
          → Refuses (fault.TooMany k) (few_names i names s)
      by names form =
          let all : names ≡ seen ++ names_of s = names-Ok i s.place s.attribute s.values s.kind seen names form in
          let P : List Text → Type 0 = λ ns. MAX_ATTRIBUTES < length ns in
          let more : MAX_ATTRIBUTES < length names = subst P (sym all) many in
          record {
            told = fault.TooMany i;
            is = rw (lt-ltb MAX_ATTRIBUTES (length names) more) refl;
            by = inl (ap fault.TooMany (sym same));
          }
  refuses fault.Memory never = absurd never

  -- ---- exactly these refusals, and exactly these scalings

  pub record-refused : (e : PlanFault) → (record_form t i seen fields ≡ Err e) ↔ IsFirstFault t i plan fields e
  record-refused e = (λ is. record { faulty = record-fault t i plan fields e named is; first = earlier is }, back)
    where
      earlier : record_form t i seen fields ≡ Err e → (f : PlanFault) → turn_of f < turn_of e → IsAtFault t i plan fields f → ⊥
      earlier is f less at =
          let one = refuses f at in
          let same : one.told ≡ e = same-fault _ one.told e one.is is in
          let turn : turn_of one.told ≡ turn_of e = ap turn_of same in
          elim one.by [
            | inl told ↦ absurd (omega (arith, less, turn, ap turn_of told))
            | inr before ↦ absurd (omega (arith, less, turn, before))
          ]

      back : IsFirstFault t i plan fields e → record_form t i seen fields ≡ Err e
      back only =
          let one = refuses e only.faulty in
          elim one.by [
            | inl told ↦ one.is ∙ ap Err told
            | inr before ↦ absurd (only.first one.told before (record-fault t i plan fields one.told named one.is))
          ]

  record-Ok : (s : PlanRecord) → record_form t i seen fields ≡ Ok s → IsRecordOf t s fields
  record-Ok s is = elim (cases-Result (kind_form i fields)) [
    | inl bad ↦ absurd (ok-err _ s bad.0 is (rw bad.1 refl))
    | inr good ↦ by good.0 good.1 (place_of t (get_or fields 1 [])) refl (rw good.1 at is)
  ]
    where
      by : (k : Kind) → kind_form i fields ≡ Ok k → (o : Option ℕ) → place_of t (get_or fields 1 []) ≡ o
          → then (or_fault (fault.UnknownAttribute i) o) (λ place. plan_record_form t i seen fields (plan_record_of k place fields)) ≡ Ok s
          → IsRecordOf t s fields
      by k form None none is = absurd (ok-err _ s (fault.UnknownAttribute i) is refl)
      by k form (Some place) found is =
          let of : IsRecordOf t (plan_record_of k place fields) fields = record_of k place form found in
          subst (λ (r : PlanRecord). IsRecordOf t r fields) (scaling-Ok (plan_record_of k place fields) s is) of

  pub record-made : (s : PlanRecord) → (record_form t i seen fields ≡ Ok s) ↔ IsFaultless t i plan fields s
  record-made s = (λ is. record { named = record-Ok s is; faultless = none is }, back)
    where
      none : record_form t i seen fields ≡ Ok s → (e : PlanFault) → IsAtFault t i plan fields e → ⊥
      none is e at = let one = refuses e at in ok-err _ s one.told is one.is

      back : IsFaultless t i plan fields s → record_form t i seen fields ≡ Ok s
      back only = elim (cases-Result (record_form t i seen fields)) [
        | inl bad ↦ absurd (only.faultless bad.0 (record-fault t i plan fields bad.0 named bad.1))
        | inr good ↦ good.1 ∙ ap Ok (one-scaling t fields good.0 s (record-Ok good.0 good.1) only.named)
      ]
