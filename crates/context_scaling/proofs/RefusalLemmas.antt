-- Why a record of a plan is refused. The form goes through what a record is tried for in its order; so what is refused tells how far it
-- came.
use Rattle.std.proofs.Common.{◌≡◌, ◌≢◌, ◌∙◌, ◌<◌, ◌≤◌, ◌+◌, ◌-◌, ◌%◌, ◌&&◌, ◌||◌, ◌==◌, ◌++◌, ◌∷◌, [], ℕ, zero, suc, Bool, true, false}
use Rattle.std.proofs.Common.{not, List, Option, Some, None, Result, Ok, Err, length, take, drop, map, get_or, slice_get, position}
use Rattle.std.proofs.Common.{bytes_eq}
use Rattle.std.proofs.Common.{ltb, ltb-true, ltb-false, ne_eqb, length-append, length-drop, get_or-drop, append_assoc, inl, inr, refl}
use Rattle.std.proofs.Common.{sym, ap, subst, arith}
use Rattle.std.specs.Prelude.{◌⊎◌, ℤ, is_some, nat_lt}
use Rattle.std.specs.List.{list_any, position_from, position_or_len}
use Rattle.std.proofs.Math.Nat.{add-mod_left, mod-eq_of_lt}
use Rattle.std.proofs.lemmas.Bool.{cases_Bool, cases_lt, false≢true, not-false, not-true, or_parts}
use Rattle.std.proofs.lemmas.List.{append-nil, get_or-map, get_or_append_left, length-map, take-append-le}
use Rattle.std.proofs.lemmas.List.Sums.{fails_before_first}
use Rattle.std.proofs.lemmas.Option.{slice_get_within, get_or_from_slice_get, none-some}
use Rattle.std.proofs.lemmas.Slice.Eq.{bytes_eq-Decides}
use Rattle.fca_model.specs.Names.{name_fault}
use Rattle.fca_model.specs.Tables.{Text}
use Rattle.fca_model.specs.declared.TheConstants.{MAX_ATTRIBUTES}
use Rattle.text_pieces.specs.Lists.{EachName}
use Rattle.csv_context.specs.Records.{Record}
use Rattle.value_tables.specs.Form.{first_bad, is_field, is_name}
use Rattle.value_tables.specs.Numbers.{number_of}
use Rattle.text_pieces.specs.Telling.{then, unless}
use Rattle.value_tables.specs.Values.{ValueTable, column, no_object, object_at, value_at}
use Rattle.value_tables.specs.declared.fields.FieldKind.{FieldKind}
use Rattle.context_scaling.specs.PlanForm.{add_names, few_names, kind_form, kind_of, names_form, or_fault, place_of}
use Rattle.context_scaling.specs.PlanForm.{record_form, plan_record_form, plan_record_of, field_kind}
use Rattle.context_scaling.specs.Refusals.{HasBadName, HasBadScale, HasBadValue, IsAtFault, IsRecordOf}
use Rattle.context_scaling.specs.Refusals.{NamesNoKind, numbered_field, is_new_name}
use Rattle.context_scaling.specs.Scaling.{PlanRecord, is_scalable, made_names, made_name, names_of}
use Rattle.context_scaling.specs.declared.scales.Kind.{Kind}
use Rattle.context_scaling.specs.declared.scales.Kind.TheVariants as kind
use Rattle.context_scaling.specs.declared.scales.Relation.{Relation}
use Rattle.context_scaling.specs.declared.scales.Relation.TheVariants as relation
use Rattle.context_scaling.specs.declared.scales.ScaleValue.{ScaleValue}
use Rattle.context_scaling.specs.declared.PlanFault.{PlanFault}
use Rattle.context_scaling.specs.declared.PlanFault.TheVariants as fault
use Rattle.context_scaling.proofs.ReadLemmas.{position_at}

-- ---- answers

pub ok-err : {X : Type 0} (r : Result X PlanFault) (x : X) (e : PlanFault) → r ≡ Ok x → r ≡ Err e → ⊥
ok-err r x e one two = let both : Ok x ≡ Err e = sym one ∙ two in cc

pub same-fault : {X : Type 0} (r : Result X PlanFault) (e f : PlanFault) → r ≡ Err e → r ≡ Err f → e ≡ f
same-fault r e f one two = let both : Err e ≡ Err f = sym one ∙ two in cc

pub same-ok : {X : Type 0} (r : Result X PlanFault) (x y : X) → r ≡ Ok x → r ≡ Ok y → x ≡ y
same-ok r x y one two = let both : Ok x ≡ Ok y = sym one ∙ two in cc

pub cases-Result : {X : Type 0} (r : Result X PlanFault) → ((e : PlanFault) × (r ≡ Err e)) ⊎ ((x : X) × (r ≡ Ok x))
cases-Result (Ok x) = inr (x, refl)
cases-Result (Err e) = inl (e, refl)

pub same-some : {X : Type 0} (o : Option X) (x y : X) → o ≡ Some x → o ≡ Some y → x ≡ y
same-some o x y one two = let both : Some x ≡ Some y = sym one ∙ two in cc

-- ---- the first that passes a test

-- of a list that begins at place i, the element at place j is the first that passes
record IsFirst (test : Text → Bool) (i j : ℕ) (texts : List Text) : Type 0 where
  behind : i ≤ j
  inside : j < i + length texts
  passes : test (get_or texts (j - i) []) ≡ true
  fails : (k : ℕ) → i ≤ k → k < j → test (get_or texts (k - i) []) ≡ false

first-Some : (test : Text → Bool) (i j : ℕ) (texts : List Text) → position_from test i texts ≡ Some j → IsFirst test i j texts
first-Some test i j [] is = absurd (none-some j is)
first-Some test i j (text ∷ texts) is = elim (cases_Bool (test text)) [
  | inl here ↦
      let same : i ≡ j = same-some (Some i) i j refl (rw here at is) in
      let none : j - i ≡ 0 = omega arith in
      record { behind = omega arith; inside = omega arith; passes = rw none here; fails = λ k from below. absurd (omega arith) }
  | inr past ↦
      let later : position_from test (i + 1) texts ≡ Some j = rw past at is in
      let rest = first-Some test (i + 1) j texts later in
      let from : i + 1 ≤ j = rest.behind in
      let less : j < i + 1 + length texts = rest.inside in
      let back : j - i ≡ suc (j - (i + 1)) = omega arith in
      record {
        behind = omega arith;
        inside = omega arith;
        passes = rw back rest.passes;
        fails = λ k at below. elim (cases_lt i k) [
          | inl more ↦ let back : k - i ≡ suc (k - (i + 1)) = omega arith in rw back (rest.fails k (omega arith) below)
          | inr first ↦ let none : k - i ≡ 0 = omega arith in rw none past
        ];
      }
]

first-None : (test : Text → Bool) (i : ℕ) (texts : List Text) → position_from test i texts ≡ None → (k : ℕ) → i ≤ k → k < i + length texts
    → test (get_or texts (k - i) []) ≡ false
first-None test i [] is k from below = absurd (omega arith)
first-None test i (text ∷ texts) is k from below = elim (cases_Bool (test text)) [
  | inl here ↦ absurd (none-some i (sym (rw here at is)))
  | inr past ↦ elim (cases_lt i k) [
    | inl more ↦
        let back : k - i ≡ suc (k - (i + 1)) = omega arith in
        rw back (first-None test (i + 1) texts (rw past at is) k (omega arith) (omega arith))
    | inr first ↦ let none : k - i ≡ 0 = omega arith in rw none past
  ]
]

first_bad-position : (kind : FieldKind) (i : ℕ) (fields : List Text)
    → first_bad kind i fields ≡ position_from (λ field. not (is_field kind field)) i fields
first_bad-position kind i [] = refl
first_bad-position kind i (field ∷ fields) = elim (cases_Bool (is_field kind field)) [
  | inl good ↦ rw good (first_bad-position kind (i + 1) fields)
  | inr bad ↦ rw bad refl
]

-- ---- kinds and attributes

pub kind-fault : (i : ℕ) (fields : Record) (e : PlanFault) → kind_form i fields ≡ Err e → (e ≡ fault.BadKind i) × NamesNoKind fields
kind-fault i fields e is = elim (cases_Bool (nat_lt (length fields) 3)) [
  | inl short ↦
      (sym (same-fault _ (fault.BadKind i) e refl (rw short at is)), inl (ltb-true (length fields) 3 short))
  | inr long ↦ by (kind_of (get_or fields 0 [])) refl (rw long at is)
]
  where
    by : (o : Option Kind) → kind_of (get_or fields 0 []) ≡ o → or_fault (fault.BadKind i) o ≡ Err e
        → (e ≡ fault.BadKind i) × NamesNoKind fields
    by None none is = (sym (same-fault _ (fault.BadKind i) e refl is), inr none)
    by (Some kind) some is = absurd (ok-err _ kind e refl is)

pub kind-Ok : (i : ℕ) (fields : Record) (k : Kind) → kind_form i fields ≡ Ok k → kind_of (get_or fields 0 []) ≡ Some k
kind-Ok i fields k is = elim (cases_Bool (nat_lt (length fields) 3)) [
  | inl short ↦ absurd (ok-err _ k (fault.BadKind i) (rw short at is) refl)
  | inr long ↦ by (kind_of (get_or fields 0 [])) refl (rw long at is)
]
  where
    by : (o : Option Kind) → kind_of (get_or fields 0 []) ≡ o → or_fault (fault.BadKind i) o ≡ Ok k → kind_of (get_or fields 0 []) ≡ Some k
    by None none is = absurd (ok-err _ k (fault.BadKind i) is refl)
    by (Some other) some is = some ∙ ap Some (same-ok _ other k refl is)

faultless-at : (names : List Text) (m : ℕ) (name : Text) → EachName names → slice_get names m ≡ Some name → name_fault name ≡ None
faultless-at [] m name named is = absurd (none-some name is)
faultless-at (first ∷ names) zero name named is = ap name_fault (sym (same-some _ first name refl is)) ∙ named.0.faultless
faultless-at (first ∷ names) (suc m) name named is = faultless-at names m name named.1 is

position-None : (names : List Text) (m : ℕ) (name : Text) → position (bytes_eq name) names ≡ None → slice_get names m ≡ Some name → ⊥
position-None names m name none is = elim (cases_Bool (ltb (position_or_len (bytes_eq name) names) (length names))) [
  | inl less ↦ none-some _ (sym (rw less at none))
  | inr past ↦
      let below = slice_get_within names m name is in
      let before : m < position_or_len (bytes_eq name) names = omega (arith, below, ltb-false _ _ past) in
      let differs = fails_before_first (bytes_eq name) names m [] before in
      let same = (bytes_eq-Decides name (get_or names m [])).1 (sym (get_or_from_slice_get names m name [] is)) in
      false≢true (sym differs ∙ same)
]

pub place-None : (t : ValueTable) (name : Text) → EachName t.attributes → place_of t name ≡ None → (m : ℕ)
    → slice_get t.attributes m ≢ Some name
place-None t name named none m is =
    let faultless = faultless-at t.attributes m name named is in
    position-None t.attributes m name (rw faultless at none) is

pub place-Some : (t : ValueTable) (name : Text) (place : ℕ) → place_of t name ≡ Some place → slice_get t.attributes place ≡ Some name
place-Some t name place is = elim (cases_Bool (is_name name)) [
  | inl named ↦ position_at name t.attributes place (rw named at is)
  | inr unnamed ↦ absurd (none-some place (rw unnamed at is))
]

position-first : (names : List Text) (place m : ℕ) (name : Text) → position (bytes_eq name) names ≡ Some place → m < place
    → slice_get names m ≢ Some name
position-first names place m name is below got = elim (cases_Bool (ltb (position_or_len (bytes_eq name) names) (length names))) [
  | inl less ↦
      let at : position_or_len (bytes_eq name) names ≡ place = same-some _ _ place refl (rw less at is) in
      let differs = fails_before_first (bytes_eq name) names m [] (omega (arith, at, below)) in
      let same = (bytes_eq-Decides name (get_or names m [])).1 (sym (get_or_from_slice_get names m name [] got)) in
      false≢true (sym differs ∙ same)
  | inr past ↦ none-some place (rw past at is)
]

pub place-first : (t : ValueTable) (name : Text) (place : ℕ) → place_of t name ≡ Some place → (m : ℕ) → m < place
    → slice_get t.attributes m ≢ Some name
place-first t name place is m below got = elim (cases_Bool (is_name name)) [
  | inl named ↦ position-first t.attributes place m name (rw named at is) below got
  | inr unnamed ↦ absurd (none-some place (rw unnamed at is))
]

-- ---- names that are made

new-first : (seen : List Text) (name : Text) (names : List Text)
    → is_new_name seen (name ∷ names) 0 ≡ (is_name name && not (list_any (bytes_eq name) seen))
new-first seen name names = ap (λ (all : List Text). is_name name && not (list_any (bytes_eq name) all)) (append-nil seen)

new-later : (seen : List Text) (name : Text) (names : List Text) (p : ℕ)
    → is_new_name seen (name ∷ names) (suc p) ≡ is_new_name (seen ++ name ∷ []) names p
new-later seen name names p =
    ap (λ (all : List Text). is_name (get_or names p []) && not (list_any (bytes_eq (get_or names p [])) all))
    (sym (append_assoc seen (name ∷ []) (take p names)))

module _ (i : ℕ) (attribute : Text) (r : Relation) where
  abbrev made : List ScaleValue → List Text
  made values = map (made_name attribute r) values

  record AddFault (j : ℕ) (seen : List Text) (values : List ScaleValue) (e : PlanFault) : Type 0 where
    place : ℕ
    inside : place < length values
    fault_is : e ≡ fault.BadName i (j + place)
    bad : is_new_name seen (made values) place ≡ false
    first : (q : ℕ) → q < place → is_new_name seen (made values) q ≡ true

  add-fault : (j : ℕ) (seen : List Text) (values : List ScaleValue) (e : PlanFault) → add_names i attribute r j seen values ≡ Err e
      → AddFault j seen values e
  add-fault j seen [] e is = absurd (ok-err _ seen e refl is)
  add-fault j seen (v ∷ values) e is =
      let name : Text = made_name attribute r v in
      elim (cases_Bool (is_name name && not (list_any (bytes_eq name) seen))) [
        | inl good ↦
            let later = add-fault (j + 1) (seen ++ name ∷ []) values e (rw good at is) in
            let next : j + 1 + later.place ≡ j + suc later.place = omega arith in
            let less : later.place < length values = later.inside in
            record {
              place = suc later.place;
              inside = omega arith;
              fault_is = later.fault_is ∙ ap (fault.BadName i) next;
              bad = new-later seen name (made values) later.place ∙ later.bad;
              first = earlier seen name values later.place good later.first;
            }
        | inr bad ↦
            let same : e ≡ fault.BadName i j = sym (same-fault _ (fault.BadName i j) e refl (rw bad at is)) in
            let here : j ≡ j + 0 = omega arith in
            record {
              place = 0;
              inside = omega arith;
              fault_is = same ∙ ap (fault.BadName i) here;
              bad = new-first seen name (made values) ∙ bad;
              first = λ q below. absurd (omega arith);
            }
      ]
    where
      earlier : (seen : List Text) (name : Text) (values : List ScaleValue) (p : ℕ)
          → (is_name name && not (list_any (bytes_eq name) seen)) ≡ true
          → ((q : ℕ) → q < p → is_new_name (seen ++ name ∷ []) (made values) q ≡ true) → (q : ℕ) → q < suc p
          → is_new_name seen (name ∷ made values) q ≡ true
      earlier seen name values p good rest zero below = new-first seen name (made values) ∙ good
      earlier seen name values p good rest (suc q) below = new-later seen name (made values) q ∙ rest q (omega arith)

  record AddOk (seen : List Text) (values : List ScaleValue) (names : List Text) : Type 0 where
    all : names ≡ seen ++ made values
    new : (q : ℕ) → q < length values → is_new_name seen (made values) q ≡ true

  add-Ok : (j : ℕ) (seen : List Text) (values : List ScaleValue) (names : List Text) → add_names i attribute r j seen values ≡ Ok names
      → AddOk seen values names
  add-Ok j seen [] names is =
      let same : seen ≡ names = same-ok _ seen names refl is in
      record { all = sym same ∙ sym (append-nil seen); new = λ q below. absurd (omega arith) }
  add-Ok j seen (v ∷ values) names is =
      let name : Text = made_name attribute r v in
      elim (cases_Bool (is_name name && not (list_any (bytes_eq name) seen))) [
        | inl good ↦
            let rest = add-Ok (j + 1) (seen ++ name ∷ []) values names (rw good at is) in
            record { all = rest.all ∙ append_assoc seen (name ∷ []) (made values); new = each seen name values good rest.new }
        | inr bad ↦ absurd (ok-err _ names (fault.BadName i j) (rw bad at is) refl)
      ]
    where
      each : (seen : List Text) (name : Text) (values : List ScaleValue) → (is_name name && not (list_any (bytes_eq name) seen)) ≡ true
          → ((q : ℕ) → q < length values → is_new_name (seen ++ name ∷ []) (made values) q ≡ true)
          → (q : ℕ) → q < suc (length values) → is_new_name seen (name ∷ made values) q ≡ true
      each seen name values good rest zero below = new-first seen name (made values) ∙ good
      each seen name values good rest (suc q) below = new-later seen name (made values) q ∙ rest q (omega arith)

-- of two lists of names, one behind the other
new-left : (seen lows highs : List Text) (p : ℕ) → p < length lows → is_new_name seen (lows ++ highs) p ≡ is_new_name seen lows p
new-left seen lows highs p below =
    rw (get_or_append_left lows highs [] p below, take-append-le p lows highs (omega arith)) refl

new-right : (seen lows highs : List Text) (p : ℕ) → is_new_name seen (lows ++ highs) (length lows + p) ≡ is_new_name (seen ++ lows) highs p
new-right seen [] highs p =
    let none : 0 + p ≡ p = omega arith in
    let same : seen ≡ seen ++ [] = sym (append-nil seen) in
    ap (λ (k : ℕ). is_new_name seen highs k) none ∙ ap (λ (all : List Text). is_new_name all highs p) same
new-right seen (name ∷ lows) highs p =
    let next : length (name ∷ lows) + p ≡ suc (length lows + p) = omega arith in
    ap (λ (k : ℕ). is_new_name seen (name ∷ lows ++ highs) k) next
    ∙ new-later seen name (lows ++ highs) (length lows + p)
    ∙ new-right (seen ++ name ∷ []) lows highs p
    ∙ ap (λ (all : List Text). is_new_name all highs p) (append_assoc seen (name ∷ []) lows)

-- ---- the names of a record

pub record NamesFault (i : ℕ) (seen : List Text) (s : PlanRecord) (e : PlanFault) : Type 0 where
  pub field : ℕ
  pub fault_is : e ≡ fault.BadName i field
  pub has : HasBadName seen s field

module _ (i place : ℕ) (attribute : Text) (values : List ScaleValue) where
  abbrev pub of_kind : Kind → PlanRecord
  of_kind k = record { kind = k; attribute = attribute; place = place; values = values }

  of_one : (r : Relation) (k : Kind) (seen : List Text) (e : PlanFault) → names_of (of_kind k) ≡ map (made_name attribute r) values
      → add_names i attribute r 3 seen values ≡ Err e → NamesFault i seen (of_kind k) e
  of_one r k seen e names is =
      let one = add-fault i attribute r 3 seen values e is in
      let small : one.place % length values ≡ one.place = mod-eq_of_lt one.inside in
      let field : 3 + one.place ≡ one.place % length values + 3 = omega (arith, small) in
      record {
        field = 3 + one.place;
        fault_is = one.fault_is;
        has = record {
          place = one.place;
          inside = rw names (omega (arith, one.inside, length-map values (made_name attribute r)));
          field = field;
          bad = rw names one.bad;
          first = λ q below. rw names (one.first q below);
        };
      }

  of_two : (seen : List Text) (e : PlanFault) (low : Result (List Text) PlanFault)
      → add_names i attribute relation.AtMost 3 seen values ≡ low
      → then low (λ made. add_names i attribute relation.AtLeast 3 made values) ≡ Err e → NamesFault i seen (of_kind kind.Interordinal) e
  of_two seen e (Err other) low is =
      let same : other ≡ e = same-fault _ other e refl is in
      let one = add-fault i attribute relation.AtMost 3 seen values e (low ∙ ap Err same) in
      let lows : List Text = map (made_name attribute relation.AtMost) values in
      let highs : List Text = map (made_name attribute relation.AtLeast) values in
      let size : length lows ≡ length values = length-map values (made_name attribute relation.AtMost) in
      let inside : one.place < length lows = omega (arith, one.inside, size) in
      let small : one.place % length values ≡ one.place = mod-eq_of_lt one.inside in
      record {
        field = 3 + one.place;
        fault_is = one.fault_is;
        has = record {
          place = one.place;
          inside = omega (arith, inside, length-append lows highs);
          field = omega (arith, small);
          bad = new-left seen lows highs one.place inside ∙ one.bad;
          first = λ q below. new-left seen lows highs q (omega arith) ∙ one.first q below;
        };
      }
  of_two seen e (Ok made) low is =
      let lows : List Text = map (made_name attribute relation.AtMost) values in
      let highs : List Text = map (made_name attribute relation.AtLeast) values in
      let first = add-Ok i attribute relation.AtMost 3 seen values made low in
      let P : List Text → Type 0 = λ names. add_names i attribute relation.AtLeast 3 names values ≡ Err e in
      let one = add-fault i attribute relation.AtLeast 3 (seen ++ lows) values e (subst P first.all is) in
      let low_size : length lows ≡ length values = length-map values (made_name attribute relation.AtMost) in
      let high_size : length highs ≡ length values = length-map values (made_name attribute relation.AtLeast) in
      let less : one.place < length values = one.inside in
      let small : one.place % length values ≡ one.place = mod-eq_of_lt less in
      let second : (length values + one.place) % length values ≡ one.place = add-mod_left (length values) one.place ∙ small in
      let at : (length lows + one.place) % length values ≡ one.place = ap (λ (n : ℕ). (n + one.place) % length values) low_size ∙ second in
      record {
        field = 3 + one.place;
        fault_is = one.fault_is;
        has = record {
          place = length lows + one.place;
          inside = omega (arith, less, high_size, length-append lows highs);
          field = omega (arith, at);
          bad = new-right seen lows highs one.place ∙ one.bad;
          first = λ q below. elim (cases_lt q (length lows)) [
            | inl left ↦ new-left seen lows highs q left ∙ first.new q (omega (arith, low_size))
            | inr right ↦
                let back : length lows + (q - length lows) ≡ q = omega arith in
                let R : ℕ → Type 0 = λ k. is_new_name seen (lows ++ highs) k ≡ true in
                subst R back (new-right seen lows highs (q - length lows) ∙ one.first (q - length lows) (omega arith))
          ];
        };
      }

  pub names-fault : (k : Kind) (seen : List Text) (e : PlanFault) → names_form i k attribute seen values ≡ Err e
      → NamesFault i seen (of_kind k) e
  names-fault kind.Nominal seen e is = of_one relation.Equal kind.Nominal seen e refl is
  names-fault kind.Ordinal seen e is = of_one relation.AtMost kind.Ordinal seen e refl is
  names-fault kind.Interordinal seen e is = of_two seen e (add_names i attribute relation.AtMost 3 seen values) refl is

  pub names-Ok : (k : Kind) (seen names : List Text) → names_form i k attribute seen values ≡ Ok names
      → names ≡ seen ++ names_of (of_kind k)
  names-Ok kind.Nominal seen names is = (add-Ok i attribute relation.Equal 3 seen values names is).all
  names-Ok kind.Ordinal seen names is = (add-Ok i attribute relation.AtMost 3 seen values names is).all
  names-Ok kind.Interordinal seen names is = by (add_names i attribute relation.AtMost 3 seen values) refl is
    where
      by : (low : Result (List Text) PlanFault) → add_names i attribute relation.AtMost 3 seen values ≡ low
          → then low (λ made. add_names i attribute relation.AtLeast 3 made values) ≡ Ok names
          → names ≡ seen ++ names_of (of_kind kind.Interordinal)
      by (Err other) low is = absurd (ok-err _ names other is refl)
      by (Ok made) low is =
          (add-Ok i attribute relation.AtLeast 3 made values names is).all
          ∙ ap (λ (front : List Text). front ++ map (made_name attribute relation.AtLeast) values)
          (add-Ok i attribute relation.AtMost 3 seen values made low).all
          ∙ append_assoc seen (map (made_name attribute relation.AtMost) values) (map (made_name attribute relation.AtLeast) values)

  -- after all went well, each name is new
  pub names-new : (k : Kind) (seen names : List Text) → names_form i k attribute seen values ≡ Ok names → (q : ℕ)
      → q < length (names_of (of_kind k)) → is_new_name seen (names_of (of_kind k)) q ≡ true
  names-new kind.Nominal seen names is q below =
      let size = length-map values (made_name attribute relation.Equal) in
      (add-Ok i attribute relation.Equal 3 seen values names is).new q (omega (arith, below, size))
  names-new kind.Ordinal seen names is q below =
      let size = length-map values (made_name attribute relation.AtMost) in
      (add-Ok i attribute relation.AtMost 3 seen values names is).new q (omega (arith, below, size))
  names-new kind.Interordinal seen names is q below = by (add_names i attribute relation.AtMost 3 seen values) refl is
    where
      lows : List Text
      lows = map (made_name attribute relation.AtMost) values

      highs : List Text
      highs = map (made_name attribute relation.AtLeast) values

      by : (low : Result (List Text) PlanFault) → add_names i attribute relation.AtMost 3 seen values ≡ low
          → then low (λ made. add_names i attribute relation.AtLeast 3 made values) ≡ Ok names
          → is_new_name seen (lows ++ highs) q ≡ true
      by (Err other) low is = absurd (ok-err _ names other is refl)
      by (Ok made) low is =
          let first = add-Ok i attribute relation.AtMost 3 seen values made low in
          let P : List Text → Type 0 = λ ns. add_names i attribute relation.AtLeast 3 ns values ≡ Ok names in
          let second = add-Ok i attribute relation.AtLeast 3 (seen ++ lows) values names (subst P first.all is) in
          let low_size : length lows ≡ length values = length-map values (made_name attribute relation.AtMost) in
          let high_size : length highs ≡ length values = length-map values (made_name attribute relation.AtLeast) in
          elim (cases_lt q (length lows)) [
            | inl left ↦ new-left seen lows highs q left ∙ first.new q (omega (arith, left, low_size))
            | inr right ↦
                let back : length lows + (q - length lows) ≡ q = omega arith in
                let inside : q - length lows < length values = omega (arith, below, right, high_size, length-append lows highs) in
                let R : ℕ → Type 0 = λ k. is_new_name seen (lows ++ highs) k ≡ true in
                subst R back (new-right seen lows highs (q - length lows) ∙ second.new (q - length lows) inside)
          ]

-- ---- scale values and values

scale-field : (fields : Record) (q : ℕ) → 3 ≤ q → get_or (drop 2 fields) (q - 3) [] ≡ numbered_field fields q
scale-field fields q from =
    let at : 2 + (q - 3) ≡ q - 1 = omega arith in get_or-drop 2 fields (q - 3) [] ∙ ap (λ (n : ℕ). get_or fields n []) at

pub bad-scale : (k : Kind) (fields : Record) (j : ℕ) → first_bad (field_kind k) 3 (drop 2 fields) ≡ Some j → HasBadScale k fields j
bad-scale k fields j is =
    let test : Text → Bool = λ field. not (is_field (field_kind k) field) in
    let first = first-Some test 3 j (drop 2 fields) (sym (first_bad-position (field_kind k) 3 (drop 2 fields)) ∙ is) in
    let less : j < 3 + length (drop 2 fields) = first.inside in
    let behind : 3 ≤ j = first.behind in
    record {
      behind = behind;
      inside = omega (arith, length-drop 2 fields);
      bad = ap (is_field (field_kind k)) (sym (scale-field fields j behind)) ∙ not-true _ first.passes;
      first = λ q from below. ap (is_field (field_kind k)) (sym (scale-field fields q from)) ∙ not-false _ (first.fails q from below);
    }

pub no_bad-scale : (k : Kind) (fields : Record) (j : ℕ) → first_bad (field_kind k) 3 (drop 2 fields) ≡ None → HasBadScale k fields j → ⊥
no_bad-scale k fields j none has =
    let test : Text → Bool = λ field. not (is_field (field_kind k) field) in
    let no = sym (first_bad-position (field_kind k) 3 (drop 2 fields)) ∙ none in
    let below : j < 3 + length (drop 2 fields) = omega (arith, has.behind, has.inside, length-drop 2 fields) in
    let good = not-false _ (first-None test 3 (drop 2 fields) no j has.behind below) in
    false≢true (sym has.bad ∙ ap (is_field (field_kind k)) (sym (scale-field fields j has.behind)) ∙ good)

no_number : (text : Text) → ((length text == 0) || is_some (number_of text)) ≡ false → (text ≢ []) × (number_of text ≡ None)
no_number text bad =
    let parts = or_parts (length text == 0) (is_some (number_of text)) bad in
    (λ empty. some text empty parts.0, none (number_of text) parts.1)
  where
    some : (text : Text) → text ≡ [] → (length text == 0) ≡ false → ⊥
    some [] empty is = false≢true (sym is)
    some (byte ∷ text) empty is = let same : byte ∷ text ≡ [] = empty in cc

    none : (o : Option ℤ) → is_some o ≡ false → o ≡ None
    none None is = refl
    none (Some n) is = absurd (false≢true (sym is))

pub not-scalable : (k : Kind) (text : Text) → is_scalable k text ≡ false → (k ≢ kind.Nominal) × (text ≢ []) × (number_of text ≡ None)
not-scalable kind.Nominal text bad = absurd (false≢true (sym bad))
not-scalable kind.Ordinal text bad =
    let parts = no_number text bad in
    (λ is. (let same : kind.Ordinal ≡ kind.Nominal = is in cc), parts.0, parts.1)
not-scalable kind.Interordinal text bad =
    let parts = no_number text bad in
    (λ is. (let same : kind.Interordinal ≡ kind.Nominal = is in cc), parts.0, parts.1)

object-value : (t : ValueTable) (place q : ℕ) → q < length t.objects → get_or (column t place) (q - 0) [] ≡ value_at place (object_at t q)
object-value t place q below = let at : q - 0 ≡ q = omega arith in
    ap (λ (n : ℕ). get_or (column t place) n []) at ∙ get_or-map (value_at place) t.objects q no_object [] below

pub bad-value : (t : ValueTable) (s : PlanRecord) (r : ℕ) → position_from (λ text. not (is_scalable s.kind text)) 0 (column t s.place) ≡ Some r
    → HasBadValue t s r
bad-value t s r is =
    let first = first-Some (λ text. not (is_scalable s.kind text)) 0 r (column t s.place) is in
    let inside : r < length t.objects = omega (arith, first.inside, length-map t.objects (value_at s.place)) in
    let bad = not-scalable s.kind (value_at s.place (object_at t r))
    (ap (is_scalable s.kind) (sym (object-value t s.place r inside)) ∙ not-true _ first.passes) in
    record {
      numbers = bad.0;
      inside = inside;
      some = bad.1;
      bad = bad.2;
      first = λ q below.
          ap (is_scalable s.kind) (sym (object-value t s.place q (omega arith))) ∙ not-false _ (first.fails q (omega arith) below);
    }

no_value : (byte : ℕ) (text : Text) → number_of (byte ∷ text) ≡ None
    → ((length (byte ∷ text) == 0) || is_some (number_of (byte ∷ text))) ≡ false
no_value byte text none = rw (ne_eqb (length (byte ∷ text)) 0 (λ is. absurd (omega (arith, is))), none) refl

pub unscalable : (k : Kind) (text : Text) → k ≢ kind.Nominal → text ≢ [] → number_of text ≡ None → is_scalable k text ≡ false
unscalable k [] numbers some none = absurd (some refl)
unscalable kind.Nominal (byte ∷ text) numbers some none = absurd (numbers refl)
unscalable kind.Ordinal (byte ∷ text) numbers some none = no_value byte text none
unscalable kind.Interordinal (byte ∷ text) numbers some none = no_value byte text none

pub no_bad-value : (t : ValueTable) (s : PlanRecord) (r : ℕ)
    → position_from (λ text. not (is_scalable s.kind text)) 0 (column t s.place) ≡ None → HasBadValue t s r → ⊥
no_bad-value t s r none has =
    let below : r < 0 + length (column t s.place) = omega (arith, has.inside, length-map t.objects (value_at s.place)) in
    let good = not-false _ (first-None (λ text. not (is_scalable s.kind text)) 0 (column t s.place) none r (omega arith) below) in
    let bad = unscalable s.kind (value_at s.place (object_at t r)) has.numbers has.some has.bad in
    false≢true (sym bad ∙ ap (is_scalable s.kind) (sym (object-value t s.place r has.inside)) ∙ good)

-- ---- records

module _ (t : ValueTable) (i : ℕ) (plan : List PlanRecord) (fields : Record) (e : PlanFault) where
  abbrev At : Type 0
  At = IsAtFault t i plan fields e

  because : (other : PlanFault) → other ≡ e → IsAtFault t i plan fields other → At
  because other same at = subst (IsAtFault t i plan fields) same at

  module _ (s : PlanRecord) (of : IsRecordOf t s fields) where
    few-fault : (names : List Text) → names ≡ made_names plan ++ names_of s → few_names i names s ≡ Err e → At
    few-fault names all is = elim (cases_Bool (nat_lt MAX_ATTRIBUTES (length names))) [
      | inl many ↦
          let same : fault.TooMany i ≡ e = same-fault _ (fault.TooMany i) e refl (rw many at is) in
          let P : List Text → Type 0 = λ ns. MAX_ATTRIBUTES < length ns in
          because (fault.TooMany i) same (refl, (s, of, subst P all (ltb-true MAX_ATTRIBUTES (length names) many)))
      | inr few ↦ absurd (ok-err _ s e refl (rw few at is))
    ]

    by_names : (r : Result (List Text) PlanFault) → names_form i s.kind s.attribute (made_names plan) s.values ≡ r
        → then r (λ names. few_names i names s) ≡ Err e → At
    by_names (Err other) names is =
        let same : other ≡ e = same-fault _ other e refl is in
        let one = names-fault i s.place s.attribute s.values s.kind (made_names plan) other names in
        because (fault.BadName i one.field) (sym one.fault_is ∙ same) (refl, (s, of, one.has))
    by_names (Ok names) form is = few-fault names (names-Ok i s.place s.attribute s.values s.kind (made_names plan) names form) is

    by_value : (o : Option ℕ) → position_from (λ text. not (is_scalable s.kind text)) 0 (column t s.place) ≡ o
        → unless o (fault.BadValue i) (then (names_form i s.kind s.attribute (made_names plan) s.values) (λ names. few_names i names s))
        ≡ Err e → At
    by_value (Some r) found is =
        let same : fault.BadValue i r ≡ e = same-fault _ (fault.BadValue i r) e refl is in
        because (fault.BadValue i r) same (refl, (s, of, bad-value t s r found))
    by_value None found is = by_names (names_form i s.kind s.attribute (made_names plan) s.values) refl is

    by_scale : (o : Option ℕ) → first_bad (field_kind s.kind) 3 (drop 2 fields) ≡ o
        → unless o (fault.BadScale i) (unless (position_from (λ text. not (is_scalable s.kind text)) 0 (column t s.place))
        (fault.BadValue i)
        (then (names_form i s.kind s.attribute (made_names plan) s.values) (λ names. few_names i names s))) ≡ Err e → At
    by_scale (Some j) found is =
        let same : fault.BadScale i j ≡ e = same-fault _ (fault.BadScale i j) e refl is in
        because (fault.BadScale i j) same (refl, (s, of, bad-scale s.kind fields j found))
    by_scale None found is = by_value (position_from (λ text. not (is_scalable s.kind text)) 0 (column t s.place)) refl is

  by_place : (k : Kind) (o : Option ℕ) → EachName t.attributes → kind_of (get_or fields 0 []) ≡ Some k → place_of t (get_or fields 1 []) ≡ o
      → then (or_fault (fault.UnknownAttribute i) o) (λ place. plan_record_form t i (made_names plan) fields (plan_record_of k place fields))
      ≡ Err e → At
  by_place k None named kind_is found is =
      let same : fault.UnknownAttribute i ≡ e = same-fault _ (fault.UnknownAttribute i) e refl is in
      because (fault.UnknownAttribute i) same (refl, place-None t (get_or fields 1 []) named found)
  by_place k (Some place) named kind_is found is =
      let s : PlanRecord = plan_record_of k place fields in
      let of : IsRecordOf t s fields = record {
        kind = kind_is;
        attribute = refl;
        place = place-Some t (get_or fields 1 []) place found;
        first = place-first t (get_or fields 1 []) place found;
        values = refl;
      } in
      by_scale s of (first_bad (field_kind k) 3 (drop 2 fields)) refl is

  by_kind : (r : Result Kind PlanFault) → EachName t.attributes → kind_form i fields ≡ r
      → then r (λ k. then (or_fault (fault.UnknownAttribute i) (place_of t (get_or fields 1 [])))
      (λ place. plan_record_form t i (made_names plan) fields (plan_record_of k place fields))) ≡ Err e → At
  by_kind (Err other) named form is =
      let same : other ≡ e = same-fault _ other e refl is in
      let one = kind-fault i fields other form in
      because (fault.BadKind i) (sym one.0 ∙ same) (refl, one.1)
  by_kind (Ok k) named form is = by_place k (place_of t (get_or fields 1 [])) named (kind-Ok i fields k form) refl is

  pub record-fault : EachName t.attributes → record_form t i (made_names plan) fields ≡ Err e → At
  record-fault named is = by_kind (kind_form i fields) named refl is
