use Rattle.std.proofs.Common.{◌≡◌, ◌∙◌, ◌<◌, ◌+◌, ◌-◌, ◌++◌, ◌∷◌, ℕ, List, [], Some, None, Result, Err, true, false, drop, get_or, length}
use Rattle.std.proofs.Common.{slice_get, inr, sym, ap, append_assoc, arith}
use Rattle.std.proofs.lemmas.Bool.{not-false, not-true}
use Rattle.std.proofs.lemmas.List.{append-nil, drop_all, length_push}
use Rattle.std.proofs.lemmas.Option.{slice_get-get_or}
use Rattle.std.specs.List.{list_any}
use Rattle.std.specs.Str.{bytes_eq}
use Rattle.csv.specs.Records.{fields_of}
use Rattle.text_pieces.proofs.ItemLemmas.{drop-item}
use Rattle.context_table.specs.Table.{first_repeat}
use Rattle.fca_model.specs.Tables.{Text}
use Rattle.value_tables.specs.declared.ValuesFault.{ValuesFault}
use Rattle.value_tables.specs.declared.ValuesFault.TheVariants as fault
use Rattle.value_tables.specs.declared.fields.FieldKind.TheVariants as kind
use Rattle.value_tables.proofs.FieldLemmas.{first_bad_within, name_faultless}
use Rattle.value_tables.proofs.read.read_attributes.Goals as goal

pub name_at-requires-clause-faultless : goal.name_at-requires-clause-faultless
name_at-requires-clause-faultless c =
    let fields = fields_of c.args.fields.now in
    let place = c.loop-place.place in
    let below : place < length fields = omega (arith, c.loop-place-test.true, c.len-place-end.ensures) in
    let all : place ≡ 1 + (place - 1) = omega (arith, c.loop-place.auto.place) in
    let here : Some (get_or fields place []) ≡ slice_get fields (1 + (place - 1)) = sym (slice_get-get_or fields place [] below)
    ∙ ap (slice_get fields) all in
    name_faultless (get_or fields place []) (first_bad_within kind.Name fields 1 (place - 1) (get_or fields place []) here c.requires.names)

-- the name is new, so it is the next of the keys
pub loop-place-preserved : goal.loop-place-preserved
loop-place-preserved c =
    let loop = c.loop-place in
    let fields = fields_of c.args.fields.now in
    let place = loop.place in
    let seen = loop.names.keys in
    let name = c.in_ok-name_at.field-0 in
    let later = drop (place + 1) fields in
    let below : place < length fields = omega (arith, c.loop-place-test.true, c.len-place-end.ensures) in
    let front : drop place fields ≡ name ∷ later =
    drop-item fields place (get_or fields place []) (slice_get-get_or fields place [] below)
    ∙ ap (λ (field : Text). field ∷ later) (sym c.in_ok-name_at.ensures) in
    let new : list_any (bytes_eq name) seen ≡ false =
    not-true (list_any (bytes_eq name) seen) (sym c.in_ok-added.ensures.added ∙ c.if-not-added.false) in
    let keys : c.insert_full.new.self.keys ≡ seen ++ name ∷ [] = rw new at c.in_ok-added.ensures.keys in
    let repeats = rw (front, new) at loop.invariant.repeats in
    record {
      counted = rw keys (ap (λ (n : ℕ). n + 1) (length_push seen name ∙ loop.invariant.counted));
      names = rw keys (append_assoc seen (name ∷ []) later ∙ ap (λ (xs : List Text). seen ++ xs) (sym front) ∙ loop.invariant.names);
      repeats = rw (keys, length_push seen name) repeats;
    }

-- the name stands among the keys, so it is the first that repeats one
pub returns-then-not-added-clause-form : goal.returns-then-not-added-clause-form
returns-then-not-added-clause-form c =
    let loop = c.loop-place in
    let fields = fields_of c.args.fields.now in
    let place = loop.place in
    let seen = loop.names.keys in
    let name = c.in_ok-name_at.field-0 in
    let below : place < length fields = omega (arith, c.loop-place-test.true, c.len-place-end.ensures) in
    let front : drop place fields ≡ name ∷ drop (place + 1) fields =
    drop-item fields place (get_or fields place []) (slice_get-get_or fields place [] below)
    ∙ ap (λ (field : Text). field ∷ drop (place + 1) fields) (sym c.in_ok-name_at.ensures) in
    let found : list_any (bytes_eq name) seen ≡ true =
    not-false (list_any (bytes_eq name) seen) (sym c.in_ok-added.ensures.added ∙ c.if-not-added.true) in
    let repeat : Some (length seen) ≡ first_repeat (drop 1 fields) = rw (front, found) at loop.invariant.repeats in
    let told : ℕ → Result (List Text) ValuesFault = λ n. Err (fault.DuplicateAttribute n) in
    let at : length seen + 2 ≡ place + 1 = omega (arith, loop.invariant.counted) in
    inr (rw (c.requires.names, ← repeat) (ap told at))

-- all names are keys, and none repeats one
pub returns-clause-form : goal.returns-clause-form
returns-clause-form c =
    let loop = c.loop-place in
    let fields = fields_of c.args.fields.now in
    let none : drop loop.place fields ≡ [] = drop_all loop.place fields (omega (arith, c.loop-place-test.false, c.len-place-end.ensures)) in
    let repeat : None ≡ first_repeat (drop 1 fields) = rw none at loop.invariant.repeats in
    let keys : loop.names.keys ≡ drop 1 fields = rw (none, append-nil) at loop.invariant.names in
    rw (c.requires.names, ← repeat, keys)
