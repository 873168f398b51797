-- The records that are left. Once a record has ended, the machine stands between two records: the end of the text ends no record there
-- (`ends-between`). So each record takes a byte at least, and the records of a text are the same for any bound on their number that is
-- above the number of bytes (`records_from-bound`). A read then takes the first of the records left (`Reads-found`).
use Rattle.std.specs.Prelude.{Result, Ok, Err, IfOk, IfErr, OnOk, OnErr, MatchResult, is_ok}
use Rattle.std.proofs.Common.{Bor, ◌≡◌, ◌∙◌, ◌<◌, ◌≤◌, ◌+◌, ◌==◌, ◌||◌, ◌∷◌, ◌++◌, [], ℕ, zero, suc, Bool, true, false, List, Option, Some}
use Rattle.std.proofs.Common.{None, cond, length, refl, sym, ap, subst, inl, inr, arith}
use Rattle.std.proofs.lemmas.Bool.{cases_Bool}
use Rattle.std.specs.Str.{IsUtf8}
use Rattle.csv.specs.Machine.{Read, next_record, step, in_field, start_field, start_record, is_end, ends_at_end, fields_after}
use Rattle.csv.specs.Reading.{ExplainsRead, Ready, ReadRecord, Reached, default_config, error_kind, has_failed, is_flexible, reader_state}
use Rattle.csv.specs.Reading.{reader_trim, records_from, records_next, stops_reader, took_first, unread_of}
use Rattle.csv.specs.Records.{AllText}
use Rattle.csv.specs.declared.error.Error.{Error}
use Rattle.csv.specs.declared.error.ErrorKind.{ErrorKind}
use Rattle.csv.specs.declared.error.ErrorKind.TheVariants as kind
use Rattle.csv.specs.declared.parser.Action.{Action}
use Rattle.csv.specs.declared.parser.Action.TheVariants as act
use Rattle.csv.specs.declared.parser.State.{State}
use Rattle.csv.specs.declared.parser.State.TheVariants as st
use Rattle.csv.specs.declared.reader.Reader.{Reader}
use Rattle.csv.specs.declared.reader.Trim.TheVariants as trim
use Rattle.csv.proofs.ReadFacts.{rows-end, rows-more}
use Rattle.csv_context.specs.Records.{Record, IsOpenReader, IsText, Reads, records_by, records_left, unread_bytes}
use Rattle.csv_context.proofs.Texts.{GivesText, next_record-text}

-- ---- where a record ends

-- a step that ends a record leads between two records
abbrev IsBetween : State × Action → Type 0
IsBetween p = is_end p.1 ≡ true → ends_at_end p.0 ≡ false

other-between : (test : Bool) (s : State) (a : Action) (p : State × Action) → is_end a ≡ false → IsBetween p
    → IsBetween (cond test (s, a) p)
other-between true s a p goes_on between ends = cc
other-between false s a p goes_on between ends = between ends

in_field-between : (comma end cr : Bool)
    → IsBetween (cond comma (st.StartField, act.EndField)
    (cond end (cond cr st.AfterCr st.StartRecord, act.EndRecord) (st.InField, act.Copy)))
in_field-between true end cr ends = cc
in_field-between false true true ends = refl
in_field-between false true false ends = refl
in_field-between false false cr ends = cc

field-between : (c : ℕ) → IsBetween (in_field default_config c)
field-between c = in_field-between (c == 44) ((c == 13) || (c == 10)) (c == 13)

start-between : (c : ℕ) → IsBetween (start_field default_config c)
start-between c = other-between (c == 34) st.InQuoted act.Skip (in_field default_config c) refl (field-between c)

record-between : (c : ℕ) → IsBetween (start_record default_config c)
record-between c = other-between ((c == 13) || (c == 10)) st.StartRecord act.Skip (start_field default_config c) refl (start-between c)

ends-between : (s : State) (c : ℕ) → IsBetween (step default_config s c)
ends-between st.StartRecord c = record-between c
ends-between st.StartField c = start-between c
ends-between st.InField c = field-between c
ends-between st.InQuoted c = other-between (c == 34) st.AfterQuote act.Skip (st.InQuoted, act.Copy) refl (λ ends. cc)
ends-between st.InEscape c = λ ends. cc
ends-between st.AfterQuote c = other-between (c == 34) st.InQuoted act.Copy (in_field default_config c) refl (field-between c)
ends-between st.InComment c = other-between (c == 10) st.StartRecord act.Skip (st.InComment, act.Skip) refl (λ ends. cc)
ends-between st.AfterCr c = other-between (c == 10) st.StartRecord act.Skip (start_record default_config c) refl (record-between c)

-- what is left after a record: the machine stands between two, and no more bytes than before
abbrev IsLeft : ℕ → Read → Type 0
IsLeft size p = (ends_at_end p.1 ≡ false) × (length p.2 ≤ size)

next_record-left : (s : State) (fields : List (List ℕ)) (field xs : List ℕ) (p : Read)
    → next_record default_config s fields field xs ≡ Some p → IsLeft (length xs) p
unfolding next_record
next_record-left s fields field [] p e = elim (cases_Bool (ends_at_end s)) [
  | inl it ↦
      let same = rw it at e in
      let is : (fields ++ (field ∷ []), st.StartRecord, []) ≡ p = cc in
      subst (IsLeft 0) is (refl, omega arith)
  | inr it ↦ let none = rw it at e in cc
]
next_record-left s fields field (c ∷ rest) p e = elim (cases_Bool (is_end (step default_config s c).1)) [
  | inl it ↦
      let same = rw it at e in
      let is : (fields_after (step default_config s c).1 fields field, (step default_config s c).0, rest) ≡ p = cc in
      let P : Read → Type 0 = IsLeft (length (c ∷ rest)) in
      subst P is (ends-between s c it, omega arith)
  | inr it ↦
      let more = next_record-left (step default_config s c).0 _ _ rest p (rw it at e) in
      (more.0, omega arith)
]

-- between two records, a record takes a byte at least
next_record-shorter : (s : State) (xs : List ℕ) (p : Read) → ends_at_end s ≡ false → next_record default_config s [] [] xs ≡ Some p
    → length p.2 < length xs
unfolding next_record
next_record-shorter s [] p between e = let none = rw between at e in cc
next_record-shorter s (c ∷ rest) p between e = elim (cases_Bool (is_end (step default_config s c).1)) [
  | inl it ↦
      let same = rw it at e in
      let is : (fields_after (step default_config s c).1 [] [], (step default_config s c).0, rest) ≡ p = cc in
      let P : Read → Type 0 = λ q. length q.2 < length (c ∷ rest) in
      subst P is (omega arith)
  | inr it ↦
      let more = next_record-left (step default_config s c).0 _ _ rest p (rw it at e) in
      omega arith
]

-- ---- the records left

-- a bound on the number of records makes no difference if it is above the number of bytes
records_from-bound : (n m : ℕ) (s : State) (xs : List ℕ) → ends_at_end s ≡ false → length xs < n → length xs < m
    → records_from default_config n s xs ≡ records_from default_config m s xs
unfolding records_from
records_from-bound zero m s xs between below under = absurd (omega arith)
records_from-bound (suc n) zero s xs between below under = absurd (omega arith)
records_from-bound (suc n) (suc m) s xs between below under = by (next_record default_config s [] [] xs) refl (records_from-bound n m)
  where
    by : (o : Option Read) → next_record default_config s [] [] xs ≡ o
        → ((t : State) (ys : List ℕ) → ends_at_end t ≡ false → length ys < n → length ys < m
        → records_from default_config n t ys ≡ records_from default_config m t ys)
        → records_next (records_from default_config n) o ≡ records_next (records_from default_config m) o
    by None e more = refl
    by (Some p) e more =
        let shorter = next_record-shorter s xs p between e in
        ap (λ rest. p.0 ∷ rest) (more p.1 p.2 (next_record-left s [] [] xs p e).0 (omega arith) (omega arith))

pub records_by-Some : (s : State) (xs : List ℕ) (p : Read) → ends_at_end s ≡ false → next_record default_config s [] [] xs ≡ Some p
    → records_by s (Some xs) ≡ p.0 ∷ records_by p.1 (Some p.2)
unfolding records_from
records_by-Some s xs p between e =
    let one : length xs + 1 ≡ suc (length xs) = omega arith in
    let shorter = next_record-shorter s xs p between e in
    let same = records_from-bound (length xs) (length p.2 + 1) p.1 p.2 (next_record-left s [] [] xs p e).0 shorter (omega arith) in
    rw (one, e) (ap (λ rest. p.0 ∷ rest) same)

pub records_by-None : (s : State) (xs : List ℕ) → next_record default_config s [] [] xs ≡ None → records_by s (Some xs) ≡ []
unfolding records_from
records_by-None s xs e =
    let one : length xs + 1 ≡ suc (length xs) = omega arith in
    rw (one, e) refl

-- ---- a read

abbrev bytes_of : Bor (List ℕ) → Option (List ℕ)
bytes_of bytes = Some bytes.now

-- what is known after a read that took a record
record Took (s t : State) (xs ys : List ℕ) (fields : Record) : Type 0 where
  between : ends_at_end t ≡ false
  text : IsUtf8 ys
  texts : AllText fields
  first : records_by s (Some xs) ≡ fields ∷ records_by t (Some ys)

took : (s t : State) (xs ys : List ℕ) (fields : Record) (p : Read) → ends_at_end s ≡ false → IsUtf8 xs
    → next_record default_config s [] [] xs ≡ Some p → fields ≡ p.0 → p.1 ≡ t → p.2 ≡ ys → Took s t xs ys fields
took s t xs ys fields p between text e is to left =
    let given = subst GivesText e (next_record-text xs text s) in
    let P : State → Type 0 = λ u. ends_at_end u ≡ false in
    let first = records_by-Some s xs p between e in
    record {
      between = subst P to (next_record-left s [] [] xs p e).0;
      text = subst IsUtf8 left given.1;
      texts = subst AllText (sym is) given.0;
      first = cc;
    }

Reads-found : (a b : Reader (Bor (List ℕ))) (fields : Record) → IsOpenReader a → took_first b ≡ true → ReadRecord bytes_of a b true fields
    → Reads a b true fields
unfolding Reached
Reads-found a b fields open' begun r = by (unread_bytes a) refl open'.text
  where
    by : (left : Option (List ℕ)) → unread_bytes a ≡ left → IsText left → Reads a b true fields
    by None e text = absurd text
    by (Some xs) e text =
        let m = rows-more bytes_of a b fields default_config (reader_state a) xs xs [] open'.settings e (refl, refl) r in
        let q = took (reader_state a) (reader_state b) xs m.0 fields m.2.0 open'.between text m.2.1 m.2.2 m.2.3.0 m.2.3.1 in (
          record {
            plain = r.3 ∙ open'.plain;
            ready = inl begun;
            settings = r.2 ∙ open'.settings;
            between = q.between;
            text = rw m.1 q.text;
          },
          q.texts,
          rw (e, m.1) q.first,
        )

Reads-none : (a b : Reader (Bor (List ℕ))) (fields : Record) → IsOpenReader a → ReadRecord bytes_of a b false fields → Reads a b false fields
Reads-none a b fields open' r = by (unread_bytes a) refl open'.text
  where
    by : (left : Option (List ℕ)) → unread_bytes a ≡ left → IsText left → Reads a b false fields
    by None e text = absurd text
    by (Some xs) e text = rw e (records_by-None (reader_state a) xs (rows-end bytes_of a b fields default_config xs open'.settings e r))

-- the answer of a read, by whether there was a record
Reads-record : (a b : Reader (Bor (List ℕ))) (found : Bool) (fields : Record) → IsOpenReader a → took_first b ≡ true
    → ReadRecord bytes_of a b found fields → Reads a b found fields
Reads-record a b true fields open' begun r = Reads-found a b fields open' begun r
Reads-record a b false fields open' begun r = Reads-none a b fields open' r

-- the same of what the library's call answers, passed on with another error
pub Reads-told : {E D : Type 0} (Q : E → Type 0) (a b : Reader (Bor (List ℕ))) (fields : Record) (told : Result Bool E)
    (answer : Result Bool D) → IsOpenReader a
    → (reader_trim a ≡ trim.None → OnOk told (took_first b ≡ true))
    → IfOk told (λ found. reader_trim a ≡ trim.None → Ready a → ReadRecord bytes_of a b found fields)
    → MatchResult told (λ found. answer ≡ Ok found) Q → is_ok answer ≡ is_ok told
    → IfOk answer (λ found. Reads a b found fields)
Reads-told Q a b fields (Ok found) answer open' begun reads cases variant =
    rw cases (Reads-record a b found fields open' (begun open'.plain) (reads open'.plain open'.ready))
Reads-told Q a b fields (Err e) (Ok found) open' begun reads cases variant = cc
Reads-told Q a b fields (Err e) (Err d) open' begun reads cases variant = tt

-- a reader that takes records of any length fails only for good, so it has no record left
failed-none : (a b : Reader (Bor (List ℕ))) (why : ErrorKind) → is_flexible a ≡ true → has_failed b ≡ stops_reader why
    → ExplainsRead bytes_of a b false why → records_left b ≡ []
failed-none a b (kind.Io e) flexible fails why =
    ap (λ stopped. records_by (reader_state b) (cond stopped None (unread_of bytes_of b))) fails
failed-none a b kind.OutOfMemory flexible fails why =
    ap (λ stopped. records_by (reader_state b) (cond stopped None (unread_of bytes_of b))) fails
failed-none a b (kind.UnequalLengths pos expected len) flexible fails why = let strict = why.0 in cc
failed-none a b (kind.Utf8 pos err) flexible fails why = let text = why.0 in cc
failed-none a b (kind.Serialize text) flexible fails why = absurd why
failed-none a b (kind.Deserialize pos err) flexible fails why = absurd why

pub records_left-failed : {D : Type 0} (a b : Reader (Bor (List ℕ))) (told : Result Bool Error) (answer : Result Bool D) → IsOpenReader a
    → is_flexible a ≡ true
    → IfErr told (λ e. has_failed b ≡ stops_reader (error_kind e))
    → IfErr told (λ e. Ready a → ExplainsRead bytes_of a b false (error_kind e)) → is_ok answer ≡ is_ok told
    → OnErr answer (records_left b ≡ [])
records_left-failed a b (Ok found) (Ok x) open' flexible fails why variant = tt
records_left-failed a b (Err e) (Ok x) open' flexible fails why variant = tt
records_left-failed a b (Ok found) (Err d) open' flexible fails why variant = cc
records_left-failed a b (Err e) (Err d) open' flexible fails why variant = failed-none a b (error_kind e) flexible fails (why open'.ready)
