-- Records that are lines. Inside a line without quotes the machine that reads records parts the fields at the commas, up to the end of the
-- line (`in_line`). Before a line it skips line ends (`without_ends-records`). So the first line that is not empty is the first record
-- (`next_line-Some`, `next_line-None`).
use Rattle.std.proofs.Common.{◌≡◌, ◌∙◌, ◌<◌, ◌≤◌, ◌+◌, ◌-◌, ◌==◌, ◌∷◌, ◌++◌, [], ℕ, zero, suc, Bool, true, false, List, Option, Some, None}
use Rattle.std.proofs.Common.{cond, length, take, drop, get_or, refl, sym, ap, subst, inl, inr, append_assoc, arith}
use Rattle.std.proofs.lemmas.Bool.{cases_Bool, eqb-true, or_cases, or_parts}
use Rattle.std.proofs.lemmas.List.{append-nil, take_all, take_more, length-drop}
use Rattle.std.proofs.lemmas.Str.{IsUtf8-past_char, encode_ascii}
use Rattle.std.specs.Str.{IsUtf8}
use lib.Utf8.{encode}
use Rattle.std.specs.List.{list_any}
use Rattle.fca_model.specs.Tables.{Text}
use Rattle.fca_model.specs.Names.{is_line_break}
use Rattle.csv.specs.Machine.{Read, ends_at_end, next_record}
use Rattle.csv.specs.Reading.{default_config, is_bom, records_from, strip_bom}
use Rattle.csv.specs.declared.parser.State.{State}
use Rattle.csv.specs.declared.parser.State.TheVariants as st
use Rattle.memchr.specs.Find.{IsFirstByte, is_byte, is_byte2}
use Rattle.csv_context.specs.Records.{Record, records_by}
use Rattle.csv_context.specs.Lines.{IsUnquoted, TakesLine, fields_in, add_byte, is_comma, is_quote, records_in, without_ends}
use Rattle.csv_context.proofs.Texts.{GivesText, next_record-text, no-mark-text}
use Rattle.csv_context.proofs.RecordLemmas.{records_by-Some, records_by-None}

-- ---- tests of bytes

pub any_take : (p : ℕ → Bool) (n : ℕ) (xs : Text) → list_any p xs ≡ false → list_any p (take n xs) ≡ false
any_take p zero xs h = refl
any_take p (suc n) [] h = refl
any_take p (suc n) (x ∷ xs) h = let parts = or_parts (p x) (list_any p xs) h in rw (parts.0) (any_take p n xs parts.1)

pub any_drop : (p : ℕ → Bool) (n : ℕ) (xs : Text) → list_any p xs ≡ false → list_any p (drop n xs) ≡ false
any_drop p zero xs h = h
any_drop p (suc n) [] h = refl
any_drop p (suc n) (x ∷ xs) h = any_drop p n xs (or_parts (p x) (list_any p xs) h).1

-- no byte before place k passes
abbrev NoneBefore : (ℕ → Bool) → Text → ℕ → Type 0
NoneBefore p xs k = (j : ℕ) → 0 ≤ j → j < k → p (get_or xs j 0) ≡ true → ⊥

any_before : (p : ℕ → Bool) (xs : Text) (k : ℕ) → NoneBefore p xs k → list_any p (take k xs) ≡ false
any_before p xs zero h = refl
any_before p [] (suc k) h = refl
any_before p (x ∷ xs) (suc k) h = elim (cases_Bool (p x)) [
  | inl is ↦ absurd (h 0 (omega arith) (omega arith) is)
  | inr isnt ↦ rw isnt (any_before p xs k (λ j low lt. h (suc j) (omega arith) (omega arith)))
]

pub length-some : (xs : Text) → (length xs == 0) ≡ false → 0 < length xs
length-some [] some = cc
length-some (x ∷ xs) some = omega arith

split_at : (xs : Text) (k : ℕ) → k < length xs → take k xs ++ get_or xs k 0 ∷ drop (k + 1) xs ≡ xs
split_at [] k lt = absurd (omega arith)
split_at (x ∷ xs) zero lt = refl
split_at (x ∷ xs) (suc k) lt =
    let less : k < length xs = omega arith in
    let one : suc k + 1 ≡ suc (k + 1) = omega arith in
    rw one (ap (λ ys. x ∷ ys) (split_at xs k less))

-- ---- fields

fields_in-cut : (line : Text) (k : ℕ) → k < length line → NoneBefore is_comma line k → is_comma (get_or line k 0) ≡ true
    → fields_in line ≡ take k line ∷ fields_in (drop (k + 1) line)
fields_in-cut [] k lt before at = absurd (omega arith)
fields_in-cut (c ∷ line) zero lt before at = rw at refl
fields_in-cut (c ∷ line) (suc k) lt before at = elim (cases_Bool (is_comma c)) [
  | inl is ↦ absurd (before 0 (omega arith) (omega arith) is)
  | inr isnt ↦
      let one : suc k + 1 ≡ suc (k + 1) = omega arith in
      let less : k < length line = omega arith in
      rw (isnt, one, fields_in-cut line k less (λ j low lt. before (suc j) (omega arith) (omega arith)) at) refl
]

fields_in-whole : (line : Text) → NoneBefore is_comma line (length line) → fields_in line ≡ line ∷ []
fields_in-whole [] before = refl
fields_in-whole (c ∷ line) before = elim (cases_Bool (is_comma c)) [
  | inl is ↦ absurd (before 0 (omega arith) (omega arith) is)
  | inr isnt ↦ rw (isnt, fields_in-whole line (λ j low lt. before (suc j) (omega arith) (omega arith))) refl
]

pub fields_in-some : (line : Text) → 0 < length (fields_in line)
fields_in-some [] = omega arith
fields_in-some (b ∷ line) = elim (cases_Bool (is_comma b)) [
  | inl is ↦ rw is (omega arith)
  | inr isnt ↦ rw isnt (by b (fields_in line))
]
  where
    by : (c : ℕ) (pieces : Record) → 0 < length (add_byte c pieces)
    by c [] = omega arith
    by c (piece ∷ pieces) = omega arith

-- a field more for a comma at the end, and none more for another byte
fields_in-append : (line : Text) (c : ℕ) → length (fields_in (line ++ c ∷ [])) ≡ length (fields_in line) + cond (is_comma c) 1 0
fields_in-append [] c = elim (cases_Bool (is_comma c)) [
  | inl is ↦ rw is refl
  | inr isnt ↦ rw isnt refl
]
fields_in-append (b ∷ line) c = elim (cases_Bool (is_comma b)) [
  | inl is ↦ rw is (let more = fields_in-append line c in omega arith)
  | inr isnt ↦
      rw isnt
      (joined-length b (fields_in (line ++ c ∷ [])) (fields_in-some (line ++ c ∷ []))
      ∙ fields_in-append line c
      ∙ ap (λ (n : ℕ). n + cond (is_comma c) 1 0) (sym (joined-length b (fields_in line) (fields_in-some line))))
]
  where
    joined-length : (d : ℕ) (pieces : Record) → 0 < length pieces → length (add_byte d pieces) ≡ length pieces
    joined-length d [] some = absurd (omega arith)
    joined-length d (piece ∷ pieces) some = refl

-- one byte more of a line
pub fields_in-more : (line : Text) (i commas : ℕ) → i < length line → commas + 1 ≡ length (fields_in (take i line))
    → commas + cond (is_comma (get_or line i 0)) 1 0 + 1 ≡ length (fields_in (take (i + 1) line))
fields_in-more line i commas below so_far =
    let more = fields_in-append (take i line) (get_or line i 0) in
    rw (take_more line i 0 below, more) (omega (arith, so_far))

-- a comma at the first place, and at the second
pub next_field-none : (line : Text) → 2 ≤ length line → is_comma (get_or line 0 0) ≡ true → fields_in line ≡ [] ∷ fields_in (drop 1 line)
next_field-none [] long comma = absurd (omega arith)
next_field-none (b ∷ line) long comma = rw comma refl

pub next_field-one : (line : Text) → 2 ≤ length line → is_comma (get_or line 0 0) ≡ false → is_comma (get_or line 1 0) ≡ true
    → fields_in line ≡ take 1 line ∷ fields_in (drop 2 line)
next_field-one [] long other comma = absurd (omega arith)
next_field-one (b ∷ []) long other comma = absurd (omega arith)
next_field-one (b ∷ c ∷ line) long other comma = rw (other, comma) refl

-- what a search for a comma says of the fields
pub next_field-Some : (line : Text) (k : ℕ) → IsFirstByte (is_byte 44) line (Some k)
    → fields_in line ≡ take k line ∷ fields_in (take (length line - (k + 1)) (drop (k + 1) line))
next_field-Some line k found =
    let rest : length (drop (k + 1) line) ≤ length line - (k + 1) = rw (length-drop (k + 1) line) (omega arith) in
    rw (take_all (length line - (k + 1)) (drop (k + 1) line) rest) (fields_in-cut line k found.0.high found.0.before found.1)

pub next_field-None : (line : Text) → IsFirstByte (is_byte 44) line None → fields_in line ≡ line ∷ []
next_field-None line none = fields_in-whole line none

-- ---- inside a line

abbrev inside : Bool → State
inside true = st.InField
inside false = st.StartField

abbrev with_first : Text → Record → Record
with_first field [] = field ∷ []
with_first field (piece ∷ pieces) = (field ++ piece) ∷ pieces

with_first-joined : (field : Text) (b : ℕ) (pieces : Record) → with_first (field ++ b ∷ []) pieces ≡ with_first field (add_byte b pieces)
with_first-joined field b [] = refl
with_first-joined field b (piece ∷ pieces) = ap (λ (p : Text). p ∷ pieces) (append_assoc field (b ∷ []) piece)

joined-none : (b : ℕ) (pieces : Record) → with_first [] (add_byte b pieces) ≡ add_byte b pieces
joined-none b [] = refl
joined-none b (piece ∷ pieces) = refl

with_first-none : (line : Text) → with_first [] (fields_in line) ≡ fields_in line
with_first-none [] = refl
with_first-none (b ∷ line) = elim (cases_Bool (is_comma b)) [
  | inl is ↦ rw is refl
  | inr isnt ↦ rw isnt (joined-none b (fields_in line))
]

byte-comma : (b : Bool) (c : ℕ) (fields : Record) (field xs : Text) → is_comma c ≡ true
    → next_record default_config (inside b) fields field (c ∷ xs) ≡ next_record default_config st.StartField (fields ++ field ∷ []) [] xs
unfolding next_record
byte-comma true c fields field xs comma = let is : c ≡ 44 = eqb-true c 44 comma in rw is refl
byte-comma false c fields field xs comma = let is : c ≡ 44 = eqb-true c 44 comma in rw is refl

byte-other : (b : Bool) (c : ℕ) (fields : Record) (field xs : Text) → is_quote c ≡ false → is_comma c ≡ false → (c == 10) ≡ false
    → (c == 13) ≡ false
    → next_record default_config (inside b) fields field (c ∷ xs) ≡ next_record default_config st.InField fields (field ++ c ∷ []) xs
unfolding next_record
byte-other true c fields field xs quote comma feed cr = rw (comma, cr, feed) refl
byte-other false c fields field xs quote comma feed cr = rw (quote, comma, cr, feed) refl

byte-end : (b : Bool) (e : ℕ) (fields : Record) (field xs : Text) → is_line_break e ≡ true
    → next_record default_config (inside b) fields field (e ∷ xs) ≡ Some
    (fields ++ field ∷ [], cond (e == 13) st.AfterCr st.StartRecord, xs)
unfolding next_record
byte-end true e fields field xs end = elim (or_cases (e == 10) (e == 13) end) [
  | inl ten ↦ let is : e ≡ 10 = eqb-true e 10 ten in rw is refl
  | inr thirteen ↦ let is : e ≡ 13 = eqb-true e 13 thirteen in rw is refl
]
byte-end false e fields field xs end = elim (or_cases (e == 10) (e == 13) end) [
  | inl ten ↦ let is : e ≡ 10 = eqb-true e 10 ten in rw is refl
  | inr thirteen ↦ let is : e ≡ 13 = eqb-true e 13 thirteen in rw is refl
]

text-end : (b : Bool) (fields : Record) (field : Text)
    → next_record default_config (inside b) fields field [] ≡ Some (fields ++ field ∷ [], st.StartRecord, [])
unfolding next_record
text-end true fields field = refl
text-end false fields field = refl

-- a line, up to what ends it
module _ (tail : List ℕ) (s : State) (rest : List ℕ)
    (ends : (b : Bool) (fields : Record) (field : Text)
    → next_record default_config (inside b) fields field tail ≡ Some (fields ++ field ∷ [], s, rest)) where
  abbrev ended : Record → Option Read
  ended fields = Some (fields, s, rest)

  in_line : (b : Bool) (fields : Record) (field line : Text) → list_any is_quote line ≡ false → list_any is_line_break line ≡ false
      → next_record default_config (inside b) fields field (line ++ tail) ≡ ended (fields ++ with_first field (fields_in line))
  in_line b fields field [] quotes breaks = ends b fields field ∙ ap (λ (f : Text). ended (fields ++ f ∷ [])) (sym (append-nil field))
  in_line b fields field (c ∷ line) quotes breaks =
      let quote = or_parts (is_quote c) (list_any is_quote line) quotes in
      let break = or_parts (is_line_break c) (list_any is_line_break line) breaks in
      let end = or_parts (c == 10) (c == 13) break.0 in
      elim (cases_Bool (is_comma c)) [
        | inl comma ↦
            rw (comma, append-nil field)
            (byte-comma b c fields field (line ++ tail) comma
            ∙ in_line false (fields ++ field ∷ []) [] line quote.1 break.1
            ∙ ap ended (ap (λ (fs : Record). (fields ++ field ∷ []) ++ fs) (with_first-none line)
            ∙ append_assoc fields (field ∷ []) (fields_in line)))
        | inr other ↦
            rw other
            (byte-other b c fields field (line ++ tail) quote.0 other end.0 end.1
            ∙ in_line true fields (field ++ c ∷ []) line quote.1 break.1
            ∙ ap (λ (fs : Record). ended (fields ++ fs)) (with_first-joined field c (fields_in line)))
      ]

  first_line : (c : ℕ) (line : Text) → list_any is_quote (c ∷ line) ≡ false → list_any is_line_break (c ∷ line) ≡ false
      → next_record default_config st.StartRecord [] [] (c ∷ line ++ tail) ≡ ended (fields_in (c ∷ line))
  unfolding next_record
  first_line c line quotes breaks =
      let break = or_parts (is_line_break c) (list_any is_line_break line) breaks in
      let end = or_parts (c == 10) (c == 13) break.0 in
      let start : next_record default_config st.StartRecord [] [] (c ∷ line ++ tail) ≡ next_record default_config st.StartField [] []
      (c ∷ line ++ tail) = rw (end.1, end.0) refl in
      start ∙ in_line false [] [] (c ∷ line) quotes breaks ∙ ap ended (with_first-none (c ∷ line))

-- ---- between lines

records-alike : (s t : State) (xs ys : List ℕ) → ends_at_end s ≡ false → ends_at_end t ≡ false
    → next_record default_config s [] [] xs ≡ next_record default_config t [] [] ys
    → records_by s (Some xs) ≡ records_by t (Some ys)
records-alike s t xs ys between same_between same = by (next_record default_config t [] [] ys) refl
  where
    by : (o : Option Read) → next_record default_config t [] [] ys ≡ o → records_by s (Some xs) ≡ records_by t (Some ys)
    by None e = records_by-None s xs (same ∙ e) ∙ sym (records_by-None t ys e)
    by (Some p) e = records_by-Some s xs p between (same ∙ e) ∙ sym (records_by-Some t ys p same_between e)

after_return : (xs : List ℕ) → next_record default_config st.AfterCr [] [] xs ≡ next_record default_config st.StartRecord [] [] xs
unfolding next_record
after_return [] = refl
after_return (c ∷ xs) = elim (cases_Bool (c == 10)) [
  | inl feed ↦ let is : c ≡ 10 = eqb-true c 10 feed in rw is refl
  | inr other ↦ rw other refl
]

records-after_end : (e : ℕ) (xs : List ℕ) → records_by (cond (e == 13) st.AfterCr st.StartRecord) (Some xs) ≡ records_in xs
records-after_end e xs = elim (cases_Bool (e == 13)) [
  | inl is ↦ rw is (records-alike st.AfterCr st.StartRecord xs xs refl refl (after_return xs))
  | inr isnt ↦ rw isnt refl
]

skipped_end : (e : ℕ) (xs : List ℕ) → is_line_break e ≡ true
    → next_record default_config st.StartRecord [] [] (e ∷ xs) ≡ next_record default_config st.StartRecord [] [] xs
unfolding next_record
skipped_end e xs end = elim (or_cases (e == 10) (e == 13) end) [
  | inl ten ↦ let is : e ≡ 10 = eqb-true e 10 ten in rw is refl
  | inr thirteen ↦ let is : e ≡ 13 = eqb-true e 13 thirteen in rw is refl
]

end-low : (e : ℕ) → is_line_break e ≡ true → e < 128
end-low e end = elim (or_cases (e == 10) (e == 13) end) [
  | inl ten ↦ let is : e ≡ 10 = eqb-true e 10 ten in omega arith
  | inr thirteen ↦ let is : e ≡ 13 = eqb-true e 13 thirteen in omega arith
]

-- what is known of the bytes from the first on that ends no line
record Skips (bytes rest : List ℕ) : Type 0 where
  same : records_in bytes ≡ records_in rest
  unquoted : IsUnquoted rest
  within : length rest ≤ length bytes
  begins : (c : ℕ) (more : List ℕ) → rest ≡ c ∷ more → is_line_break c ≡ false

skips : (bytes : List ℕ) → IsUnquoted bytes → Skips bytes (without_ends bytes)
skips [] plain = record { same = refl; unquoted = plain; within = omega arith; begins = λ c more e. cc }
skips (b ∷ bytes) plain = elim (cases_Bool (is_line_break b)) [
  | inl end ↦
      let char : b ∷ bytes ≡ encode b ++ bytes = ap (λ (x : List ℕ). x ++ bytes) (sym (encode_ascii b (end-low b end))) in
      let rest : IsUnquoted bytes = record {
        text = IsUtf8-past_char (b ∷ bytes) bytes b plain.text char;
        plain = (or_parts (is_quote b) (list_any is_quote bytes) plain.plain).1;
      } in
      let more = skips bytes rest in
      rw end (record {
        same = records-alike st.StartRecord st.StartRecord (b ∷ bytes) bytes refl refl (skipped_end b bytes end) ∙ more.same;
        unquoted = more.unquoted;
        within = omega (arith, more.within);
        begins = more.begins;
      })
  | inr other ↦
      rw other (record {
        same = refl;
        unquoted = plain;
        within = omega arith;
        begins = λ c more e. let P : ℕ → Type 0 = λ x. is_line_break x ≡ false in let same : b ≡ c = cc in subst P same other;
      })
]

-- ---- the first line

-- a read of bytes that begin with no line end
takes : (c : ℕ) (more line behind : List ℕ) (s : State) → IsUnquoted (c ∷ more) → list_any is_line_break (c ∷ line) ≡ false
    → list_any is_quote behind ≡ false → length behind ≤ length more
    → next_record default_config st.StartRecord [] [] (c ∷ more) ≡ Some (fields_in (c ∷ line), s, behind)
    → records_by s (Some behind) ≡ records_in behind
    → TakesLine (c ∷ more) (c ∷ line) behind
takes c more line behind s plain breaks quotes few e left =
    let given = subst GivesText e (next_record-text (c ∷ more) plain.text st.StartRecord) in
    record {
      first = records_by-Some st.StartRecord (c ∷ more) (fields_in (c ∷ line), s, behind) refl e
          ∙ ap (λ (rs : List Record). fields_in (c ∷ line) ∷ rs) left;
      texts = given.0;
      unbroken = breaks;
      unquoted = record { text = given.1; plain = quotes };
      shorter = omega (arith, few);
    }

takes-ended : (c : ℕ) (more : List ℕ) (k : ℕ) → IsUnquoted (c ∷ more) → is_line_break c ≡ false
    → IsFirstByte (is_byte2 10 13) (c ∷ more) (Some k)
    → TakesLine (c ∷ more) (take k (c ∷ more)) (drop (k + 1) (c ∷ more))
takes-ended c more zero plain begins found = let no = rw begins at found.1 in cc
takes-ended c more (suc k) plain begins found =
    let e : ℕ = get_or more k 0 in
    let line : List ℕ = take k more in
    let behind : List ℕ = drop (k + 1) more in
    let one : suc k + 1 ≡ suc (k + 1) = omega arith in
    let less : k < length more = omega (arith, found.0.high) in
    let whole : line ++ e ∷ behind ≡ more = split_at more k less in
    let breaks = any_before is_line_break (c ∷ more) (suc k) found.0.before in
    let quotes = any_take is_quote (suc k) (c ∷ more) plain.plain in
    let s : State = cond (e == 13) st.AfterCr st.StartRecord in
    let P : List ℕ → Type 0 = λ xs. next_record default_config st.StartRecord [] [] (c ∷ xs) ≡ Some (fields_in (c ∷ line), s, behind) in
    let read = subst P whole (first_line (e ∷ behind) s behind
    (λ b fields field. byte-end b e fields field behind found.1) c line quotes breaks) in
    rw one (takes c more line behind s plain breaks (any_drop is_quote (suc (k + 1)) (c ∷ more) plain.plain)
    (omega (arith, length-drop (k + 1) more)) read (records-after_end e behind))

takes-last : (c : ℕ) (more : List ℕ) → IsUnquoted (c ∷ more) → IsFirstByte (is_byte2 10 13) (c ∷ more) None
    → TakesLine (c ∷ more) (c ∷ more) []
takes-last c more plain none =
    let breaks : list_any is_line_break (c ∷ more) ≡ false =
    ap (list_any is_line_break) (sym (take_all (length (c ∷ more)) (c ∷ more) (omega arith)))
    ∙ any_before is_line_break (c ∷ more) (length (c ∷ more)) none in
    let P : List ℕ → Type 0 = λ xs. next_record default_config st.StartRecord [] [] (c ∷ xs) ≡ Some
    (fields_in (c ∷ more), st.StartRecord, []) in
    let read = subst P (append-nil more) (first_line [] st.StartRecord [] text-end c more plain.plain breaks) in
    takes c more more [] st.StartRecord plain breaks refl (omega arith) read refl

-- the first line behind line ends
TakesLine-behind : (bytes rest line behind : List ℕ) → Skips bytes rest → TakesLine rest line behind → TakesLine bytes line behind
TakesLine-behind bytes rest line behind skipped took = record {
  first = skipped.same ∙ took.first;
  texts = took.texts;
  unbroken = took.unbroken;
  unquoted = took.unquoted;
  shorter = omega (arith, took.shorter, skipped.within);
}

pub next_line-Some : (bytes rest : List ℕ) (k : ℕ) → IsUnquoted bytes → rest ≡ without_ends bytes
    → IsFirstByte (is_byte2 10 13) rest (Some k)
    → TakesLine bytes (take k rest) (take (length rest - (k + 1)) (drop (k + 1) rest))
next_line-Some bytes rest k plain is found =
    let size : length (drop (k + 1) rest) ≤ length rest - (k + 1) = rw (length-drop (k + 1) rest) (omega arith) in
    let P : List ℕ → Type 0 = Skips bytes in
    let skipped = subst P (sym is) (skips bytes plain) in
    rw (take_all (length rest - (k + 1)) (drop (k + 1) rest) size)
    (TakesLine-behind bytes rest (take k rest) (drop (k + 1) rest) skipped (by rest skipped.unquoted skipped.begins found))
  where
    by : (xs : List ℕ) → IsUnquoted xs → ((c : ℕ) (more : List ℕ) → xs ≡ c ∷ more → is_line_break c ≡ false)
        → IsFirstByte (is_byte2 10 13) xs (Some k) → TakesLine xs (take k xs) (drop (k + 1) xs)
    by [] unquoted begins first = absurd (omega (arith, first.0.high))
    by (c ∷ more) unquoted begins first = takes-ended c more k unquoted (begins c more refl) first

pub next_line-None : (bytes rest : List ℕ) → IsUnquoted bytes → rest ≡ without_ends bytes → 0 < length rest
    → IsFirstByte (is_byte2 10 13) rest None → TakesLine bytes rest []
next_line-None bytes rest plain is some none =
    let P : List ℕ → Type 0 = Skips bytes in
    let skipped = subst P (sym is) (skips bytes plain) in
    TakesLine-behind bytes rest rest [] skipped (by rest skipped.unquoted some none)
  where
    by : (xs : List ℕ) → IsUnquoted xs → 0 < length xs → IsFirstByte (is_byte2 10 13) xs None → TakesLine xs xs []
    by [] unquoted more first = absurd (omega arith)
    by (c ∷ more) unquoted some first = takes-last c more unquoted first

pub next_line-end : (bytes rest : List ℕ) → IsUnquoted bytes → rest ≡ without_ends bytes → length rest ≡ 0 → records_in bytes ≡ []
unfolding records_from next_record
next_line-end bytes rest plain is none =
    let P : List ℕ → Type 0 = Skips bytes in
    let skipped = subst P (sym is) (skips bytes plain) in
    skipped.same ∙ by rest none
  where
    by : (xs : List ℕ) → length xs ≡ 0 → records_in xs ≡ []
    by [] e = refl
    by (x ∷ xs) e = absurd (omega arith)

-- ---- the byte order mark

pub strip_bom-mark : (xs : List ℕ) → 3 ≤ length xs → is_bom (get_or xs 0 0) (get_or xs 1 0) (get_or xs 2 0) ≡ true
    → drop 3 xs ≡ strip_bom xs
unfolding strip_bom
strip_bom-mark [] long is = absurd (omega arith)
strip_bom-mark (a ∷ []) long is = absurd (omega arith)
strip_bom-mark (a ∷ b ∷ []) long is = absurd (omega arith)
strip_bom-mark (a ∷ b ∷ c ∷ xs) long is = rw is refl

pub strip_bom-short : (xs : List ℕ) → length xs < 3 → xs ≡ strip_bom xs
unfolding strip_bom
strip_bom-short [] short = refl
strip_bom-short (a ∷ []) short = refl
strip_bom-short (a ∷ b ∷ []) short = refl
strip_bom-short (a ∷ b ∷ c ∷ xs) short = absurd (omega arith)

pub strip_bom-other : (xs : List ℕ) → is_bom (get_or xs 0 0) (get_or xs 1 0) (get_or xs 2 0) ≡ false → xs ≡ strip_bom xs
unfolding strip_bom
strip_bom-other [] isnt = refl
strip_bom-other (a ∷ []) isnt = refl
strip_bom-other (a ∷ b ∷ []) isnt = refl
strip_bom-other (a ∷ b ∷ c ∷ xs) isnt = rw isnt refl

pub unquoted-text : (text bytes : List ℕ) → IsUtf8 text → bytes ≡ strip_bom text → IsFirstByte (is_byte 34) bytes None → IsUnquoted bytes
unquoted-text text bytes utf8 is none = record {
  text = subst IsUtf8 (sym is) (no-mark-text text utf8);
  plain = ap (list_any is_quote) (sym (take_all (length bytes) bytes (omega arith))) ∙ any_before is_quote bytes (length bytes) none;
}
