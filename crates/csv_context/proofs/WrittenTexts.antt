-- The written records of texts are text. A field between quotes goes character by character: a character below 128 is one byte, and a
-- quote is written twice; the bytes of any other are at least 128, so none of them is a quote.
use Rattle.std.proofs.Common.{◌≡◌, ◌<◌, ◌==◌, ◌++◌, ◌∷◌, [], ℕ, List, Bool, true, false, cond, refl, ap, subst, inl, inr, arith}
use Rattle.std.proofs.lemmas.Bool.{cases_Bool, and_parts}
use Rattle.std.proofs.lemmas.Str.{IsUtf8-append, IsUtf8-nil, IsUtf8-encode, encode_ascii}
use Rattle.std.specs.Str.{IsUtf8}
use Rattle.csv.specs.Records.{AllText}
use Rattle.csv.specs.Writing.{default_writer, escaped, field_text, fields_text, is_blank, needs_quotes, quoted, row_body, row_text}
use Rattle.text_pieces.proofs.TextLemmas.{IsUtf8-cons, IsUtf8-one}
use Rattle.csv_context.specs.Records.{Record}
use Rattle.csv_context.specs.Written.{records_text}
use Rattle.csv_context.proofs.Texts.{High, encode-high, not-mark}
use lib.Utf8.{encode, encodes, scalar, scalars}
use mathlib.Core.Logic.{dite}
use native.Mathlib.Decide.{dec_lt}

escaped-high : (hs rest : List ℕ) → High hs → escaped default_writer (hs ++ rest) ≡ hs ++ escaped default_writer rest
unfolding escaped
escaped-high [] rest h = refl
escaped-high (b ∷ hs) rest h = rw (not-mark b 34 h.0 (omega arith)) (ap (λ x. b ∷ x) (escaped-high hs rest h.1))

escaped-low : (c : ℕ) (rest : List ℕ) → c < 128 → IsUtf8 (escaped default_writer rest) → IsUtf8 (escaped default_writer (c ∷ rest))
unfolding escaped
escaped-low c rest low text = elim (cases_Bool (c == 34)) [
  | inl it ↦ rw it (IsUtf8-cons 34 (c ∷ escaped default_writer rest) (omega arith) (IsUtf8-cons c (escaped default_writer rest) low text))
  | inr it ↦ rw it (IsUtf8-cons c (escaped default_writer rest) low text)
]

escaped-encodes : (cs : List ℕ) → scalars cs ≡ true → IsUtf8 (escaped default_writer (encodes cs))
unfolding escaped
escaped-encodes [] sc = IsUtf8-nil
escaped-encodes (c ∷ cs) sc =
    let both = and_parts (scalar c) (scalars cs) sc in
    dite (dec_lt c 128)
    (λ low. rw (encode_ascii c low) (escaped-low c (encodes cs) low (escaped-encodes cs both.1)))
    (λ high. rw (escaped-high (encode c) (encodes cs) (encode-high c (omega arith)))
    (IsUtf8-append (encode c) (escaped default_writer (encodes cs)) (IsUtf8-encode c both.0) (escaped-encodes cs both.1)))

escaped-text : (bytes : List ℕ) → IsUtf8 bytes → IsUtf8 (escaped default_writer bytes)
escaped-text bytes text = subst (λ (x : List ℕ). IsUtf8 (escaped default_writer x)) text.1.1 (escaped-encodes text.0 text.1.0)

quoted-text : (field : List ℕ) → IsUtf8 field → IsUtf8 (quoted default_writer field)
quoted-text field text =
    IsUtf8-cons 34 (escaped default_writer field ++ 34 ∷ []) (omega arith)
    (IsUtf8-append (escaped default_writer field) (34 ∷ []) (escaped-text field text) (IsUtf8-one 34 (omega arith)))

by-quotes : (test : Bool) (x y : List ℕ) → IsUtf8 x → IsUtf8 y → IsUtf8 (cond test x y)
by-quotes true x y f g = f
by-quotes false x y f g = g

field_text-text : (field : List ℕ) → IsUtf8 field → IsUtf8 (field_text default_writer field)
field_text-text field text = by-quotes (needs_quotes default_writer field) (quoted default_writer field) field (quoted-text field text) text

fields_text-text : (fields : Record) → AllText fields → IsUtf8 (fields_text default_writer fields)
unfolding AllText fields_text
fields_text-text [] text = IsUtf8-nil
fields_text-text (field ∷ fields) text =
    IsUtf8-cons 44 (field_text default_writer field ++ fields_text default_writer fields) (omega arith)
    (IsUtf8-append (field_text default_writer field) (fields_text default_writer fields) (field_text-text field text.0)
    (fields_text-text fields text.1))

row_body-text : (fields : Record) → AllText fields → IsUtf8 (row_body default_writer fields)
unfolding AllText
row_body-text [] text = IsUtf8-nil
row_body-text (field ∷ fields) text =
    IsUtf8-append (field_text default_writer field) (fields_text default_writer fields) (field_text-text field text.0)
    (fields_text-text fields text.1)

row_text-text : (fields : Record) → AllText fields → IsUtf8 (row_text default_writer fields)
row_text-text fields text =
    let feed = IsUtf8-one 10 (omega arith) in
    let quotes = IsUtf8-cons 34 (34 ∷ []) (omega arith) (IsUtf8-one 34 (omega arith)) in
    let end = IsUtf8-append _ (10 ∷ []) (by-quotes (is_blank default_writer fields) (34 ∷ 34 ∷ []) [] quotes IsUtf8-nil) feed in
    IsUtf8-append (row_body default_writer fields) _ (row_body-text fields text) end

-- each of these records has texts as its fields
abbrev pub EachText : List Record → Type 0
EachText [] = Unit {0}
EachText (fields ∷ records) = AllText fields × EachText records

pub IsUtf8-records_text : (records : List Record) → EachText records → IsUtf8 (records_text records)
IsUtf8-records_text [] text = IsUtf8-nil
IsUtf8-records_text (fields ∷ records) text =
    IsUtf8-append (row_text default_writer fields) (records_text records) (row_text-text fields text.0) (IsUtf8-records_text records text.1)
