-- The fields of a text are texts. The machine that reads records goes byte by byte; a text goes character by character. A character
-- below 128 is one byte, and one step. The bytes of any other are at least 128, so no mark of the format: they only join the field at
-- hand, and the field has the whole character in the end.
use Rattle.std.specs.Prelude.{◌<◌, ◌≤◌, ◌&&◌}
use Rattle.std.proofs.Common.{◌≡◌, ◌==◌, ◌++◌, ◌∷◌, ◌∙◌, [], ℕ, List, Bool, Some, None, refl, sym, subst, true, false, append_assoc, inl}
use Rattle.std.proofs.Common.{inr, arith, Option}
use Rattle.std.proofs.lemmas.List.{append-nil}
use Rattle.std.proofs.lemmas.Bool.{cases_Bool, eqb-true, ne_eqb, le-ltb}
use Rattle.std.proofs.lemmas.Str.{IsUtf8-append, IsUtf8-nil, IsUtf8-encode, IsUtf8-past_char, encode_ascii}
use Rattle.std.specs.Str.{IsUtf8}
use lib.Utf8.{encode, encodes, scalar, scalars}
use lib.Dec.{ltb}
use mathlib.Core.Bool.{cond}
use mathlib.Core.Logic.{dite}
use native.Mathlib.Decide.{dec_lt}
use Rattle.csv.specs.Machine.{next_record, step, is_end, fields_after, field_after, ends_at_end, Read}
use Rattle.csv.specs.Reading.{default_config, strip_bom, is_bom}
use Rattle.csv.specs.Records.{AllText}
use Rattle.csv.specs.declared.parser.State.{State}
use Rattle.csv.specs.declared.parser.State.TheVariants as st
use Rattle.csv.specs.declared.parser.Action.{Action}
use Rattle.csv.specs.declared.parser.Action.TheVariants as act

-- the state after a byte past ASCII, from each state
abbrev pub past : State → State
past st.StartRecord = st.InField
past st.StartField = st.InField
past st.InField = st.InField
past st.InQuoted = st.InQuoted
past st.AfterQuote = st.InField
past st.InEscape = st.InQuoted
past st.InComment = st.InComment
past st.AfterCr = st.InField

abbrev pub what : State → Action
what st.StartRecord = act.Copy
what st.StartField = act.Copy
what st.InField = act.Copy
what st.InQuoted = act.Copy
what st.AfterQuote = act.Copy
what st.InEscape = act.Copy
what st.InComment = act.Skip
what st.AfterCr = act.Copy

pub not-mark : (b m : ℕ) → 128 ≤ b → m < 128 → (b == m) ≡ false
not-mark b m h l = ne_eqb b m (λ e. absurd (omega arith))

pub high-step : (s : State) (b : ℕ) → 128 ≤ b → step default_config s b ≡ (past s, what s)
high-step st.StartRecord b h = rw (
  not-mark b 13 h (omega arith),
  not-mark b 10 h (omega arith),
  not-mark b 34 h (omega arith),
  not-mark b 44 h (omega arith),
) refl
high-step st.StartField b h = rw (
  not-mark b 34 h (omega arith),
  not-mark b 44 h (omega arith),
  not-mark b 13 h (omega arith),
  not-mark b 10 h (omega arith),
) refl
high-step st.InField b h = rw (not-mark b 44 h (omega arith), not-mark b 13 h (omega arith), not-mark b 10 h (omega arith)) refl
high-step st.AfterQuote b h = rw (
  not-mark b 34 h (omega arith),
  not-mark b 44 h (omega arith),
  not-mark b 13 h (omega arith),
  not-mark b 10 h (omega arith),
) refl
high-step st.AfterCr b h = rw (
  not-mark b 10 h (omega arith),
  not-mark b 13 h (omega arith),
  not-mark b 34 h (omega arith),
  not-mark b 44 h (omega arith),
) refl
high-step st.InQuoted b h = rw (not-mark b 34 h (omega arith)) refl
high-step st.InEscape b h = refl
high-step st.InComment b h = rw (not-mark b 10 h (omega arith)) refl

pub AllText-snoc : (fields : List (List ℕ)) (field : List ℕ) → AllText fields → IsUtf8 field → AllText (fields ++ (field ∷ []))
unfolding AllText
AllText-snoc [] field a t = (t, tt)
AllText-snoc (f ∷ fs) field a t = (a.0, AllText-snoc fs field a.1 t)

pub fields-text : (a : Action) (fields : List (List ℕ)) (field : List ℕ) → AllText fields → IsUtf8 field
    → AllText (fields_after a fields field)
fields-text act.Skip fields field p t = p
fields-text act.Copy fields field p t = p
fields-text act.EndField fields field p t = AllText-snoc fields field p t
fields-text act.EndRecord fields field p t = AllText-snoc fields field p t

pub field-text : (a : Action) (c : ℕ) (field : List ℕ) → IsUtf8 (c ∷ []) → IsUtf8 field → IsUtf8 (field_after a c field)
field-text act.Skip c field one t = t
field-text act.Copy c field one t = IsUtf8-append field (c ∷ []) t one
field-text act.EndField c field one t = IsUtf8-nil
field-text act.EndRecord c field one t = IsUtf8-nil

-- what was read is text, and so is what is left
abbrev pub GivesText : Option Read → Type 0
GivesText None = Unit {0}
GivesText (Some p) = AllText p.0 × IsUtf8 p.2

goes-on : (s : State) → is_end (what s) ≡ false
goes-on st.StartRecord = refl
goes-on st.StartField = refl
goes-on st.InField = refl
goes-on st.InQuoted = refl
goes-on st.AfterQuote = refl
goes-on st.InEscape = refl
goes-on st.InComment = refl
goes-on st.AfterCr = refl

ends-none : (s : State) (fields : List (List ℕ)) (field : List ℕ) → fields_after (what s) fields field ≡ fields
ends-none st.StartRecord fields field = refl
ends-none st.StartField fields field = refl
ends-none st.InField fields field = refl
ends-none st.InQuoted fields field = refl
ends-none st.AfterQuote fields field = refl
ends-none st.InEscape fields field = refl
ends-none st.InComment fields field = refl
ends-none st.AfterCr fields field = refl

one-high : (s : State) (fields : List (List ℕ)) (field : List ℕ) (b : ℕ) (rest : List ℕ) → 128 ≤ b
    → next_record default_config s fields field (b ∷ rest) ≡ next_record default_config (past s) fields (field_after (what s) b field) rest
unfolding next_record
one-high s fields field b rest h = rw (high-step s b h, goes-on s, ends-none s fields field) refl

abbrev pub High : List ℕ → Type 0
High [] = Unit {0}
High (b ∷ bs) = (128 ≤ b) × High bs

abbrev run : State → List ℕ → State
run s [] = s
run s (b ∷ bs) = run (past s) bs

abbrev joined : State → List ℕ → List ℕ → List ℕ
joined s field [] = field
joined s field (b ∷ bs) = joined (past s) (field_after (what s) b field) bs

high-run : (s : State) (fields : List (List ℕ)) (field hs rest : List ℕ) → High hs
    → next_record default_config s fields field (hs ++ rest) ≡ next_record default_config (run s hs) fields (joined s field hs) rest
high-run s fields field [] rest h = refl
high-run s fields field (b ∷ hs) rest h = one-high s fields field b (hs ++ rest) h.0
    ∙ high-run (past s) fields (field_after (what s) b field) hs rest h.1

in-field : (field hs : List ℕ) → joined st.InField field hs ≡ field ++ hs
in-field field [] = sym (append-nil field)
in-field field (b ∷ hs) = in-field (field ++ (b ∷ [])) hs ∙ append_assoc field (b ∷ []) hs

in-quoted : (field hs : List ℕ) → joined st.InQuoted field hs ≡ field ++ hs
in-quoted field [] = sym (append-nil field)
in-quoted field (b ∷ hs) = in-quoted (field ++ (b ∷ [])) hs ∙ append_assoc field (b ∷ []) hs

in-comment : (field hs : List ℕ) → joined st.InComment field hs ≡ field
in-comment field [] = refl
in-comment field (b ∷ hs) = in-comment field hs

joined-text : (s : State) (field hs : List ℕ) → IsUtf8 field → IsUtf8 hs → IsUtf8 (joined s field hs)
joined-text s field [] f h = f
joined-text st.StartRecord field (b ∷ hs) f h = subst IsUtf8 (sym (in-field field (b ∷ hs))) (IsUtf8-append field (b ∷ hs) f h)
joined-text st.StartField field (b ∷ hs) f h = subst IsUtf8 (sym (in-field field (b ∷ hs))) (IsUtf8-append field (b ∷ hs) f h)
joined-text st.InField field (b ∷ hs) f h = subst IsUtf8 (sym (in-field field (b ∷ hs))) (IsUtf8-append field (b ∷ hs) f h)
joined-text st.InQuoted field (b ∷ hs) f h = subst IsUtf8 (sym (in-quoted field (b ∷ hs))) (IsUtf8-append field (b ∷ hs) f h)
joined-text st.AfterQuote field (b ∷ hs) f h = subst IsUtf8 (sym (in-field field (b ∷ hs))) (IsUtf8-append field (b ∷ hs) f h)
joined-text st.InEscape field (b ∷ hs) f h = subst IsUtf8 (sym (in-quoted field (b ∷ hs))) (IsUtf8-append field (b ∷ hs) f h)
joined-text st.InComment field (b ∷ hs) f h = subst IsUtf8 (sym (in-comment field (b ∷ hs))) f
joined-text st.AfterCr field (b ∷ hs) f h = subst IsUtf8 (sym (in-field field (b ∷ hs))) (IsUtf8-append field (b ∷ hs) f h)

by-size : (x y z : Bool) (a b c d : List ℕ) → x ≡ false → High b → High c → High d → High (cond x a (cond y b (cond z c d)))
by-size true y z a b c d e hb hc hd = cc e
by-size false true z a b c d e hb hc hd = hb
by-size false false true a b c d e hb hc hd = hc
by-size false false false a b c d e hb hc hd = hd

pub encode-high : (c : ℕ) → 128 ≤ c → High (encode c)
unfolding encode
encode-high c h = by-size (ltb c 128) (ltb c 2048) (ltb c 65536) _ _ _ _ (le-ltb c 128 h)
    (omega arith, (omega arith, tt)) (omega arith, (omega arith, (omega arith, tt)))
    (omega arith, (omega arith, (omega arith, (omega arith, tt))))

pub both-true : (x y : Bool) → (x && y) ≡ true → (x ≡ true) × (y ≡ true)
both-true true y e = (refl, e)
both-true false y e = cc e

-- the same, of the characters
text-record : (cs : List ℕ) → scalars cs ≡ true → (s : State) (fields : List (List ℕ)) (field : List ℕ) → AllText fields → IsUtf8 field
    → GivesText (next_record default_config s fields field (encodes cs))
unfolding next_record
text-record [] sc s fields field a t = elim (cases_Bool (ends_at_end s)) [
  | inl it ↦ rw it (AllText-snoc fields field a t, ([], (refl, refl)))
  | inr it ↦ rw it tt
]
text-record (c ∷ cs) sc s fields field a t =
    let both = both-true (scalar c) (scalars cs) sc in
    dite (dec_lt c 128)
    (λ low.
    let one : IsUtf8 (c ∷ []) = subst IsUtf8 (encode_ascii c low) (IsUtf8-encode c both.0) in
    rw (encode_ascii c low) (elim (cases_Bool (is_end (step default_config s c).1)) [
      | inl it ↦ rw it (fields-text (step default_config s c).1 fields field a t, (cs, (both.1, refl)))
      | inr it ↦ rw it (text-record cs both.1 (step default_config s c).0 (fields_after (step default_config s c).1 fields field)
          (field_after (step default_config s c).1 c field)
          (fields-text (step default_config s c).1 fields field a t) (field-text (step default_config s c).1 c field one t))
    ]))
    (λ high.
    let hs = encode-high c (omega arith) in
    rw (high-run s fields field (encode c) (encodes cs) hs)
    (text-record cs both.1 (run s (encode c)) fields (joined s field (encode c)) a
    (joined-text s field (encode c) t (IsUtf8-encode c both.0))))

-- a record of a text has texts as its fields, and what is left is a text
pub next_record-text : (xs : List ℕ) → IsUtf8 xs → (s : State) → GivesText (next_record default_config s [] [] xs)
unfolding AllText
next_record-text xs t s = subst (λ (ys : List ℕ). GivesText (next_record default_config s [] [] ys)) t.1.1
    (text-record t.0 t.1.0 s [] [] tt IsUtf8-nil)

-- the bytes after a byte order mark are text
pub no-mark-text : (xs : List ℕ) → IsUtf8 xs → IsUtf8 (strip_bom xs)
unfolding strip_bom encode
no-mark-text [] t = t
no-mark-text (a ∷ []) t = t
no-mark-text (a ∷ b ∷ []) t = t
no-mark-text (a ∷ b ∷ c ∷ rest) t = elim (cases_Bool (is_bom a b c)) [
  | inl it ↦
      let one = both-true ((a == 239) && (b == 187)) (c == 191) it in
      let two = both-true (a == 239) (b == 187) one.0 in
      rw it (IsUtf8-past_char (a ∷ b ∷ c ∷ rest) rest 65279 t
      (λ i. eqb-true a 239 two.0 i ∷ eqb-true b 187 two.1 i ∷ eqb-true c 191 one.1 i ∷ rest))
  | inr it ↦ rw it t
]
