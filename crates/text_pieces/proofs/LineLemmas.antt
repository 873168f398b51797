-- Where lines end. A text is cut at its first line feed, so the lines of a text are the one before it and then the lines of the text
-- behind it. And lines without a line break, each ended by a line feed, are the lines of their text.
use Rattle.std.proofs.Common.{◌≡◌, ◌≢◌, ◌∙◌, ◌<◌, ◌≤◌, ◌+◌, ◌-◌, ℕ, zero, suc, Bool, true, false, not, cond, List, [], ◌∷◌, ◌++◌, Option}
use Rattle.std.proofs.Common.{Some, None, MatchOption, Bor, IsUtf8, map, length, take, drop, get_or, refl, sym, ap, ap₂, subst, inl, inr}
use Rattle.std.proofs.Common.{arith, length-append}
use Rattle.std.proofs.Math.ListN.{drop_of_length-le}
use Rattle.std.proofs.Math.Seq.{take-append_seam, get_or-append_seam}
use Rattle.std.specs.List.{slice_split, list_any, before_first, after_first, position_or_len, onto_first}
use Rattle.std.proofs.lemmas.List.{take_all, length-drop, nil_from_length}
use Rattle.std.specs.Prelude.{◌==◌, nat_lt}
use Rattle.std.specs.Option.{unwrap_or}
use Rattle.std.proofs.lemmas.List.Splits.{slice_split_first, length-slice_split}
use Rattle.std.proofs.lemmas.List.Folds.{list_any-append}
use Rattle.std.proofs.lemmas.Str.{IsUtf8-append, IsUtf8-nil}
use Rattle.std.specs.Str.Lines.{strip_carriage_return}
use Rattle.std.proofs.lemmas.Bool.{false≢true, cases_lt, cases_Bool, eqb-true, or_parts, or_from}
use Rattle.fca_model.specs.Names.{IsName, is_line_break, name_fault}
use Rattle.fca_model.specs.Tables.{Text}
use Rattle.fca_model.specs.declared.TheConstants.{MAX_NAME_BYTES}
use Rattle.fca_model.specs.declared.names.NameFault.TheVariants as name
use Rattle.text_pieces.specs.Lines.{Line, is_line_feed, unless_empty, without_empty_end, lines, text_of}
use Rattle.text_pieces.proofs.BlankLemmas.{last-split}
use Rattle.text_pieces.proofs.TextLemmas.{IsUtf8-cons}
use Rattle.text_pieces.proofs.WordLemmas.{before_first-at, after_first-at}

-- ---- the lines of a text that isn't empty

without_empty_end-cons : (x : Text) (pieces : List Text) → 0 < length pieces → without_empty_end (x ∷ pieces) ≡ x ∷ without_empty_end pieces
without_empty_end-cons x [] h = absurd (omega arith)
without_empty_end-cons x (y ∷ pieces) h = refl

unless_empty-cons : (text : Text) → 0 < length text → unless_empty text ≡ text ∷ []
unless_empty-cons [] h = absurd (omega arith)
unless_empty-cons (byte ∷ text) h = refl

-- a text without a line feed is its one piece
slice_split-whole : (text : Text) → length text ≤ position_or_len is_line_feed text → slice_split is_line_feed text ≡ text ∷ []
slice_split-whole [] h = refl
slice_split-whole (byte ∷ text) h = elim (cases_Bool (is_line_feed byte)) [
  | inl t ↦ absurd (let none : suc (length text) ≤ 0 =
      subst (λ b. suc (length text) ≤ cond (not b) (1 + position_or_len is_line_feed text) 0) t h in omega arith)
  | inr f ↦
      let later : suc (length text) ≤ 1 + position_or_len is_line_feed text =
      subst (λ b. suc (length text) ≤ cond (not b) (1 + position_or_len is_line_feed text) 0) f h in
      ap (λ b. cond b ([] ∷ slice_split is_line_feed text) (onto_first byte (slice_split is_line_feed text))) f
      ∙ ap (onto_first byte) (slice_split-whole text (omega arith))
]

-- the first line of a text that isn't empty, and the lines behind it
lines-cons : (text : Text) → 0 < length text → lines text ≡ strip_carriage_return (before_first is_line_feed text) ∷ lines
    (after_first is_line_feed text)
lines-cons text h = elim (cases_lt (position_or_len is_line_feed text) (length text)) [
  | inl lt ↦
      let behind = slice_split is_line_feed (after_first is_line_feed text) in
      let some : 0 < length behind = omega (arith, length-slice_split is_line_feed (after_first is_line_feed text)) in
      ap (λ pieces. map strip_carriage_return (without_empty_end pieces)) (slice_split_first is_line_feed text 0 lt)
      ∙ ap (map strip_carriage_return) (without_empty_end-cons (before_first is_line_feed text) behind some)
  | inr le ↦
      let all : take (position_or_len is_line_feed text) text ≡ text = take_all (position_or_len is_line_feed text) text le in
      let none : drop (position_or_len is_line_feed text + 1) text ≡ [] = drop_of_length-le text (omega arith) in
      ap (λ pieces. map strip_carriage_return (without_empty_end pieces)) (slice_split-whole text le)
      ∙ ap (map strip_carriage_return) (unless_empty-cons text h)
      ∙ rw (all, none) refl
]

-- the same, of the parts that were cut; less text is left
pub lines-cut_some : (text line behind : Text) → 0 < length text → line ≡ strip_carriage_return (before_first is_line_feed text)
    → behind ≡ after_first is_line_feed text
    → (lines text ≡ line ∷ lines behind) × (length behind < length text)
lines-cut_some text line behind some front back =
    let less : length (drop (position_or_len is_line_feed text + 1) text) < length text =
    omega (arith, length-drop (position_or_len is_line_feed text + 1) text) in (
      lines-cons text some ∙ rw (front, back) refl,
      rw back less,
    )

some_left : (n : ℕ) (b : Bool) → b ≡ (n == 0) → b ≡ false → 0 < n
some_left zero b e h = absurd (false≢true (sym h ∙ e))
some_left (suc n) b e h = omega arith

-- where the text was found not to be empty
pub lines-cut : (text line behind : Text) (b : Bool) → b ≡ (length text == 0) → b ≡ false
    → line ≡ strip_carriage_return (before_first is_line_feed text) → behind ≡ after_first is_line_feed text
    → (lines text ≡ line ∷ lines behind) × (length behind < length text)
lines-cut text line behind b e h front back = lines-cut_some text line behind (some_left (length text) b e h) front back

-- behind the last line there is none
pub lines-none : (text : Text) (b : Bool) → b ≡ (length text == 0) → b ≡ true → lines text ≡ []
lines-none text b e h = ap lines (nil_from_length text (eqb-true (length text) 0 (sym e ∙ h)))

-- ---- the carriage return

strip-ended : (front : Text) → strip_carriage_return (front ++ 13 ∷ []) ≡ front
strip-ended front =
    let last : length (front ++ 13 ∷ []) - 1 ≡ length front = omega (arith, length-append front (13 ∷ [])) in
    rw (last, get_or-append_seam front 13 [] 0, take-append_seam front (13 ∷ [])) refl

strip-other : (piece : Text) → ((front : Text) → piece ≢ front ++ 13 ∷ []) → strip_carriage_return piece ≡ piece
strip-other [] h = refl
strip-other (b ∷ piece) h = elim (cases_Bool (get_or (b ∷ piece) (length (b ∷ piece) - 1) 0 == 13)) [
  | inl is ↦
      let whole = last-split (b ∷ piece) (omega arith) in
      let front = take (length (b ∷ piece) - 1) (b ∷ piece) in
      absurd (h front (sym whole ∙ ap (λ c. front ++ c ∷ []) (eqb-true _ 13 is)))
  | inr isnt ↦ rw isnt refl
]

-- what is left where a carriage return was looked for at the end, and taken off where it was found
pub strip-stripped : (piece : Bor (List ℕ)) (r : Option (Bor (List ℕ)))
    → MatchOption r ((front : List ℕ) → piece.now ≢ front ++ (13 ∷ [])) (λ x. piece.now ≡ x.now ++ (13 ∷ []))
    → (unwrap_or r piece).now ≡ strip_carriage_return piece.now
strip-stripped piece None h = sym (strip-other piece.now h)
strip-stripped piece (Some x) h = rw h (sym (strip-ended x.now))

-- ---- lines without a line break

pub no_break-append : (a b : Text) → list_any is_line_break a ≡ false → list_any is_line_break b ≡ false
    → list_any is_line_break (a ++ b) ≡ false
no_break-append a b h k = list_any-append is_line_break a b ∙ or_from (list_any is_line_break a) (list_any is_line_break b) h k

pub no_break-faultless : (bytes : Text) → name_fault bytes ≡ None → list_any is_line_break bytes ≡ false
unfolding name_fault
no_break-faultless bytes h = by (length bytes == 0) (nat_lt MAX_NAME_BYTES (length bytes)) (list_any is_line_break bytes) h
  where
    by : (a b c : Bool) → cond a (Some name.Empty) (cond b (Some name.Long) (cond c (Some name.Line) None)) ≡ None → c ≡ false
    by true b c h = cc h
    by false true c h = cc h
    by false false true h = cc h
    by false false false h = refl

no_feed : (l : Text) → list_any is_line_break l ≡ false → list_any is_line_feed l ≡ false
no_feed [] h = refl
no_feed (b ∷ l) h =
    let parts = or_parts (is_line_break b) (list_any is_line_break l) h in
    or_from (is_line_feed b) (list_any is_line_feed l) (or_parts (b == 10) (b == 13) parts.0).0 (no_feed l parts.1)

no_return : (l : Text) → list_any is_line_break l ≡ false → (i : ℕ) → (get_or l i 0 == 13) ≡ false
no_return [] h i = refl
no_return (b ∷ l) h zero = (or_parts (b == 10) (b == 13) (or_parts (is_line_break b) (list_any is_line_break l) h).0).1
no_return (b ∷ l) h (suc i) = no_return l (or_parts (is_line_break b) (list_any is_line_break l) h).1 i

strip-line : (l : Text) → list_any is_line_break l ≡ false → strip_carriage_return l ≡ l
strip-line l h = ap (λ b. cond b (take (length l - 1) l) l) (no_return l h (length l - 1))

pub lines-line : (l rest : Text) → list_any is_line_break l ≡ false → lines (l ++ (10 ∷ rest)) ≡ l ∷ lines rest
lines-line l rest h =
    lines-cons (l ++ (10 ∷ rest)) (omega (arith, length-append l (10 ∷ rest)))
    ∙ ap₂ (λ x t. strip_carriage_return x ∷ lines t) (before_first-at is_line_feed l 10 rest (no_feed l h) refl)
    (after_first-at is_line_feed l 10 rest (no_feed l h) refl)
    ∙ ap (λ x. x ∷ lines rest) (strip-line l h)

-- ---- whole texts

-- a line of a text: it has no line break, and is text
pub record IsLine (line : Line) : Type 0 where
  pub unbroken : list_any is_line_break line ≡ false
  pub utf8 : IsUtf8 line

abbrev pub EachLine : List Line → Type 0
EachLine [] = Unit {0}
EachLine (line ∷ lines) = IsLine line × EachLine lines

pub EachLine-append : (xs ys : List Line) → EachLine xs → EachLine ys → EachLine (xs ++ ys)
EachLine-append [] ys f g = g
EachLine-append (x ∷ xs) ys f g = (f.0, EachLine-append xs ys f.1 g)

pub lines-text_of : (ls : List Line) → EachLine ls → lines (text_of ls) ≡ ls
lines-text_of [] h = refl
lines-text_of (line ∷ ls) h = lines-line line (text_of ls) h.0.unbroken ∙ ap (λ rest. line ∷ rest) (lines-text_of ls h.1)

pub IsUtf8-text_of : (ls : List Line) → EachLine ls → IsUtf8 (text_of ls)
IsUtf8-text_of [] h = IsUtf8-nil
IsUtf8-text_of (line ∷ ls) h = IsUtf8-append line (10 ∷ text_of ls) h.0.utf8
    (IsUtf8-cons 10 (text_of ls) (omega arith) (IsUtf8-text_of ls h.1))

pub IsLine-nil : IsLine []
IsLine-nil = record { unbroken = refl; utf8 = IsUtf8-nil }

pub IsLine-more : (b : ℕ) (line : Line) → is_line_break b ≡ false → b < 128 → IsLine line → IsLine (b ∷ line)
IsLine-more b line h small rest = record {
  unbroken = rw h rest.unbroken;
  utf8 = IsUtf8-cons b line small rest.utf8;
}

pub IsLine-name : (bytes : Text) → IsName bytes → IsLine bytes
IsLine-name bytes h = record { unbroken = no_break-faultless bytes h.faultless; utf8 = h.utf8 }
