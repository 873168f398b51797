-- One byte more of a line: a comma begins a new piece, and any other byte comes behind the last piece.
use Rattle.std.proofs.Common.{◌≡◌, ◌∙◌, ◌<◌, ◌≤◌, ◌+◌, ◌-◌, ◌∷◌, ◌++◌, [], ℕ, true, false, List, length, take, drop, set, sum, inl, inr}
use Rattle.std.proofs.Common.{refl, sym, ap, length-append, length-drop, arith}
use Rattle.std.proofs.lemmas.Bool.{cases_Bool}
use Rattle.std.proofs.lemmas.List.{drop-append-le, drop_all, length-take-le, take-append-drop, take-set, take-set-le, take-take, take_all}
use Rattle.std.proofs.lemmas.List.{take_more_set}
use Rattle.std.proofs.lemmas.List.Sums.{sum_by-append, sum_by-cons}
use Rattle.fca_model.specs.Tables.{Text}
use Rattle.csv_context.proofs.LineLemmas.{fields_in-some}
use Rattle.csv_context.specs.Lines.{fields_in, add_byte, is_comma}
use Rattle.csv_context.specs.Records.{Record}
use Rattle.value_tables.specs.Cells.{cut}
use Rattle.value_tables.proofs.CellLemmas.{cut_append}

-- ---- the fields of one byte more

-- the last piece with one byte more
abbrev extended : ℕ → Record → Record
extended c [] = (c ∷ []) ∷ []
extended c (piece ∷ []) = (piece ++ c ∷ []) ∷ []
extended c (piece ∷ next ∷ pieces) = piece ∷ extended c (next ∷ pieces)

extended-append : (c : ℕ) (pieces : Record) (last : Text) → extended c (pieces ++ last ∷ []) ≡ pieces ++ (last ++ c ∷ []) ∷ []
extended-append c [] last = refl
extended-append c (piece ∷ []) last = refl
extended-append c (piece ∷ next ∷ pieces) last = ap (λ (ps : Record). piece ∷ ps) (extended-append c (next ∷ pieces) last)

extended-cons : (c : ℕ) (piece : Text) (pieces : Record) → 0 < length pieces → extended c (piece ∷ pieces) ≡ piece ∷ extended c pieces
extended-cons c piece [] some = absurd (omega arith)
extended-cons c piece (next ∷ pieces) some = refl

extended-joined : (c b : ℕ) (pieces : Record) → extended c (add_byte b pieces) ≡ add_byte b (extended c pieces)
extended-joined c b [] = refl
extended-joined c b (piece ∷ []) = refl
extended-joined c b (piece ∷ next ∷ pieces) = refl

joined-some : (b : ℕ) (pieces : Record) → 0 < length (add_byte b pieces)
joined-some b [] = omega arith
joined-some b (piece ∷ pieces) = omega arith

joined-append : (b : ℕ) (pieces more : Record) → 0 < length pieces → add_byte b (pieces ++ more) ≡ add_byte b pieces ++ more
joined-append b [] more some = absurd (omega arith)
joined-append b (piece ∷ pieces) more some = refl

fields_in-comma : (line : Text) (c : ℕ) → is_comma c ≡ true → fields_in (line ++ c ∷ []) ≡ fields_in line ++ [] ∷ []
fields_in-comma [] c comma = rw comma refl
fields_in-comma (b ∷ line) c comma = elim (cases_Bool (is_comma b)) [
  | inl is ↦ rw is (ap (λ (ps : Record). [] ∷ ps) (fields_in-comma line c comma))
  | inr isnt ↦ rw isnt (ap (add_byte b) (fields_in-comma line c comma) ∙ joined-append b (fields_in line) ([] ∷ []) (fields_in-some line))
]

fields_in-other : (line : Text) (c : ℕ) → is_comma c ≡ false → fields_in (line ++ c ∷ []) ≡ extended c (fields_in line)
fields_in-other [] c other = rw other refl
fields_in-other (b ∷ line) c other = elim (cases_Bool (is_comma b)) [
  | inl is ↦ rw is (ap (λ (ps : Record). [] ∷ ps) (fields_in-other line c other)
      ∙ sym (extended-cons c [] (fields_in line) (fields_in-some line)))
  | inr isnt ↦ rw isnt (ap (add_byte b) (fields_in-other line c other) ∙ sym (extended-joined c b (fields_in line)))
]

-- ---- the pieces so far

-- the pieces that have ended, and behind them the one at hand
pub record SoFar (line text lengths : List ℕ) (count start end : ℕ) : Type 0 where
  pub fields : fields_in line ≡ cut (take count lengths) (take start text) ++ drop start (take end text) ∷ []
  pub whole : sum (take count lengths) ≡ start
  pub ordered : start ≤ end
  pub within : end ≤ length line
  pub few : count ≤ length line

module _ (line text lengths : List ℕ) (count start end : ℕ) (so_far : SoFar line text lengths count start end) (short : length line < 256)
    (room : length text ≡ 256) (places : length lengths ≡ 256) where
  text_size : length (take end text) ≡ end
  text_size = length-take-le end text (omega (arith, so_far.within))

  hand_size : length (drop start (take end text)) ≡ end - start
  hand_size = length-drop start (take end text) ∙ ap (λ (n : ℕ). n - start) text_size

  front : take start text ++ drop start (take end text) ≡ take end text
  front =
      let same : take start (take end text) ≡ take start text = take-take start end text so_far.ordered in
      ap (λ (xs : List ℕ). xs ++ drop start (take end text)) (sym same) ∙ take-append-drop start (take end text)

  -- the piece at hand has ended
  ended : cut (take count lengths ++ (end - start) ∷ []) (take end text) ≡ fields_in line
  ended =
      let size : length (take start text) ≡ start = length-take-le start text (omega (arith, so_far.ordered, so_far.within)) in
      let few : length (drop start (take end text)) ≤ end - start = omega (arith, hand_size) in
      ap (λ (xs : List ℕ). cut (take count lengths ++ (end - start) ∷ []) xs) (sym front)
      ∙ cut_append (take count lengths) ((end - start) ∷ []) (take start text) (drop start (take end text)) (so_far.whole ∙ sym size)
      ∙ ap (λ (piece : Text). cut (take count lengths) (take start text) ++ piece ∷ [])
      (take_all (end - start) (drop start (take end text)) few)
      ∙ sym so_far.fields

  ended-sum : sum (take count lengths ++ (end - start) ∷ []) ≡ end
  ended-sum =
      let one : sum ((end - start) ∷ []) ≡ end - start + 0 = sum_by-cons (λ x. x) (end - start) [] in
      sum_by-append (λ x. x) (take count lengths) ((end - start) ∷ []) ∙ omega (arith, one, so_far.whole, so_far.ordered)

  kept : take (count + 1) (set lengths count (end - start)) ≡ take count lengths ++ (end - start) ∷ []
  kept = take_more_set lengths count (end - start) (omega (arith, so_far.few))

  pub pieces-ended : cut (take (count + 1) (set lengths count (end - start))) (take end text) ≡ fields_in line
  pieces-ended = rw kept ended

  pub pieces-sum : sum (take (count + 1) (set lengths count (end - start))) ≡ length (take end text)
  pieces-sum = rw kept (ended-sum ∙ sym text_size)

  pub SoFar-comma : (b : ℕ) → is_comma b ≡ true → SoFar (line ++ b ∷ []) (set text end b) (set lengths count (end - start))
      (count + 1) end end
  SoFar-comma b comma =
      let longer : length (line ++ b ∷ []) ≡ length line + 1 = length-append line (b ∷ []) in
      let none : drop end (take end text) ≡ [] = drop_all end (take end text) (omega (arith, text_size)) in
      record {
        fields = rw (kept, take-set text end b, none) (fields_in-comma line b comma ∙ ap (λ (ps : Record). ps ++ [] ∷ []) (sym ended));
        whole = rw kept ended-sum;
        ordered = omega arith;
        within = omega (arith, longer, so_far.within);
        few = omega (arith, longer, so_far.few);
      }

  pub SoFar-other : (b : ℕ) → is_comma b ≡ false
      → SoFar (line ++ b ∷ []) (set text end b) (set lengths count (end - start)) count start (end + 1)
  SoFar-other b other =
      let longer : length (line ++ b ∷ []) ≡ length line + 1 = length-append line (b ∷ []) in
      let more : take (end + 1) (set text end b) ≡ take end text ++ b ∷ [] = take_more_set text end b (omega (arith, so_far.within)) in
      let hand : drop start (take end text ++ b ∷ []) ≡ drop start (take end text) ++ b ∷ [] =
      drop-append-le start (take end text) (b ∷ []) (omega (arith, text_size, so_far.ordered)) in
      let fields : fields_in (line ++ b ∷ []) ≡ cut (take count lengths) (take start text) ++ (drop start (take end text) ++ b ∷ []) ∷ [] =
      fields_in-other line b other ∙ ap (extended b) so_far.fields
      ∙ extended-append b (cut (take count lengths) (take start text)) (drop start (take end text)) in
      record {
        fields = rw (take-set lengths count (end - start), take-set-le start text end b so_far.ordered, more, hand) fields;
        whole = rw (take-set lengths count (end - start)) so_far.whole;
        ordered = omega (arith, so_far.ordered);
        within = omega (arith, longer, so_far.within);
        few = omega (arith, longer, so_far.few);
      }
