-- The Burmeister form of a table, place by place: what the lines of a file say, or the first fault.
use Rattle.std.specs.Prelude.{◌≡◌, ◌⊎◌, MatchResult, ℕ, ◌+◌, ◌==◌, zero, suc, cond, List, [], ◌∷◌, ◌++◌, Result, Ok, Err, length, ◌&&◌}
use Rattle.std.specs.Str.Lossy.{utf8_valid_len}
use Rattle.fca_model.specs.Sets.{Set}
use Rattle.fca_model.specs.Tables.{Text, NamedContext}
use Rattle.fca_model.specs.declared.TheConstants.{MAX_ATTRIBUTES, MAX_OBJECTS}
use Rattle.text_pieces.specs.RemainingLines.{RemainingLines, after_blank, after_blanks}
use Rattle.text_pieces.specs.Lines.{Line, lines}
use Rattle.text_pieces.specs.Telling.{then}
use Rattle.cxt_format.specs.LineForms.{b_form, title_form, count_form, name_form, attribute_form, row_form}
use Rattle.cxt_format.specs.declared.read.Head.{Head}
use Rattle.cxt_format.specs.declared.CxtFault.{CxtFault}
use Rattle.cxt_format.specs.declared.CxtFault.TheVariants as fault

-- what was parsed, with what is left, or the first fault
abbrev pub Parsed : Type 0 → Type 0
Parsed X = Result (X × RemainingLines) CxtFault

-- the code parsed what the form parses, seen in this way, and left these lines, unless memory ran out
abbrev pub Parses : {X Y : Type 0} → (X → Y) → Result X CxtFault → Parsed Y → RemainingLines → Type 0
Parses view told form left = MatchResult told (λ x. form ≡ Ok (view x, left)) (λ e. (e ≡ fault.Memory) ⊎ (form ≡ Err e))

abbrev pub next_of : {X : Type 0} → (ℕ → Line → Result X CxtFault) → ℕ → List Line → Parsed X
next_of form k [] = Err (fault.Ended k)
next_of form k (line ∷ lines) = then (form k line) (λ x. Ok (x, record { number = k + 1; lines = lines }))

-- what the form makes of the next line; it is a fault if there is none
abbrev pub next : {X : Type 0} → (ℕ → Line → Result X CxtFault) → RemainingLines → Parsed X
next form left = next_of form left.number left.lines

-- n more of what `parse` parses, which may look at those before
abbrev pub more : {X : Type 0} → (List X → RemainingLines → Parsed X) → List X → ℕ → RemainingLines → Parsed (List X)
more parse xs zero left = Ok (xs, left)
more parse xs (suc n) left = then (parse xs left) (λ p. more parse (xs ++ p.0 ∷ []) n p.1)

-- n more names of objects, one on each line
abbrev pub objects_form : List Text → ℕ → RemainingLines → Parsed (List Text)
objects_form names n left = more (λ before. next name_form) names n left

-- n more names of attributes, one on each line, each different from those before
abbrev pub attributes_form : List Text → ℕ → RemainingLines → Parsed (List Text)
attributes_form names n left = more (λ before. next (attribute_form before)) names n left

-- the next row, after blank lines; without attributes no line is read
abbrev pub next_row : ℕ → RemainingLines → Parsed Set
next_row zero left = Ok ([], left)
next_row (suc width) left = next (row_form (suc width)) (after_blanks left)

-- n more rows
abbrev pub rows_form : ℕ → List Set → ℕ → RemainingLines → Parsed (List Set)
rows_form width rows n left = more (λ before. next_row width) rows n left

abbrev pub end_of : ℕ → List Line → Result (Unit {0}) CxtFault
end_of k [] = Ok tt
end_of k (line ∷ lines) = Err (fault.Trailing k)

-- only blank lines are left
abbrev pub end_form : RemainingLines → Result (Unit {0}) CxtFault
end_form left = let rest = after_blanks left in end_of rest.number rest.lines

-- the letter B, the title, the numbers of objects and of attributes, and a blank line, which may be missing
abbrev pub head_form : RemainingLines → Parsed Head
head_form left =
    then (next b_form left) (λ b.
    then (next title_form b.1) (λ title.
    then (next (count_form MAX_OBJECTS) title.1) (λ objects.
    then (next (count_form MAX_ATTRIBUTES) objects.1) (λ attributes.
    Ok (record { title = title.0; objects = objects.0; attributes = attributes.0 }, after_blank attributes.1)))))

-- the names of the objects and of the attributes, the rows, and blank lines
abbrev pub body_form : Head → RemainingLines → Result NamedContext CxtFault
body_form head left =
    then (objects_form [] head.objects left) (λ objects.
    then (attributes_form [] head.attributes objects.1) (λ attributes.
    then (rows_form head.attributes [] head.objects attributes.1) (λ rows.
    then (end_form rows.1) (λ rest.
    Ok (record {
      title = head.title;
      objects = objects.0;
      attributes = attributes.0;
      context = record { width = head.attributes; rows = rows.0 };
    })))))

-- the table that the lines write
abbrev pub table_form : List Line → Result NamedContext CxtFault
table_form lines = then (head_form (record { number = 1; lines = lines })) (λ head. body_form head.0 head.1)

-- the bytes without the byte order mark before them, if there is one
abbrev pub without_bom : List ℕ → List ℕ
without_bom (a ∷ b ∷ c ∷ bytes) = cond ((a == 239) && (b == 187) && (c == 191)) bytes (a ∷ b ∷ c ∷ bytes)
without_bom bytes = bytes

-- the table that the bytes of a file write, or the first fault: bytes that are not UTF-8, then the first line at fault
unfoldable pub cxt_form : List ℕ → Result NamedContext CxtFault
cxt_form bytes =
    cond (utf8_valid_len bytes == length bytes)
    (table_form (lines (without_bom bytes)))
    (Err (fault.NotUtf8 (utf8_valid_len bytes)))
