-- What one line of a Burmeister file says, by the line's place.
use Rattle.std.specs.Prelude.{ℕ, ◌&&◌, nat_le, nat_lt, Bool, cond, List, Option, Some, None, Result, Ok, Err, length, map, take, drop}
use Rattle.std.specs.Prelude.{codes, bytes_eq}
use Rattle.std.specs.List.{list_all, list_any}
use Rattle.fca_model.specs.Sets.{Set}
use Rattle.fca_model.specs.Tables.{Text}
use Rattle.fca_model.specs.Names.{name_fault}
use Rattle.fca_model.specs.declared.names.NameFault.{NameFault}
use Rattle.fca_model.specs.declared.names.NameFault.TheVariants as name
use Rattle.text_pieces.specs.Blanks.{is_blank_line, trim}
use Rattle.text_pieces.specs.Lines.{Line}
use Rattle.text_pieces.specs.Marks.{is_cross, is_mark}
use Rattle.text_pieces.specs.Numerals.{is_numeral, value_of}
use Rattle.cxt_format.specs.declared.CxtFault.{CxtFault}
use Rattle.cxt_format.specs.declared.CxtFault.TheVariants as fault

-- the letter B, with blanks around it
abbrev pub is_b_line : Line → Bool
is_b_line line = bytes_eq (trim line) (codes "B")

-- the first line is the letter B; nothing is kept of it
abbrev pub b_form : ℕ → Line → Result (Unit {0}) CxtFault
b_form k line = cond (is_b_line line) (Ok tt) (Err fault.NotB)

-- ---- a title and names

abbrev pub title_by : ℕ → Line → Option NameFault → Result (Option Text) CxtFault
title_by k line None = Ok (Some line)
title_by k line (Some name.Empty) = Ok None
title_by k line (Some name.Long) = Err (fault.LongName k)
title_by k line (Some name.Line) = Err (fault.BadName k)
title_by k line (Some name.Memory) = Err fault.Memory

-- line k is a title; an empty line is none
abbrev pub title_form : ℕ → Line → Result (Option Text) CxtFault
title_form k line = title_by k line (name_fault line)

abbrev pub name_by : ℕ → Line → Option NameFault → Result Text CxtFault
name_by k line None = Ok line
name_by k line (Some name.Empty) = Err (fault.EmptyName k)
name_by k line (Some name.Long) = Err (fault.LongName k)
name_by k line (Some name.Line) = Err (fault.BadName k)
name_by k line (Some name.Memory) = Err fault.Memory

-- line k is a name
abbrev pub name_form : ℕ → Line → Result Text CxtFault
name_form k line = name_by k line (name_fault line)

abbrev pub new_name : List Text → ℕ → Result Text CxtFault → Result Text CxtFault
new_name seen k (Ok name) = cond (list_any (bytes_eq name) seen) (Err (fault.DuplicateAttribute k)) (Ok name)
new_name seen k (Err e) = Err e

-- line k is a name that is none of those seen
abbrev pub attribute_form : List Text → ℕ → Line → Result Text CxtFault
attribute_form seen k line = new_name seen k (name_form k line)

-- ---- numbers and rows

-- line k is a number that is at most the limit
abbrev pub count_form : ℕ → ℕ → Line → Result ℕ CxtFault
count_form most k line =
    cond (is_numeral (trim line))
    (cond (nat_lt most (value_of (trim line))) (Err (fault.TooMany k)) (Ok (value_of (trim line))))
    (Err (fault.BadCount k))

-- the row of n attributes that the line writes: n marks, and then blanks alone
abbrev pub row_in_marks : ℕ → Line → Option Set
row_in_marks n line =
    cond (nat_le n (length line) && (list_all is_mark (take n line) && is_blank_line (drop n line)))
    (Some (map is_cross (take n line))) None

abbrev pub row_by : ℕ → Option Set → Result Set CxtFault
row_by k None = Err (fault.BadRow k)
row_by k (Some row) = Ok row

-- line k is a row
abbrev pub row_form : ℕ → ℕ → Line → Result Set CxtFault
row_form width k line = row_by k (row_in_marks width line)
