-- Reading what was written gives the table. The lines of the text are the lines that were written, and the form parses them one
-- after the other: of each it makes what the line was written for, and it leaves the rest. Where there are no attributes, the empty
-- lines of the rows are the blank lines at the end.
use Rattle.std.proofs.Common.{◌≡◌, ◌∙◌, ◌<◌, ◌≤◌, ◌+◌, ◌^◌, ◌==◌, ◌++◌, ◌∷◌, [], ℕ, zero, suc, List, true, Option, Some, None, Result, Ok}
use Rattle.std.proofs.Common.{length, map, bytes_eq, refl, sym, ap, subst, append_assoc, eq-eqb, inl, inr, arith}
use Rattle.std.proofs.lemmas.Bool.{cases_Bool}
use Rattle.std.proofs.lemmas.List.{append-nil}
use Rattle.std.proofs.lemmas.Str.{utf8_valid_len-IsUtf8}
use Rattle.std.specs.List.{list_any}
use Rattle.std.specs.Option.{ForSome}
use Rattle.std.specs.Str.Lossy.{utf8_valid_len}
use Rattle.fca_model.specs.Names.{IsName, name_fault}
use Rattle.fca_model.specs.Sets.{Set}
use Rattle.fca_model.specs.Tables.{Text, NamedContext}
use Rattle.fca_model.specs.declared.TheConstants.{MAX_ATTRIBUTES, MAX_OBJECTS}
use Rattle.context_table.specs.Table.{IsTable, repeat_from}
use Rattle.text_pieces.specs.RemainingLines.{RemainingLines, after_blanks_of}
use Rattle.text_pieces.specs.Lines.{Line, lines}
use Rattle.cxt_format.specs.LineForms.{title_form, row_in_marks}
use Rattle.cxt_format.specs.Form.{Parsed, objects_form, attributes_form, rows_form, head_form, body_form, table_form, end_form, without_bom}
use Rattle.cxt_format.specs.Form.{cxt_form}
use Rattle.text_pieces.specs.Marks.{marks_of}
use Rattle.text_pieces.specs.Lists.{EachName, EachWide}
use Rattle.text_pieces.proofs.ItemLemmas.{EachWide-from_All}
use Rattle.cxt_format.specs.Written.{title_line, head_lines, cxt_lines, cxt_text}
use Rattle.cxt_format.specs.declared.CxtFault.{CxtFault}
use Rattle.text_pieces.proofs.LineLemmas.{IsLine, IsLine-more, EachLine, EachLine-append, IsLine-nil, IsLine-name, lines-text_of}
use Rattle.text_pieces.proofs.LineLemmas.{IsUtf8-text_of}
use Rattle.text_pieces.proofs.MarkLemmas.{IsLine-marks_of}
use Rattle.text_pieces.proofs.NumeralLemmas.{IsLine-decimal}
use Rattle.cxt_format.proofs.LineFormLemmas.{count_form-decimal, row_in_marks-marks_of, is_blank_line-marks_of}

-- the form parses x, and leaves these lines
abbrev Gives : {X : Type 0} → Parsed X → X → List Line → Type 0
Gives form x rest = (k : ℕ) × (form ≡ Ok (x, record { number = k; lines = rest }))

-- ---- names

objects-back : (seen names : List Text) (k : ℕ) (rest : List Line) → EachName names
    → Gives (objects_form seen (length names) (record { number = k; lines = names ++ rest })) (seen ++ names) rest
objects-back seen [] k rest named = (k, rw (append-nil seen) refl)
objects-back seen (name ∷ names) k rest named =
    let left = objects-back (seen ++ name ∷ []) names (k + 1) rest named.1 in
    (left.0, rw named.0.faultless (left.1 ∙ rw (append_assoc seen (name ∷ []) names) refl))

attributes-back : (seen names : List Text) (i k : ℕ) (rest : List Line) → EachName names → repeat_from seen i names ≡ None
    → Gives (attributes_form seen (length names) (record { number = k; lines = names ++ rest })) (seen ++ names) rest
attributes-back seen [] i k rest named new = (k, rw (append-nil seen) refl)
attributes-back seen (name ∷ names) i k rest named new = elim (cases_Bool (list_any (bytes_eq name) seen)) [
  | inl is ↦ let found : Some i ≡ None = rw is at new in cc found
  | inr isnt ↦
      let later : repeat_from (seen ++ name ∷ []) (i + 1) names ≡ None = rw isnt at new in
      let left = attributes-back (seen ++ name ∷ []) names (i + 1) (k + 1) rest named.1 later in
      (left.0, rw (named.0.faultless, isnt) (left.1 ∙ rw (append_assoc seen (name ∷ []) names) refl))
]

EachLine-names : (names : List Text) → EachName names → EachLine names
EachLine-names [] h = tt
EachLine-names (name ∷ names) h = (IsLine-name name h.0, EachLine-names names h.1)

-- ---- rows

EachLine-rows : (rows : List Set) → EachLine (map marks_of rows)
EachLine-rows [] = tt
EachLine-rows (row ∷ rows) = (IsLine-marks_of row, EachLine-rows rows)

rows-back : (width : ℕ) (seen rows : List Set) (k : ℕ) → EachWide (suc width) rows
    → Gives (rows_form (suc width) seen (length rows) (record { number = k; lines = map marks_of rows })) (seen ++ rows) []
rows-back width seen [] k wide = (k, rw (append-nil seen) refl)
rows-back width seen ([] ∷ rows) k wide = cc wide.0
rows-back width seen ((mark ∷ row) ∷ rows) k wide =
    let left = rows-back width (seen ++ (mark ∷ row) ∷ []) rows (k + 1) wide.1 in
    let P : ℕ → Type 0 = λ n. row_in_marks n (marks_of (mark ∷ row)) ≡ Some (mark ∷ row) in
    let read : row_in_marks (suc width) (marks_of (mark ∷ row)) ≡ Some (mark ∷ row) = subst P wide.0 (row_in_marks-marks_of (mark ∷ row)) in
    (left.0, rw (is_blank_line-marks_of mark row, read) (left.1 ∙ rw (append_assoc seen ((mark ∷ row) ∷ []) rows) refl))

-- no line is read for a row with no place
no-rows-back : (seen rows : List Set) (left : RemainingLines) → EachWide zero rows → rows_form zero seen (length rows) left ≡ Ok (seen ++ rows, left)
no-rows-back seen [] left wide = rw (append-nil seen) refl
no-rows-back seen ([] ∷ rows) left wide = no-rows-back (seen ++ [] ∷ []) rows left wide.1 ∙ rw (append_assoc seen ([] ∷ []) rows) refl
no-rows-back seen ((mark ∷ row) ∷ rows) left wide = cc wide.0

no-rows-end : (rows : List Set) (k : ℕ) → EachWide zero rows
    → (m : ℕ) × (after_blanks_of k (map marks_of rows) ≡ record { number = m; lines = [] })
no-rows-end [] k wide = (k, refl)
no-rows-end ([] ∷ rows) k wide = no-rows-end rows (k + 1) wide.1
no-rows-end ((mark ∷ row) ∷ rows) k wide = cc wide.0

-- the rows, and the end of the file
rows-and-end : (width : ℕ) (rows : List Set) (k : ℕ) → EachWide width rows
    → (left : RemainingLines) × (rows_form width [] (length rows) (record { number = k; lines = map marks_of rows }) ≡ Ok (rows, left))
    × (end_form left ≡ Ok tt)
rows-and-end zero rows k wide =
    let done = no-rows-end rows k wide in (
      record { number = k; lines = map marks_of rows },
      no-rows-back [] rows (record { number = k; lines = map marks_of rows }) wide,
      rw done.1 refl,
    )
rows-and-end (suc width) rows k wide =
    let left = rows-back width [] rows k wide in
    (record { number = left.0; lines = [] }, left.1, refl)

-- ---- the lines before the names

title-back : (title : Option Text) → ForSome title IsName → title_form 2 (title_line title) ≡ Ok title
unfolding name_fault
title-back None named = refl
title-back (Some title) named = rw (named title refl).faultless refl

head-back : (t : NamedContext) (rest : List Line) → ForSome t.title IsName → length t.objects ≤ MAX_OBJECTS
    → length t.attributes ≤ MAX_ATTRIBUTES
    → head_form (record { number = 1; lines = head_lines t ++ rest })
    ≡ Ok (record { title = t.title; objects = length t.objects; attributes = length t.attributes }, record { number = 6; lines = rest })
head-back t rest named objects attributes =
    let few : length t.objects < 2 ^ 64 = omega arith in
    let narrow : length t.attributes < 2 ^ 64 = omega arith in
    rw (
      title-back t.title named,
      count_form-decimal MAX_OBJECTS 3 (length t.objects) objects few,
      count_form-decimal MAX_ATTRIBUTES 4 (length t.attributes) attributes narrow,
    ) refl

-- ---- the whole

-- what is known of the names of a table
pub record IsNamed (t : NamedContext) : Type 0 where
  pub title : ForSome t.title IsName
  pub objects : EachName t.objects
  pub attributes : EachName t.attributes

body-back : (t : NamedContext) → IsTable t → IsNamed t
    → body_form (record { title = t.title; objects = length t.objects; attributes = length t.attributes })
    (record { number = 6; lines = t.objects ++ (t.attributes ++ map marks_of t.context.rows) }) ≡ Ok t
body-back t table named =
    let P : ℕ → Type 0 = λ width. EachWide width t.context.rows in
    let wide : EachWide (length t.attributes) t.context.rows =
    subst P (sym table.each_attribute) (EachWide-from_All t.context.width t.context.rows table.even) in
    let objects = objects-back [] t.objects 6 (t.attributes ++ map marks_of t.context.rows) named.objects in
    let attributes = attributes-back [] t.attributes 0 objects.0 (map marks_of t.context.rows) named.attributes table.differing in
    let rows = rows-and-end (length t.attributes) t.context.rows attributes.0 wide in
    let of_width : ℕ → Result NamedContext CxtFault =
    λ width. Ok (record {
      title = t.title;
      objects = t.objects;
      attributes = t.attributes;
      context = record { width = width; rows = t.context.rows };
    }) in
    rw (objects.1, attributes.1, table.each_object, rows.1, rows.2) (ap of_width table.each_attribute)

table-back : (t : NamedContext) → IsTable t → IsNamed t → table_form (cxt_lines t) ≡ Ok t
table-back t table named =
    let P : ℕ → Type 0 = λ n. n ≤ MAX_ATTRIBUTES in
    rw (
      head-back t (t.objects ++ t.attributes ++ map marks_of t.context.rows) named.title table.few_objects
          (subst P (sym table.each_attribute) table.few_attributes),
      append_assoc t.objects t.attributes (map marks_of t.context.rows),
    )
    (body-back t table named)

IsLine-title : (title : Option Text) → ForSome title IsName → IsLine (title_line title)
IsLine-title None named = IsLine-nil
IsLine-title (Some title) named = IsLine-name title (named title refl)

EachLine-cxt_lines : (t : NamedContext) → IsTable t → IsNamed t → EachLine (cxt_lines t)
EachLine-cxt_lines t table named =
    let few : length t.objects ≤ MAX_OBJECTS = table.few_objects in
    let same : length t.attributes ≡ t.context.width = table.each_attribute in
    let narrow : t.context.width ≤ MAX_ATTRIBUTES = table.few_attributes in
    let head : EachLine (head_lines t) = (
      IsLine-more 66 [] refl (omega arith) IsLine-nil,
      (IsLine-title t.title named.title, (IsLine-decimal (length t.objects), (IsLine-decimal (length t.attributes), (IsLine-nil, tt)))),
    ) in
    EachLine-append (head_lines t ++ t.objects ++ t.attributes) (map marks_of t.context.rows)
    (EachLine-append (head_lines t ++ t.objects) t.attributes
    (EachLine-append (head_lines t) t.objects head (EachLine-names t.objects named.objects))
    (EachLine-names t.attributes named.attributes))
    (EachLine-rows t.context.rows)

without_bom-B : (s : List ℕ) → without_bom (66 ∷ 10 ∷ s) ≡ 66 ∷ 10 ∷ s
without_bom-B [] = refl
without_bom-B (b ∷ s) = refl

-- reading what was written gives the table
pub cxt_form-cxt_text : (t : NamedContext) → IsTable t → IsNamed t → cxt_form (cxt_text t) ≡ Ok t
unfolding cxt_form
cxt_form-cxt_text t table named =
    let each = EachLine-cxt_lines t table named in
    let whole : utf8_valid_len (cxt_text t) == length (cxt_text t) ≡ true =
    eq-eqb _ _ (utf8_valid_len-IsUtf8 (cxt_text t) (IsUtf8-text_of (cxt_lines t) each)) in
    let unmarked : without_bom (cxt_text t) ≡ cxt_text t = without_bom-B _ in
    let read : lines (without_bom (cxt_text t)) ≡ cxt_lines t = ap lines unmarked ∙ lines-text_of (cxt_lines t) each in
    rw whole (ap table_form read ∙ table-back t table named)
