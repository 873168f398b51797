-- Cutting a text by lengths: more pieces at its end (`cut_append`), and one piece of it (`cut_at`). Then the rows of a table: one more
-- (`objects_push`), and what stands in one (`objects_name`, `objects_value`).
use Rattle.std.proofs.Common.{◌≡◌, ◌∙◌, ◌<◌, ◌≤◌, ◌+◌, ◌*◌, ◌-◌, ◌++◌, ◌∷◌, [], ℕ, zero, suc, List, length, take, drop, get_or, sum, Ok}
use Rattle.std.proofs.Common.{inl, inr, refl, sym, ap, ap₂, subst, arith, get_or-take, get_or-drop, drop-drop, take_all, take-add}
use Rattle.std.proofs.Common.{length-drop}
use Rattle.std.proofs.lemmas.Bool.{cases_lt}
use Rattle.std.proofs.Math.Seq.{get_or-append_seam}
use Rattle.std.proofs.lemmas.List.{get_or_append_left, length-take-le, length_push, nil_from_length, take-append-le, drop-append-le}
use Rattle.std.proofs.lemmas.List.Sums.{sum_by-cons, sum_by-append, sum_by_more, sum_by-take-le}
use Rattle.fca_model.specs.Tables.{Text}
use Rattle.value_tables.specs.Values.{ObjectValues, no_object}
use Rattle.value_tables.specs.Cells.{StartsRight, cut, objects_of}
use Rattle.csv_context.specs.Records.{Record}
use Rattle.value_tables.specs.Form.{object_form, object_of, objects_form}

-- ---- pieces of a text

pub cut_length : (lengths : List ℕ) (text : Text) → length (cut lengths text) ≡ length lengths
cut_length [] text = refl
cut_length (n ∷ lengths) text = ap suc (cut_length lengths (drop n text))

sum_cons : (n : ℕ) (ns : List ℕ) → sum (n ∷ ns) ≡ n + sum ns
sum_cons n ns = sum_by-cons (λ x. x) n ns

pub cut_append : (lengths more : List ℕ) (text behind : Text) → sum lengths ≡ length text
    → cut (lengths ++ more) (text ++ behind) ≡ cut lengths text ++ cut more behind
cut_append [] more text behind whole =
    let none : text ≡ [] = nil_from_length text (sym whole) in
    rw none refl
cut_append (n ∷ lengths) more text behind whole =
    let all : n + sum lengths ≡ length text = sym (sum_cons n lengths) ∙ whole in
    let within : n ≤ length text = omega arith in
    let rest : sum lengths ≡ length (drop n text) = omega (arith, length-drop n text) in
    rw (take-append-le n text behind within, drop-append-le n text behind within)
    (ap (λ (ts : List Text). take n text ∷ ts) (cut_append lengths more (drop n text) behind rest))

pub cut_push : (lengths : List ℕ) (text value : Text) → sum lengths ≡ length text
    → cut (lengths ++ length value ∷ []) (text ++ value) ≡ cut lengths text ++ value ∷ []
cut_push lengths text value whole =
    cut_append lengths (length value ∷ []) text value whole
    ∙ ap (λ (v : Text). cut lengths text ++ v ∷ []) (take_all (length value) value (omega arith))

pub cut_at : (lengths : List ℕ) (text : Text) (k : ℕ) → k < length lengths
    → get_or (cut lengths text) k [] ≡ take (get_or lengths k 0) (drop (sum (take k lengths)) text)
cut_at [] text k below = absurd (omega arith)
cut_at (n ∷ lengths) text zero below = refl
cut_at (n ∷ lengths) text (suc k) below =
    let less : k < length lengths = omega arith in
    rw (sum_cons n (take k lengths)) (cut_at lengths (drop n text) k less
    ∙ ap (take (get_or lengths k 0)) (drop-drop (sum (take k lengths)) n text))

-- the first piece is as long as it is to be
pub cut_first : (lengths : List ℕ) (text : Text) → 0 < length lengths → sum lengths ≡ length text
    → length (get_or (cut lengths text) 0 []) ≡ get_or lengths 0 0
cut_first [] text some whole = absurd (omega arith)
cut_first (n ∷ lengths) text some whole =
    let all : n + sum lengths ≡ length text = sym (sum_cons n lengths) ∙ whole in
    length-take-le n text (omega arith)

-- a piece ends within the text
pub piece_within : (lengths : List ℕ) (k : ℕ) → k < length lengths → sum (take k lengths) + get_or lengths k 0 ≤ sum lengths
piece_within lengths k below =
    let more = sum_by_more (λ x. x) lengths k 0 below in
    let within = sum_by-take-le (λ x. x) lengths (k + 1) in
    omega (arith, more, within)

-- a start, and what lies between it and a piece behind it
pub sum_from : (lengths : List ℕ) (j k : ℕ) → j ≤ k → sum (take j lengths) + sum (take (k - j) (drop j lengths)) ≡ sum (take k lengths)
sum_from lengths j k before =
    let all : j + (k - j) ≡ k = omega arith in
    sym (sum_by-append (λ x. x) (take j lengths) (take (k - j) (drop j lengths)))
    ∙ ap sum (sym (take-add j (k - j) lengths))
    ∙ ap (λ (n : ℕ). sum (take n lengths)) all

-- ---- starts

-- the starts stay right if more pieces follow
pub StartsRight-more : (starts lengths more : List ℕ) → 16 * length starts < length lengths + 16 → StartsRight starts lengths
    → StartsRight starts (lengths ++ more)
StartsRight-more starts lengths more needed right b below = right b below
    ∙ ap sum (sym (take-append-le (16 * b) lengths more (omega arith)))

-- one start more
pub StartsRight-push : (starts lengths : List ℕ) (start : ℕ) → start ≡ sum (take (16 * length starts) lengths) → StartsRight starts lengths
    → StartsRight (starts ++ start ∷ []) lengths
StartsRight-push starts lengths start is right b below = elim (cases_lt b (length starts)) [
  | inl less ↦ get_or_append_left starts (start ∷ []) 0 b less ∙ right b less
  | inr last ↦
      let size = length_push starts start in
      let same : b ≡ length starts = omega (arith, size) in
      rw same (get_or-append_seam starts start [] 0 ∙ is)
]

-- the start behind the last block
pub start_next : (starts lengths : List ℕ) → 0 < length starts → StartsRight starts lengths
    → get_or starts (length starts - 1) 0 + sum (take (16 * length starts - 16 * (length starts - 1))
    (drop (16 * (length starts - 1)) lengths)) ≡ sum (take (16 * length starts) lengths)
start_next starts lengths some right =
    let n = length starts in
    ap (λ (s : ℕ). s + sum (take (16 * n - 16 * (n - 1)) (drop (16 * (n - 1)) lengths))) (right (n - 1) (omega arith))
    ∙ sum_from lengths (16 * (n - 1)) (16 * n) (omega arith)

-- ---- rows of a table

pub objects_length : (width : ℕ) (names values : List Text) → length (objects_of width names values) ≡ length names
objects_length width [] values = refl
objects_length width (name ∷ names) values = ap suc (objects_length width names (drop width values))

pub objects_push : (width : ℕ) (names values row : List Text) (name : Text) → length values ≡ length names * width → length row ≡ width
    → objects_of width (names ++ name ∷ []) (values ++ row) ≡ objects_of width names values ++ record { name = name; values = row } ∷ []
objects_push width [] values row name even wide =
    let empty : length values ≡ 0 = omega arith in
    let none : values ≡ [] = nil_from_length values empty in
    rw none (ap (λ (vs : List Text). record { name = name; values = vs } ∷ []) (take_all width row (omega arith)))
objects_push width (first ∷ names) values row name even wide =
    let within : width ≤ length values = omega arith in
    let rest : length (drop width values) ≡ length names * width = omega (arith, length-drop width values) in
    rw (take-append-le width values row within, drop-append-le width values row within)
    (ap (λ (os : List ObjectValues). record { name = first; values = take width values } ∷ os)
    (objects_push width names (drop width values) row name rest wide))

pub objects_name : (width : ℕ) (names values : List Text) (g : ℕ) → g < length names
    → (get_or (objects_of width names values) g no_object).name ≡ get_or names g []
objects_name width [] values g below = absurd (omega arith)
objects_name width (name ∷ names) values zero below = refl
objects_name width (name ∷ names) values (suc g) below = let less : g < length names = omega arith in
    objects_name width names (drop width values) g less

pub objects_value : (width : ℕ) (names values : List Text) (g m : ℕ) → g < length names → m < width
    → get_or (get_or (objects_of width names values) g no_object).values m [] ≡ get_or values (g * width + m) []
objects_value width [] values g m below within = absurd (omega arith)
objects_value width (name ∷ names) values zero m below within =
    let same : zero * width + m ≡ m = omega arith in
    rw same (get_or-take width values m [] within)
objects_value width (name ∷ names) values (suc g) m below within =
    let less : g < length names = omega arith in
    let same : width + (g * width + m) ≡ suc g * width + m = omega arith in
    objects_value width names (drop width values) g m less within ∙ get_or-drop width values (g * width + m) []
    ∙ ap (λ (k : ℕ). get_or values k []) same

pub objects_more : (width : ℕ) (names values : List Text) (fields : Record) (records : List Record) (name : Text)
    → object_form width (length names + 2) fields ≡ Ok (object_of fields) → name ≡ get_or fields 0 [] → length fields ≡ width + 1
    → length values ≡ length names * width
    → objects_form width (length names + 2) (objects_of width names values) (fields ∷ records)
    ≡ objects_form width (length (names ++ name ∷ []) + 2) (objects_of width (names ++ name ∷ []) (values ++ drop 1 fields)) records
objects_more width names values fields records name form is whole even =
    let wide : length (drop 1 fields) ≡ width = omega (arith, length-drop 1 fields) in
    let next : length names + 2 + 1 ≡ length (names ++ name ∷ []) + 2 = omega (arith, length_push names name) in
    let with_name : Text → List ObjectValues = λ n. objects_of width names values ++ record { name = n; values = drop 1 fields } ∷ [] in
    rw form (ap₂ (λ (i : ℕ) (os : List ObjectValues). objects_form width i os records) next
    (ap with_name (sym is) ∙ sym (objects_push width names values (drop 1 fields) name even wide)))

pub even_more : (n m w a b : ℕ) → m ≡ n + 1 → a ≡ n * w → b ≡ w → a + b ≡ m * w
even_more n m w a b next a_is b_is = rw (next, a_is, b_is) (omega arith)

-- the place of an object's value among all
place_sum : (g d m w : ℕ) → m < w → g * w + m < (g + 1 + d) * w
place_sum g d m w below = omega arith

pub place_within : (g n m w : ℕ) → g < n → m < w → g * w + m < n * w
place_within g n m w first below =
    let all : g + 1 + (n - (g + 1)) ≡ n = omega arith in
    let P : ℕ → Type 0 = λ k. g * w + m < k * w in
    subst P all (place_sum g (n - (g + 1)) m w below)
