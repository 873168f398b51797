-- Texts that are written line by line. What is still to be written shrinks from the front, by one line each time.
use Rattle.std.proofs.Common.{◌≡◌, ◌∙◌, ◌≤◌, ◌+◌, ◌++◌, ◌∷◌, [], ℕ, List, Some, length, drop, slice_get, refl, sym, ap, subst}
use Rattle.std.proofs.Common.{append_assoc}
use Rattle.std.proofs.lemmas.List.{append-nil, drop_all}
use Rattle.fca_model.specs.Names.{IsName}
use Rattle.fca_model.specs.Tables.{Text}
use Rattle.text_pieces.specs.Lines.{Line, text_of}
use Rattle.text_pieces.specs.Lists.{EachName}
use Rattle.text_pieces.proofs.ItemLemmas.{drop-item}

-- a line after the text
pub append-line : (text : List ℕ) (line : Line) (rest : List ℕ) → text ++ line ++ 10 ∷ [] ++ rest ≡ text ++ (line ++ 10 ∷ rest)
append-line text line rest = append_assoc (text ++ line) (10 ∷ []) rest ∙ append_assoc text line (10 ∷ rest)

-- one line was written, and is not left any more
pub written-line : (text more line rest all : List ℕ) → more ≡ text ++ line ++ 10 ∷ [] → text ++ (line ++ 10 ∷ rest) ≡ all
    → more ++ rest ≡ all
written-line text more line rest all is so_far = rw is (append-line text line rest ∙ so_far)

pub text_of-append : (xs ys : List Line) → text_of (xs ++ ys) ≡ text_of xs ++ text_of ys
text_of-append [] ys = refl
text_of-append (x ∷ xs) ys = ap (λ rest. x ++ 10 ∷ rest) (text_of-append xs ys) ∙ sym (append_assoc x (10 ∷ text_of xs) (text_of ys))

abbrev NamesAt : List Text → List ℕ → List ℕ → List Text → Type 0
NamesAt names text all left = (text ++ text_of left ≡ all) × (EachName left → EachName names)

-- what holds while names are written: those from place i on are left, and those before it are names
abbrev pub NamesWritten : List Text → ℕ → List ℕ → List ℕ → Type 0
NamesWritten names i text all = (text ++ text_of (drop i names) ≡ all) × (EachName (drop i names) → EachName names)

pub NamesWritten-more : (names : List Text) (i : ℕ) (name line : Text) (text more all : List ℕ) → Some name ≡ slice_get names i
    → line ≡ name → IsName name
    → more ≡ text ++ line ++ 10 ∷ [] → NamesWritten names i text all → NamesWritten names (i + 1) more all
NamesWritten-more names i name line text more all at same named is so_far =
    let left = drop-item names i name (sym at) in
    let P : Text → Type 0 = λ x. more ≡ text ++ x ++ 10 ∷ [] in
    let Q : List Text → Type 0 = λ xs. NamesAt names text all xs in
    let now : NamesAt names text all (name ∷ drop (i + 1) names) = subst Q left so_far in (
      written-line text more name (text_of (drop (i + 1) names)) all (subst P same is) now.0,
      λ rest. now.1 (named, rest),
    )

pub NamesWritten-all : (names : List Text) (i : ℕ) (text all : List ℕ) → length names ≤ i → NamesWritten names i text all
    → (text ≡ all) × EachName names
NamesWritten-all names i text all done so_far =
    let Q : List Text → Type 0 = λ xs. NamesAt names text all xs in
    let now : NamesAt names text all [] = subst Q (drop_all i names done) so_far in
    (sym (append-nil text) ∙ now.0, now.1 tt)

-- the lines before the names, written one after the other
pub written-head : (t0 t1 t2 t3 t4 t5 : List ℕ) (a b c d e : Line)
    → t1 ≡ t0 ++ a ++ 10 ∷ [] → t2 ≡ t1 ++ b ++ 10 ∷ [] → t3 ≡ t2 ++ c ++ 10 ∷ [] → t4 ≡ t3 ++ d ++ 10 ∷ [] → t5 ≡ t4 ++ e ++ 10 ∷ []
    → t5 ≡ t0 ++ text_of (a ∷ b ∷ c ∷ d ∷ e ∷ [])
written-head t0 t1 t2 t3 t4 t5 a b c d e e1 e2 e3 e4 e5 =
    let all = t0 ++ text_of (a ∷ b ∷ c ∷ d ∷ e ∷ []) in
    let s1 = written-line t0 t1 a (text_of (b ∷ c ∷ d ∷ e ∷ [])) all e1 refl in
    let s2 = written-line t1 t2 b (text_of (c ∷ d ∷ e ∷ [])) all e2 s1 in
    let s3 = written-line t2 t3 c (text_of (d ∷ e ∷ [])) all e3 s2 in
    let s4 = written-line t3 t4 d (text_of (e ∷ [])) all e4 s3 in
    sym (append-nil t5) ∙ written-line t4 t5 e [] all e5 s4

-- four lists of lines, written one after the other
pub written-lists : (t1 t2 t3 t4 : List ℕ) (a b c d : List Line) → t1 ≡ text_of a → t2 ≡ t1 ++ text_of b → t3 ≡ t2 ++ text_of c
    → t4 ≡ t3 ++ text_of d
    → t4 ≡ text_of (a ++ b ++ c ++ d)
written-lists t1 t2 t3 t4 a b c d e1 e2 e3 e4 =
    let two = e2 ∙ ap (λ t. t ++ text_of b) e1 ∙ sym (text_of-append a b) in
    let three = e3 ∙ ap (λ t. t ++ text_of c) two ∙ sym (text_of-append (a ++ b) c) in
    e4 ∙ ap (λ t. t ++ text_of d) three ∙ sym (text_of-append (a ++ b ++ c) d)
