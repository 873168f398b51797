-- Names that are written one by one. `bridged` is the rest of a list: nothing stands before the first name, and a comma and a space
-- before each later one.
use Rattle.std.proofs.Common.{◌≡◌, ℕ, suc, ◌<◌, ◌≤◌, true, false, List, [], ◌∷◌, ◌++◌, length, drop, get_or, refl, sym, ap, ◌∙◌}
use Rattle.std.proofs.Common.{append_assoc, arith, min, cond, inl, inr, Some}
use Rattle.std.proofs.Math.Nat.{le-min}
use Rattle.std.proofs.lemmas.Bool.{cases_lt}
use Rattle.std.proofs.lemmas.Option.{get_or_from_slice_get}
use Rattle.std.proofs.Math.Seq.{drop-cons}
use Rattle.std.proofs.Math.ListN.{drop_of_length-le}
use Rattle.std.specs.Prelude.{codes, slice_get}
use Rattle.fca_model.specs.Sets.{Set}
use Rattle.fca_model.specs.Tables.{Text}
use Rattle.text_pieces.specs.Marks.{marks_of}
use Rattle.expert_wire.specs.Texts.{names_of, comma_tail, comma_list, pattern, ordinal, line_end, braces_text, full_text}
use Rattle.expert_wire.specs.Replies.{numbered_rule}
use Rattle.fca_model.specs.Implications.{Rule}
use Rattle.attr_bits.specs.Difference.{minus}

abbrev pub bridged : Text → List Text → Text
bridged between [] = []
bridged between (x ∷ xs) = between ++ (x ++ comma_tail xs)

pub bridged-first : (xs : List Text) → bridged [] xs ≡ comma_list xs
bridged-first [] = refl
bridged-first (x ∷ xs) = refl

pub bridged-next : (xs : List Text) → bridged (codes ", ") xs ≡ comma_tail xs
bridged-next [] = refl
bridged-next (x ∷ xs) = refl

names_of-no_member : (names : List Text) → names_of names [] ≡ []
names_of-no_member [] = refl
names_of-no_member (name ∷ names) = refl

-- the names of the members from place i on
abbrev pub names_from : ℕ → List Text → Set → List Text
names_from i names A = names_of (drop i names) (drop i A)

-- one place further
names_of-drop : (i : ℕ) (names : List Text) (A : Set) → i < length names → i < length A
    → names_from i names A ≡ names_of (get_or names i [] ∷ drop (suc i) names) (get_or A i false ∷ drop (suc i) A)
names_of-drop i names A h k = ap (λ xs. names_of xs (drop i A)) (drop-cons names i [] h)
    ∙ ap (names_of (get_or names i [] ∷ drop (suc i) names)) (drop-cons A i false k)

pub names_from-member : (i : ℕ) (names : List Text) (A : Set) → i < length names → i < length A → get_or A i false ≡ true
    → names_from i names A ≡ get_or names i [] ∷ names_from (suc i) names A
names_from-member i names A h k e = names_of-drop i names A h k
    ∙ ap (λ a. cond a (get_or names i [] ∷ names_from (suc i) names A) (names_from (suc i) names A)) e

pub names_from-none : (i : ℕ) (names : List Text) (A : Set) → i < length names → i < length A → get_or A i false ≡ false
    → names_from i names A ≡ names_from (suc i) names A
names_from-none i names A h k e = names_of-drop i names A h k
    ∙ ap (λ a. cond a (get_or names i [] ∷ names_from (suc i) names A) (names_from (suc i) names A)) e

-- after the last name, or the last place of the set, there is none
pub names_from-end : (i : ℕ) (names : List Text) (A : Set) → min (length A) (length names) ≤ i → names_from i names A ≡ []
names_from-end i names A h = elim (cases_lt i (length names)) [
  | inl lt ↦ ap (names_of (drop i names)) (drop_of_length-le A (few lt)) ∙ names_of-no_member (drop i names)
  | inr le ↦ ap (λ xs. names_of xs (drop i A)) (drop_of_length-le names le)
]
  where
    few : i < length names → length A ≤ i
    few lt = elim (cases_lt i (length A)) [
      | inl short ↦ absurd (let both : suc i ≤ min (length A) (length names) = le-min (omega arith) (omega arith) in omega arith)
      | inr le ↦ le
    ]

-- the rest of the list if the next place is a member
pub bridged-member : (between : Text) (i : ℕ) (names : List Text) (A : Set) (name tail : Text) → i < length names → i < length A
    → get_or A i false ≡ true → Some name ≡ slice_get names i
    → bridged between (names_from i names A) ++ tail ≡ (between ++ name) ++ (bridged (codes ", ") (names_from (suc i) names A) ++ tail)
bridged-member between i names A name tail h k e named =
    ap (λ xs. bridged between xs ++ tail) (names_from-member i names A h k e)
    ∙ ap (λ x. (between ++ (x ++ comma_tail (names_from (suc i) names A))) ++ tail) (get_or_from_slice_get names i name [] (sym named))
    ∙ ap (λ x. (between ++ (name ++ x)) ++ tail) (sym (bridged-next (names_from (suc i) names A)))
    ∙ simp append_assoc

-- ---- patterns

pub pattern-some : (A : Set) → 0 < length A → pattern A ≡ marks_of A
pattern-some [] h = absurd (omega arith)
pattern-some (a ∷ A) h = refl

-- ---- lines of implications

-- the parts of a full text, in a line
pub full_text_parts : (attributes : List Text) (words : Text) (i : Rule) (gained : Set) → gained ≡ minus i.conclusion i.premise
    → words ++ (pattern i.premise
    ++ (codes " " ++ (pattern i.conclusion
    ++ (codes " " ++ (braces_text attributes i.premise ++ (codes " -> " ++ (braces_text attributes gained ++ line_end)))))))
    ≡ (words ++ full_text attributes i) ++ line_end
full_text_parts attributes words i gained e =
    ap (λ A. words ++ (pattern i.premise
    ++ (codes " " ++ (pattern i.conclusion
    ++ (codes " " ++ (braces_text attributes i.premise ++ (codes " -> " ++ (braces_text attributes A ++ line_end)))))))) e
    ∙ regroup words (pattern i.premise) (codes " ") (pattern i.conclusion) (codes " ") (braces_text attributes i.premise) (codes " -> ")
    (braces_text attributes (minus i.conclusion i.premise)) line_end
  where
    regroup : (a b c d e f g h k : Text) → a ++ (b ++ (c ++ (d ++ (e ++ (f ++ (g ++ (h ++ k)))))))
        ≡ (a ++ (b ++ (c ++ (d ++ (e ++ (f ++ (g ++ h))))))) ++ k
    regroup a b c d e f g h k = simp append_assoc

-- the number of a rule and then its full text, in a line
pub rule_parts : (attributes : List Text) (words : Text) (place : ℕ) (i : Rule)
    → (words ++ (ordinal place ++ codes " ")) ++ (full_text attributes i ++ line_end)
    ≡ (words ++ numbered_rule attributes place i) ++ line_end
rule_parts attributes words place i = regroup words (ordinal place) (codes " ") (full_text attributes i) line_end
  where
    regroup : (a b c d e : Text) → (a ++ (b ++ c)) ++ (d ++ e) ≡ (a ++ (b ++ (c ++ d))) ++ e
    regroup a b c d e = simp append_assoc
