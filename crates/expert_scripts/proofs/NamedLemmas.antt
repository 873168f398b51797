-- Names of experts in ascending order of their numbers. A new name takes its place, and one whose number is above all others is last. The
-- lines of all experts are those of the names in order.
use Rattle.std.proofs.Common.{◌≡◌, ◌<◌, ◌≤◌, ℕ, zero, suc, ◌+◌, cond, List, [], ◌∷◌, ◌++◌, Some, None, refl, ap, ap₂, sym, ◌∙◌, subst}
use Rattle.std.proofs.Common.{arith, inl, inr, ◌-◌, Ordering, Less, Equal, Greater}
use Rattle.std.specs.Prelude.{⊤}
use Rattle.std.specs.Ordering.{nat_cmp, is_eq, match_ordering, MatchOrdering}
use Rattle.std.specs.Cmp.{nat_cmp_is}
use Rattle.std.proofs.lemmas.Cmp.{ranked}
use Rattle.std.proofs.lemmas.Bool.{cases_lt}
use Rattle.std.specs.BTreeMap.{insert_entry}
use Rattle.std.specs.List.{flat_map}
use Rattle.fca_model.specs.Names.{IsName}
use Rattle.fca_model.specs.Exploration.{RowName}
use Rattle.fca_model.specs.declared.TheConstants.{MAX_EXPERTS}
use Rattle.fca_model.specs.Tables.{Text}
use Rattle.exploration_terms.specs.Settings.{name_of}
use Rattle.expert_scripts.specs.Transcripts.{AreExpertNames, name_line, name_line_at, name_lines_from, names_text}

-- ---- one name more

placed : (low e : ℕ) (name : RowName) (x : ℕ × RowName) (xs later : List (ℕ × RowName)) → low < e → e ≤ MAX_EXPERTS → IsName name
    → AreExpertNames low (x ∷ xs)
    → (x.0 < e → AreExpertNames x.0 later) → (o : Ordering) → MatchOrdering o (e < x.0) (e ≡ x.0) (x.0 < e)
    → AreExpertNames low (match_ordering o ((e, name) ∷ x ∷ xs) ((x.0, name) ∷ xs) (x ∷ later))
placed low e name x xs later l m h a f Less lt = (l, m, h, (lt, a.1, a.2, a.3))
placed low e name x xs later l m h a f Equal eq = (a.0, a.1, h, a.3)
placed low e name x xs later l m h a f Greater gt = (a.0, a.1, a.2, f gt)

pub named-insert : (low e : ℕ) (name : RowName) (xs : List (ℕ × RowName)) → low < e → e ≤ MAX_EXPERTS → IsName name → AreExpertNames low xs
    → AreExpertNames low (insert_entry nat_cmp xs e name)
named-insert low e name [] l m h a = (l, m, h, tt)
named-insert low e name (x ∷ xs) l m h a =
    placed low e name x xs (insert_entry nat_cmp xs e name) l m h a (λ gt. named-insert x.0 e name xs gt m h a.3) (nat_cmp e x.0)
    (ranked e x.0 (nat_cmp e x.0) refl)

-- ---- names that stand below a number

abbrev pub AreBelow : ℕ → List (ℕ × RowName) → Type 0
AreBelow e [] = ⊤
AreBelow e (x ∷ xs) = (x.0 < e) × AreBelow e xs

pub below-more : (a b : ℕ) (xs : List (ℕ × RowName)) → a ≤ b → AreBelow a xs → AreBelow b xs
below-more a b [] l h = tt
below-more a b (x ∷ xs) l h = (let first = h.0 in omega arith, below-more a b xs l h.1)

pub unnamed : (e : ℕ) (xs : List (ℕ × RowName)) → AreBelow e xs → name_of e xs ≡ None
unnamed e [] h = refl
unnamed e (x ∷ xs) h = ap (λ o. cond (is_eq o) (Some x.1) (name_of e xs)) (sym (nat_cmp_is e x.0 Greater h.0)) ∙ unnamed e xs h.1

pub insert-last : (e : ℕ) (name : RowName) (xs : List (ℕ × RowName)) → AreBelow e xs → insert_entry nat_cmp xs e name ≡ xs ++ (e, name) ∷ []
insert-last e name [] h = refl
insert-last e name (x ∷ xs) h =
    ap (λ o. match_ordering o ((e, name) ∷ x ∷ xs) ((x.0, name) ∷ xs) (x ∷ insert_entry nat_cmp xs e name))
    (sym (nat_cmp_is e x.0 Greater h.0))
    ∙ ap (λ l. x ∷ l) (insert-last e name xs h.1)

pub below-push : (a b : ℕ) (name : RowName) (xs : List (ℕ × RowName)) → a < b → AreBelow a xs → AreBelow b (xs ++ (a, name) ∷ [])
below-push a b name [] l h = (l, tt)
below-push a b name (x ∷ xs) l h = (let first = h.0 in omega arith, below-push a b name xs l h.1)

-- ---- the lines of all experts

unnamed-above : (low e : ℕ) (xs : List (ℕ × RowName)) → e ≤ low → AreExpertNames low xs → name_of e xs ≡ None
unnamed-above low e [] l a = refl
unnamed-above low e (x ∷ xs) l a =
    let above : e < x.0 = let first = a.0 in omega arith in
    let later : e ≤ x.0 = omega arith in
    ap (λ o. cond (is_eq o) (Some x.1) (name_of e xs)) (sym (nat_cmp_is e x.0 Less above)) ∙ unnamed-above x.0 e xs later a.3

named-first : (x : ℕ × RowName) (xs : List (ℕ × RowName)) (e : ℕ) → e ≡ x.0 → name_of e (x ∷ xs) ≡ Some x.1
named-first x xs e h = ap (λ o. cond (is_eq o) (Some x.1) (name_of e xs)) (sym (nat_cmp_is e x.0 Equal h))

named-later : (x : ℕ × RowName) (xs : List (ℕ × RowName)) (e : ℕ) → x.0 < e → name_of e (x ∷ xs) ≡ name_of e xs
named-later x xs e h = ap (λ o. cond (is_eq o) (Some x.1) (name_of e xs)) (sym (nat_cmp_is e x.0 Greater h))

lines-later : (x : ℕ × RowName) (xs : List (ℕ × RowName)) (e count : ℕ) → x.0 < e
    → name_lines_from (x ∷ xs) e count ≡ name_lines_from xs e count
lines-later x xs e zero h = refl
lines-later x xs e (suc count) h =
    let next : x.0 < e + 1 = omega arith in
    ap₂ (λ o l. name_line_at e o ++ l) (named-later x xs e h) (lines-later x xs (e + 1) count next)

pub lines-listed : (count low : ℕ) (xs : List (ℕ × RowName)) → low + count ≡ MAX_EXPERTS → AreExpertNames low xs
    → name_lines_from xs (low + 1) count ≡ flat_map name_line xs
lines-listed zero low [] h a = refl
lines-listed zero low (x ∷ xs) h a = absurd (let first = a.0 in let last = a.1 in omega arith)
lines-listed (suc count) low [] h a = lines-listed count (low + 1) [] (omega arith) tt
lines-listed (suc count) low (x ∷ xs) h a = elim (cases_lt (low + 1) x.0) [
  | inl lt ↦
      let none : low + 1 ≤ x.0 = omega arith in
      ap (λ o. name_line_at (low + 1) o ++ name_lines_from (x ∷ xs) (low + 1 + 1) count)
      (ap (λ o. cond (is_eq o) (Some x.1) (name_of (low + 1) xs)) (sym (nat_cmp_is (low + 1) x.0 Less lt))
      ∙ unnamed-above x.0 (low + 1) xs none a.3)
      ∙ lines-listed count (low + 1) (x ∷ xs) (omega arith) (lt, a.1, a.2, a.3)
  | inr le ↦
      let same : low + 1 ≡ x.0 = let first = a.0 in omega arith in
      let above : x.0 < low + 1 + 1 = omega arith in
      ap₂ (λ o l. name_line_at (low + 1) o ++ l) (named-first x xs (low + 1) same)
      (lines-later x xs (low + 1 + 1) count above
      ∙ lines-listed count (low + 1) xs (omega arith) (subst (λ e. AreExpertNames e xs) (sym same) a.3))
      ∙ ap (λ e. name_line (e, x.1) ++ flat_map name_line xs) same
]

pub names_text-listed : (xs : List (ℕ × RowName)) → AreExpertNames 0 xs → names_text xs ≡ flat_map name_line xs
unfolding names_text
names_text-listed xs a = lines-listed MAX_EXPERTS 0 xs refl a

-- ---- one line after the other

-- the lines of the experts from number e on
pub names_left : List (ℕ × RowName) → ℕ → Text
names_left xs e = name_lines_from xs e (MAX_EXPERTS + 1 - e)

pub names_left-start : (xs : List (ℕ × RowName)) → names_left xs 1 ≡ names_text xs
unfolding names_left names_text
names_left-start xs = refl

pub names_left-next : (xs : List (ℕ × RowName)) (e : ℕ) → e ≤ MAX_EXPERTS
    → names_left xs e ≡ name_line_at e (name_of e xs) ++ names_left xs (e + 1)
unfolding names_left
names_left-next xs e h = let one : MAX_EXPERTS + 1 - e ≡ suc (MAX_EXPERTS + 1 - (e + 1)) = omega arith in ap (name_lines_from xs e) one

pub names_left-end : (xs : List (ℕ × RowName)) (e : ℕ) → MAX_EXPERTS < e → names_left xs e ≡ []
unfolding names_left
names_left-end xs e h = let none : MAX_EXPERTS + 1 - e ≡ 0 = omega arith in ap (name_lines_from xs e) none
