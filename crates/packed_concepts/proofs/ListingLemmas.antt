-- Names that each have a comma and a space behind them are a list of names with these behind it.
use Rattle.std.proofs.Common.{
  ◌≡◌,
  ℕ,
  zero,
  suc,
  ◌+◌,
  ◌<◌,
  ◌≤◌,
  ◌-◌,
  Bool,
  true,
  false,
  All,
  Some,
  None,
  Option,
  eqb,
  List,
  [],
  ◌∷◌,
  ◌++◌,
  length,
  map,
  take,
  drop,
  get_or,
  cond,
  ltb,
  inl,
  inr,
  refl,
  sym,
  ap,
  ap₂,
  ◌∙◌,
  arith,
  append_assoc,
  length-append,
}
use Rattle.std.proofs.Math.Nat.{min-le_left}
use Rattle.std.proofs.lemmas.List.{append-nil, take_at, get_or_read, at_drop_more, take-take, length-take-le}
use Rattle.std.proofs.lemmas.Bool.{false≢true, cases_lt, lt-ltb, le-ltb}
use Rattle.std.specs.Prelude.{codes, slice_get, unwrap_or}
use Rattle.std.proofs.lemmas.List.Elements.{All-head, All-tail}
use Rattle.std.specs.List.{concat}
use Rattle.fca_model.specs.Sets.{Set}
use Rattle.fca_model.specs.Tables.{Text}
use Rattle.expert_wire.specs.Texts.{names_of, comma_tail, comma_list}
use Rattle.expert_wire.proofs.ListedLemmas.{names_from, names_from-member, names_from-none, names_from-end}
use Rattle.packed_concepts.specs.Lines.{names_at}
use Rattle.fca_model.specs.Names.{name_fault}
use Rattle.fca_model.specs.declared.TheConstants.{MAX_NAME_BYTES}
use Rattle.fca_model.specs.declared.names.NameFault.{NameFault}
use Rattle.fca_model.specs.declared.names.NameFault.TheVariants.{Empty, Long}
use Rattle.packed_concepts.specs.Listing.{with_comma, without_comma, HaveCommas}

pub names_of-map : (f : Text → Text) (names : List Text) (A : Set) → names_of (map f names) A ≡ map f (names_of names A)
names_of-map f [] A = refl
names_of-map f (x ∷ xs) [] = refl
names_of-map f (x ∷ xs) (true ∷ A) = ap (λ ys. f x ∷ ys) (names_of-map f xs A)
names_of-map f (x ∷ xs) (false ∷ A) = names_of-map f xs A

-- a comma and a space first, or last
comma_tail-with_comma : (xs : List Text) → codes ", " ++ concat (map with_comma xs) ≡ comma_tail xs ++ codes ", "
comma_tail-with_comma [] = refl
comma_tail-with_comma (x ∷ xs) =
    ap (λ z. codes ", " ++ z) (append_assoc x (codes ", ") (concat (map with_comma xs)) ∙ ap (λ z. x ++ z) (comma_tail-with_comma xs))
    ∙ regroup x (comma_tail xs)
  where
    regroup : (a b : Text) → codes ", " ++ (a ++ (b ++ codes ", ")) ≡ (codes ", " ++ (a ++ b)) ++ codes ", "
    regroup a b = simp append_assoc

comma_list-with_comma : (x : Text) (xs : List Text) → concat (map with_comma (x ∷ xs)) ≡ comma_list (x ∷ xs) ++ codes ", "
comma_list-with_comma x xs = append_assoc x (codes ", ") (concat (map with_comma xs)) ∙ ap (λ z. x ++ z) (comma_tail-with_comma xs) ∙ sym (append_assoc x (comma_tail xs) (codes ", "))

-- with the last two taken away
pub trimmed : (old text : Text) (names : List Text) → text ≡ old ++ concat (map with_comma names) → length old < length text
    → take (length text - 2) text ≡ old ++ comma_list names
trimmed old text [] is longer =
    let e : length text ≡ length old = ap length (is ∙ append-nil old) in
    absurd (omega (arith, e))
trimmed old text (x ∷ xs) is longer =
    let whole : text ≡ (old ++ comma_list (x ∷ xs)) ++ codes ", " = is ∙ ap (λ z. old ++ z) (comma_list-with_comma x xs) ∙ sym (append_assoc old (comma_list (x ∷ xs)) (codes ", ")) in
    let n : length text ≡ length (old ++ comma_list (x ∷ xs)) + 2 = ap length whole ∙ length-append (old ++ comma_list (x ∷ xs)) (codes ", ") in
    ap (λ z. take (length text - 2) z) whole ∙ take_at (old ++ comma_list (x ∷ xs)) (codes ", ") (length text - 2) (omega (arith, n))

-- where there is none
pub untrimmed : (old text : Text) (names : List Text) → text ≡ old ++ concat (map with_comma names) → length text ≤ length old
    → text ≡ old ++ comma_list names
untrimmed old text [] is short = is
untrimmed old text (x ∷ xs) is short =
    let n : length text ≡ length old + length (comma_list (x ∷ xs) ++ codes ", ") =
    ap length (is ∙ ap (λ z. old ++ z) (comma_list-with_comma x xs)) ∙ length-append old (comma_list (x ∷ xs) ++ codes ", ") in
    let m : length (comma_list (x ∷ xs) ++ codes ", ") ≡ length (comma_list (x ∷ xs)) + 2 = length-append (comma_list (x ∷ xs)) (codes ", ") in
    absurd (omega (arith, n, m))

-- ---- names that are passed over

skip : {Y : Type 0} (F : ℕ → Y) (d i : ℕ) → ((k : ℕ) → i ≤ k → k < i + d → F k ≡ F (k + 1)) → F i ≡ F (i + d)
skip F zero i h = ap F (omega arith)
skip F (suc d) i h = h i (omega arith) (omega arith) ∙ skip F d (i + 1) (λ k l m. h k (omega arith) (omega arith)) ∙ ap F (omega arith)

-- what each step leaves as it is
pub skipped : {Y : Type 0} (F : ℕ → Y) (i j : ℕ) → i ≤ j → ((k : ℕ) → i ≤ k → k < j → F k ≡ F (k + 1)) → F i ≡ F j
skipped F i j h step = skip F (j - i) i (λ k l m. step k l (omega arith)) ∙ ap F (omega arith)

pub names_skipped : (names : List Text) (A : Set) (i j : ℕ) → i ≤ j → j ≤ length names → j ≤ length A
    → ((k : ℕ) → i ≤ k → k < j → get_or A k false ≡ false) → names_from i names A ≡ names_from j names A
names_skipped names A i j h inside wide none =
    skipped (λ k. names_from k names A) i j h (λ k l m. names_from-none k names A (omega (arith, m, inside)) (omega (arith, m, wide))
    (none k l m) ∙ ap (λ n. names_from n names A) (next k))
  where
    next : (k : ℕ) → suc k ≡ k + 1
    next k = omega arith

-- a member was written
pub members_more : (names : List Text) (A : Set) (from m : ℕ) (piece old new whole : Text) → from ≤ m → m < length A
    → length A ≤ length names → get_or A m false ≡ true
    → ((k : ℕ) → from ≤ k → k < m → get_or A k false ≡ false) → piece ≡ get_or names m piece → new ≡ old ++ piece
    → old ++ concat (names_from from names A) ≡ whole
    → new ++ concat (names_from (m + 1) names A) ≡ whole
members_more names A from m piece old new whole h inside wide has none is made total =
    let left : List Text = names_from (m + 1) names A in
    let named : names_from from names A ≡ piece ∷ left =
    names_skipped names A from m h (omega arith) (omega arith) none ∙ names_from-member m names A (omega arith) inside has
    ∙ ap₂ (λ x n. x ∷ names_from n names A) (sym (get_or_read names m piece (omega arith) is [])) (next m) in
    ap (λ z. z ++ concat left) made ∙ append_assoc old piece (concat left) ∙ ap (λ ns. old ++ concat ns) (sym named) ∙ total
  where
    next : (k : ℕ) → suc k ≡ k + 1
    next k = omega arith

-- no member is left
pub members_all : (names : List Text) (A : Set) (from : ℕ) (old whole : Text) → from ≤ length A → length A ≤ length names
    → ((k : ℕ) → from ≤ k → k < length A → get_or A k false ≡ false) → old ++ concat (names_from from names A) ≡ whole → old ≡ whole
members_all names A from old whole h wide none total =
    let low = min-le_left (length A) (length names) in
    let empty : names_from from names A ≡ [] = names_skipped names A from (length A) h wide (omega arith) none
    ∙ names_from-end (length A) names A low in
    sym (append-nil old) ∙ ap (λ ns. old ++ concat ns) (sym empty) ∙ total

-- ---- names at places

named_at : (xs : List Text) (p : ℕ) (x : Text) → p < length xs → x ≡ get_or xs p x → unwrap_or (slice_get xs p) [] ≡ x
named_at [] p x inside is = absurd (omega arith)
named_at (y ∷ ys) zero x inside is = sym is
named_at (y ∷ ys) (suc p) x inside is = named_at ys p x (omega arith) is

-- the name at the next place was written
pub places_more : (pieces : List Text) (places : List ℕ) (k : ℕ) (piece old new whole : Text) → k < length places
    → get_or places k 0 < length pieces → piece ≡ get_or pieces (get_or places k 0) piece
    → new ≡ old ++ piece → old ++ concat (names_at pieces (drop k places)) ≡ whole
    → new ++ concat (names_at pieces (drop (k + 1) places)) ≡ whole
places_more pieces places k piece old new whole more inside is made total =
    let left : List Text = names_at pieces (drop (k + 1) places) in
    ap (λ z. z ++ concat left) made ∙ append_assoc old piece (concat left)
    ∙ ap (λ x. old ++ (x ++ concat left)) (sym (named_at pieces (get_or places k 0) piece inside is))
    ∙ ap (λ z. old ++ z) (sym (at_drop_more (λ ps. concat (names_at pieces ps)) places k 0 more)) ∙ total

with_comma_at : (names : List Text) (p : ℕ) → p < length names
    → unwrap_or (slice_get (map with_comma names) p) [] ≡ with_comma (unwrap_or (slice_get names p) [])
with_comma_at [] p inside = absurd (omega arith)
with_comma_at (x ∷ xs) zero inside = refl
with_comma_at (x ∷ xs) (suc p) inside = with_comma_at xs p (omega arith)

pub names_at-with_comma : (names : List Text) (places : List ℕ) → All (λ p. p < length names) places
    → names_at (map with_comma names) places ≡ map with_comma (names_at names places)
names_at-with_comma names [] inside = refl
names_at-with_comma names (p ∷ ps) inside =
    ap₂ (λ x xs. x ∷ xs) (with_comma_at names p (All-head (λ q. q < length names) p ps inside))
    (names_at-with_comma names ps (All-tail (λ q. q < length names) p ps inside))

-- ---- where they end

-- the names, without the comma and the space behind the last
pub put_names : (text old : Text) (names : List Text) (start end : ℕ) → take end text ≡ old ++ concat (map with_comma names)
    → length old ≡ start → end ≤ length text
    → take (cond (ltb start end) (end - 2) end) text ≡ old ++ comma_list names
put_names text old names start end made starts inside = elim (cases_lt start end) [
  | inl more ↦
      let long : length (take end text) ≡ end = length-take-le end text inside in
      let shorter : end - 2 ≤ end = omega arith in
      ap (λ b. take (cond b (end - 2) end) text) (lt-ltb start end more) ∙ sym (take-take (end - 2) end text shorter)
      ∙ ap (λ n. take (n - 2) (take end text)) (sym long)
      ∙ trimmed old (take end text) names made (omega (arith, long, starts))
  | inr none ↦
      let long : length (take end text) ≡ end = length-take-le end text inside in
      ap (λ b. take (cond b (end - 2) end) text) (le-ltb start end none)
      ∙ untrimmed old (take end text) names made (omega (arith, long, starts))
]

-- ---- names are short

not_none : (a b : Bool) (x y : NameFault) (r : Option NameFault) → b ≡ true → cond a (Some x) (cond b (Some y) r) ≡ None → ⊥
not_none true b x y r e h = cc
not_none false true x y r e h = cc
not_none false false x y r e h = false≢true e

pub name_short : (name : Text) → name_fault name ≡ None → length name ≤ MAX_NAME_BYTES
unfolding name_fault
name_short name h = elim (cases_lt MAX_NAME_BYTES (length name)) [
  | inl long ↦ absurd (not_none (eqb (length name) 0) (ltb MAX_NAME_BYTES (length name)) Empty Long _
      (lt-ltb MAX_NAME_BYTES (length name) long) h)
  | inr short ↦ short
]

-- ---- names without what is behind them

without_comma-name : (name : Text) → without_comma (with_comma name) ≡ name
without_comma-name name = let n = length-append name (codes ", ") in take_at name (codes ", ") (length (with_comma name) - 2) (omega (arith, n))

pub without_comma-names : (names : List Text) → map without_comma (map with_comma names) ≡ names
without_comma-names [] = refl
without_comma-names (x ∷ xs) = ap₂ (λ y ys. y ∷ ys) (without_comma-name x) (without_comma-names xs)

pub HaveCommas-names : (texts names : List Text) → texts ≡ map with_comma names → HaveCommas texts
HaveCommas-names texts names is = is ∙ ap (map with_comma) (sym (ap (map without_comma) is ∙ without_comma-names names))
