-- Names one behind the other in one text, and stretches of them.
use Rattle.std.proofs.Common.{◌≡◌, ℕ, zero, suc, ◌+◌, ◌*◌, ◌-◌, ◌<◌, ◌≤◌, true, false, List, [], ◌∷◌, ◌++◌, length, map, take, drop, get_or}
use Rattle.std.proofs.Common.{sym, ap, ap₂, ◌∙◌, arith, inl, inr, append_assoc, length-append}
use Rattle.std.proofs.lemmas.Bool.{cases_lt}
use Rattle.std.proofs.lemmas.List.{map-append, append-nil, take_all, take_at, drop_at, take-take, take-append-drop, take-append-le}
use Rattle.std.proofs.lemmas.List.{drop-take, length_push, get_or_push, get_or_append_left}
use Rattle.std.proofs.lemmas.List.Folds.{concat-append}
use Rattle.std.proofs.Math.Nat.{min-le_left}
use Rattle.std.proofs.Math.Seq.{drop-cons}
use Rattle.std.specs.List.{concat}
use Rattle.std.specs.Prelude.{codes, slice_index_or}
use Rattle.fca_model.specs.Sets.{Set, full}
use Rattle.fca_model.specs.Tables.{Text}
use Rattle.fca_model.proofs.SetLemmas.{length-full, get_or-full}
use Rattle.attr_bits.specs.Difference.{minus}
use Rattle.attr_bits.proofs.DifferenceLemmas.{length-minus, lacked, kept}
use Rattle.expert_wire.proofs.ListedLemmas.{names_from, names_from-member, names_from-none, names_from-end}
use Rattle.packed_concepts.specs.Listing.{with_comma}
use Rattle.table_texts.specs.Joined.{joined, AreJoined}

joined-append : (xs ys : List Text) → joined (xs ++ ys) ≡ joined xs ++ joined ys
joined-append xs ys = ap concat (map-append with_comma xs ys) ∙ concat-append (map with_comma xs) (map with_comma ys)

joined-push : (xs : List Text) (x : Text) → joined (xs ++ x ∷ []) ≡ joined xs ++ with_comma x
joined-push xs x = joined-append xs (x ∷ []) ∙ ap (λ z. joined xs ++ z) (append-nil (with_comma x))

-- no name yet
pub joined_none : (text : Text) (starts : List ℕ) → text ≡ [] → starts ≡ 0 ∷ [] → AreJoined [] text starts
joined_none text starts t s = record {
  whole = t;
  even = ap length s;
  begin = λ i d l. let here : i ≡ 0 = omega (arith, l) in ap₂ (λ k ns. slice_index_or ns k d) here s
      ∙ ap (λ k. length (joined (take k []))) (sym here);
  short = let n : length text ≡ 0 = ap length t in omega (arith, n);
}

-- one name more
pub joined_more : (names : List Text) (name text new : Text) (starts news : List ℕ) → length name ≤ 255 → new ≡ text ++ with_comma name
    → news ≡ starts ++ length new ∷ [] → AreJoined names text starts → AreJoined (names ++ name ∷ []) new news
joined_more names name text new starts news short is made h =
    let whole : new ≡ joined (names ++ name ∷ []) = is ∙ ap (λ z. z ++ with_comma name) h.whole ∙ sym (joined-push names name) in
    record {
      whole = whole;
      even = ap length made ∙ omega (arith, length_push starts (length new), length_push names name, h.even);
      begin = λ i d l. ap (λ ns. slice_index_or ns i d) made ∙ elim (cases_lt (length names) i) [
        | inl last ↦
            let here : length starts ≡ i = omega (arith, last, l, h.even, length_push names name) in
            get_or_push starts (length new) d i here ∙ ap length whole
            ∙ ap (λ ns. length (joined ns)) (sym (take_all i (names ++ name ∷ []) (omega (arith, last, length_push names name))))
        | inr inside ↦ get_or_append_left starts (length new ∷ []) d i (omega (arith, inside, h.even)) ∙ h.begin i d inside
            ∙ ap (λ ns. length (joined ns)) (sym (take-append-le i names (name ∷ []) inside))
      ];
      short = let long : length new ≡ length text + (length name + 2) = ap length is ∙ length-append text (with_comma name)
          ∙ ap (λ n. length text + n) (length-append name (codes ", ")) in
          omega (arith, long, short, h.short, length_push names name);
    }

-- the names before one place are those before an earlier one and those between
joined-split : (names : List Text) (i j : ℕ) → i ≤ j → joined (take j names) ≡ joined (take i names) ++ joined (drop i (take j names))
joined-split names i j h = ap joined (sym (take-append-drop i (take j names))) ∙ joined-append (take i (take j names)) (drop i (take j names))
    ∙ ap (λ ns. joined ns ++ joined (drop i (take j names))) (take-take i j names h)

-- the names before a later place are no shorter
pub joined-mono : (names : List Text) (i j : ℕ) → i ≤ j → length (joined (take i names)) ≤ length (joined (take j names))
joined-mono names i j h =
    let n : length (joined (take j names)) ≡ length (joined (take i names)) + length (joined (drop i (take j names))) =
    ap length (joined-split names i j h) ∙ length-append (joined (take i names)) (joined (drop i (take j names))) in
    omega (arith, n)

-- where the names between two places stand
pub record IsStretch (names : List Text) (text : Text) (i j a b : ℕ) : Type 0 where
  pub first : a ≡ length (joined (take i names))
  pub last : b ≡ length (joined (take j names))
  pub order : a ≤ b
  pub inside : b ≤ length text
  pub taken : take (b - a) (drop a text) ≡ joined (drop i (take j names))

pub stretch : (names : List Text) (text : Text) (starts : List ℕ) (i j a b : ℕ) → AreJoined names text starts → i ≤ j → j ≤ length names
    → a ≡ slice_index_or starts i a → b ≡ slice_index_or starts j b → IsStretch names text i j a b
stretch names text starts i j a b h order inside is_a is_b =
    let M : Text = joined (drop i (take j names)) in
    let R : Text = joined (drop j names) in
    let first : a ≡ length (joined (take i names)) = is_a ∙ h.begin i a (omega (arith, order, inside)) in
    let last : b ≡ length (joined (take j names)) = is_b ∙ h.begin j b inside in
    let split = joined-split names i j order in
    let long : b ≡ a + length M = last ∙ ap length split ∙ length-append (joined (take i names)) M ∙ ap (λ n. n + length M) (sym first) in
    let whole : text ≡ joined (take i names) ++ (M ++ R) = h.whole ∙ ap joined (sym (take-append-drop j names))
    ∙ joined-append (take j names) (drop j names) ∙ ap (λ z. z ++ R) split ∙ append_assoc (joined (take i names)) M R in
    record {
      first = first;
      last = last;
      order = omega (arith, long);
      inside = let n : length text ≡ length (joined (take i names)) + (length M + length R) = ap length whole
          ∙ length-append (joined (take i names)) (M ++ R) ∙ ap (λ k. length (joined (take i names)) + k) (length-append M R) in
          omega (arith, n, long, first);
      taken = ap (λ z. take (b - a) (drop a z)) whole ∙ ap (take (b - a)) (drop_at (joined (take i names)) (M ++ R) a (sym first))
          ∙ take_at M R (b - a) (omega (arith, long));
    }

-- ---- sets that lack few attributes

-- those in a stretch of members are all named
run : (names : List Text) (A : Set) (n i : ℕ) → i + n ≤ length names → i + n ≤ length A
    → ((k : ℕ) → i ≤ k → k < i + n → get_or A k false ≡ true)
    → names_from i names A ≡ take n (drop i names) ++ names_from (i + n) names A
run names A zero i inside wide members = ap (λ k. names_from k names A) (omega arith)
run names A (suc n) i inside wide members =
    names_from-member i names A (omega (arith, inside)) (omega (arith, wide)) (members i (omega arith) (omega arith))
    ∙ ap (λ ns. get_or names i [] ∷ ns) (run names A n (suc i) (omega (arith, inside)) (omega (arith, wide))
    (λ k l m. members k (omega (arith, l)) (omega (arith, m))))
    ∙ ap₂ (λ ns k. take (suc n) ns ++ names_from k names A) (sym (drop-cons names i [] (omega (arith, inside)))) (omega arith)

between : (names : List Text) (A : Set) (i j : ℕ) → i ≤ j → j ≤ length names → j ≤ length A
    → ((k : ℕ) → i ≤ k → k < j → get_or A k false ≡ true)
    → joined (names_from i names A) ≡ joined (drop i (take j names)) ++ joined (names_from j names A)
between names A i j order inside wide members =
    let n = j - i in
    let there : i + n ≡ j = omega (arith, order) in
    ap joined (run names A n i (omega (arith, there, inside)) (omega (arith, there, wide)) (λ k l m. members k l (omega (arith, m, there))))
    ∙ joined-append (take n (drop i names)) (names_from (i + n) names A)
    ∙ ap₂ (λ ns k. joined ns ++ joined (names_from k names A)) (sym (drop-take i n names) ∙ ap (λ k. drop i (take k names)) there) there

-- what a set does not lack it has
has : (D A : Set) (n k : ℕ) → D ≡ minus (full n) A → k < n → get_or D k false ≡ false → get_or A k false ≡ true
has D A n k is l e = kept (full n) A k (ap (λ B. get_or B k false) (sym is) ∙ e) (get_or-full n k l)

-- the members before one that the set lacks were put down
pub stretch_more : (names : List Text) (D A : Set) (n from other : ℕ) (old new whole : Text) → D ≡ minus (full n) A → n ≡ length A
    → length A ≡ length names → from ≤ other → other < length A → get_or D other false ≡ true
    → ((k : ℕ) → from ≤ k → k < other → get_or D k false ≡ false) → new ≡ old ++ joined (drop from (take other names))
    → old ++ joined (names_from from names A) ≡ whole → new ++ joined (names_from (other + 1) names A) ≡ whole
stretch_more names D A n from other old new whole is width wide order inside lacks none made total =
    let M : Text = joined (drop from (take other names)) in
    let next : suc other ≡ other + 1 = omega arith in
    let skipped : names_from other names A ≡ names_from (other + 1) names A =
    names_from-none other names A (omega (arith, inside, wide)) inside
    (lacked (full n) A other (ap (λ B. get_or B other false) (sym is) ∙ lacks)).1 ∙ ap (λ k. names_from k names A) next in
    ap₂ (λ x ns. x ++ joined ns) made (sym skipped) ∙ append_assoc old M (joined (names_from other names A))
    ∙ ap (λ z. old ++ z) (sym (between names A from other order (omega (arith, inside, wide)) (omega (arith, inside))
    (λ k l m. has D A n k is (omega (arith, m, inside, width)) (none k l m)))) ∙ total

-- the members up to the last were put down
pub stretch_all : (names : List Text) (D A : Set) (n from : ℕ) (old new whole : Text) → D ≡ minus (full n) A → n ≡ length A
    → length A ≡ length names → from ≤ n → ((k : ℕ) → from ≤ k → k < length D → get_or D k false ≡ false)
    → new ≡ old ++ joined (drop from (take n names)) → old ++ joined (names_from from names A) ≡ whole → new ≡ whole
stretch_all names D A n from old new whole is width wide order none made total =
    let long : length D ≡ n = ap length is ∙ length-minus (full n) A ∙ length-full n in
    let empty : names_from n names A ≡ [] = names_from-end n names A (omega (arith, width, wide, min-le_left (length A) (length names))) in
    made ∙ ap (λ z. old ++ z) (sym (between names A from n order (omega (arith, width, wide)) (omega (arith, width))
    (λ k l m. has D A n k is m (none k l (omega (arith, m, long)))) ∙ ap (λ ns. joined (drop from (take n names)) ++ joined ns) empty
    ∙ append-nil (joined (drop from (take n names))))) ∙ total

-- a set has no more names than there are
pub length-joined : (names : List Text) (text : Text) (starts : List ℕ) (i : ℕ) → AreJoined names text starts
    → length (joined (take i names)) ≤ 257 * length names
length-joined names text starts i h =
    let n : length (joined names) ≡ length (joined (take i names)) + length (joined (drop i names)) =
    ap (λ ns. length (joined ns)) (sym (take-append-drop i names)) ∙ ap length (joined-append (take i names) (drop i names))
    ∙ length-append (joined (take i names)) (joined (drop i names)) in
    omega (arith, n, ap length h.whole, h.short)
