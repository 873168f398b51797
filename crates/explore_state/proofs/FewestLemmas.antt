-- The question that is held by the fewest, found from the front, and the reply to a draw by it: of a list's elements that no other
-- is below, `find` gives the first.
use Rattle.std.proofs.Common.{◌≡◌, ℕ, zero, suc, ◌+◌, ◌<◌, ◌≤◌, Bool, true, false, cond, Some, List, [], ◌∷◌, length, find, get_or, leb}
use Rattle.std.proofs.Common.{le-leb, leb-true, refl, sym, ap, ◌∙◌, subst, arith, inl, inr}
use Rattle.std.proofs.lemmas.Bool.{cases_lt, false_from_ne_true}
use Rattle.std.proofs.lemmas.List.Sums.{AllPass-from_list_all, list_all-from_AllPass}
use Rattle.std.specs.List.{list_all}
use Rattle.fca_model.specs.declared.Reply.TheVariants.{Ask, AllHeld}
use Rattle.fca_model.specs.Implications.{Rule}
use Rattle.fca_model.specs.Exploration.{SetHold, holders_of, least_held, all_held, asked, draw_reply}
use Rattle.explore_state.specs.Fewest.{IsFewest}

-- ---- one question more

module _ (hs : List SetHold) (J : List Rule) where
  abbrev n : Rule → ℕ
  n i = holders_of i.premise hs

  pub fewest_first : IsFewest hs J 1 0
  fewest_first = record {
    in_range = omega arith;
    fewest = λ k d lt. let e : 0 ≡ k = omega arith in subst (λ m. n (get_or J 0 d) ≤ n (get_or J m d)) e (omega arith);
    first = λ k d lt. absurd (omega arith);
  }

  -- the next is no better
  pub fewest_keeps : (p b : ℕ) → IsFewest hs J p b → ((d : Rule) → n (get_or J b d) ≤ n (get_or J p d)) → IsFewest hs J (p + 1) b
  fewest_keeps p b f h =
      let range = f.in_range in
      record {
        in_range = omega arith;
        fewest = λ k d lt. elim (cases_lt k p) [
          | inl before ↦ f.fewest k d before
          | inr not_before ↦ let e : p ≡ k = omega arith in subst (λ m. n (get_or J b d) ≤ n (get_or J m d)) e (h d)
        ];
        first = f.first;
      }

  -- the next is better
  pub fewest_takes : (p b : ℕ) → IsFewest hs J p b → ((d : Rule) → n (get_or J p d) < n (get_or J b d)) → IsFewest hs J (p + 1) p
  fewest_takes p b f h = record {
    in_range = omega arith;
    fewest = λ k d lt. elim (cases_lt k p) [
      | inl before ↦ let old = f.fewest k d before in let new = h d in omega arith
      | inr not_before ↦ let e : p ≡ k = omega arith in subst (λ m. n (get_or J p d) ≤ n (get_or J m d)) e (omega arith)
    ];
    first = λ k d lt. let old = f.fewest k d lt in let new = h d in omega arith;
  }

-- ---- the first that passes

pub find_at : {X : Type 0} (p : X → Bool) (xs : List X) (b : ℕ) (d : X) → b < length xs → p (get_or xs b d) ≡ true
    → ((k : ℕ) → k < b → p (get_or xs k d) ≡ false) → find p xs ≡ Some (get_or xs b d)
find_at p [] b d lt t before = absurd (omega arith)
find_at p (x ∷ xs) zero d lt t before = ap (λ b. cond b (Some x) (find p xs)) t
find_at p (x ∷ xs) (suc b) d lt t before = ap (λ b. cond b (Some x) (find p xs)) (before 0 (omega arith))
    ∙ find_at p xs b d (omega arith) t (λ k l. before (suc k) (omega arith))

module _ (hs : List SetHold) (J : List Rule) (b : ℕ) (d : Rule) (f : IsFewest hs J (length J) b) where
  abbrev count : Rule → ℕ
  count i = holders_of i.premise hs

  abbrev is_least : Rule → Bool
  is_least i = list_all (λ j. leb (count i) (count j)) J

  pub least_held_is : least_held hs J ≡ Some (get_or J b d)
  least_held_is = find_at is_least J b d f.in_range
      (list_all-from_AllPass (λ j. leb (count (get_or J b d)) (count j)) J
      (λ k e lt. le-leb (count (get_or J b d)) (count (get_or J k e)) (at_most k e lt)))
      (λ k lt. false_from_ne_true (is_least (get_or J k d)) (λ t.
      let range = f.in_range in
      let le = leb-true (count (get_or J k d)) (count (get_or J b d))
      (AllPass-from_list_all (λ j. leb (count (get_or J k d)) (count j)) J t b d range) in
      let less = f.first k d lt in
      omega arith))
    where
      at_most : (k : ℕ) (e : Rule) → k < length J → count (get_or J b d) ≤ count (get_or J k e)
      at_most k e lt = subst (λ i. count i ≤ count (get_or J k e)) (same_read J b e d f.in_range) (f.fewest k e lt)
        where
          same_read : (is : List Rule) (b : ℕ) (e d : Rule) → b < length is → get_or is b e ≡ get_or is b d
          same_read [] b e d lt = absurd (omega arith)
          same_read (i ∷ is) zero e d lt = refl
          same_read (i ∷ is) (suc b) e d lt = same_read is b e d (omega arith)

  -- where each question is held by as many as may hold it
  pub draw_all_held : (most : ℕ) → most ≤ count (get_or J b d) → draw_reply most hs J ≡ AllHeld
  draw_all_held most le = by_case J refl
    where
      by_case : (is : List Rule) → is ≡ J → draw_reply most hs is ≡ AllHeld
      by_case [] e = let range = f.in_range in let none = ap length e in absurd (omega arith)
      by_case (i ∷ is) e = ap (λ b. cond b AllHeld (asked (least_held hs (i ∷ is))))
          (list_all-from_AllPass (λ j. leb most (count j)) (i ∷ is) (λ k c lt.
          let here : k < length J = subst (λ js. k < length js) e lt in
          let least = f.fewest k d here in
          le-leb most (count (get_or (i ∷ is) k c)) (subst (λ js. most ≤ count (get_or js k c)) (sym e) (at k c here))))
        where
          at : (k : ℕ) (c : Rule) → k < length J → most ≤ count (get_or J k c)
          at k c lt = let least = f.fewest k c lt in let own = same_read J b c d f.in_range in let eq = ap count own in omega arith
            where
              same_read : (is : List Rule) (b : ℕ) (e d : Rule) → b < length is → get_or is b e ≡ get_or is b d
              same_read [] b e d lt = absurd (omega arith)
              same_read (i ∷ is) zero e d lt = refl
              same_read (i ∷ is) (suc b) e d lt = same_read is b e d (omega arith)

  -- where the best is held by fewer
  pub draw_asks_fewest : (most : ℕ) → count (get_or J b d) < most → draw_reply most hs J ≡ Ask (get_or J b d)
  draw_asks_fewest most lt = by_case J refl
    where
      by_case : (is : List Rule) → is ≡ J → draw_reply most hs is ≡ Ask (get_or J b d)
      by_case [] e = let range = f.in_range in let none = ap length e in absurd (omega arith)
      by_case (i ∷ is) e =
          let free : all_held most hs (i ∷ is) ≡ false = false_from_ne_true (all_held most hs (i ∷ is)) (λ t.
          let le = leb-true most (count (get_or J b d))
          (AllPass-from_list_all (λ j. leb most (count j)) J (subst (λ js. all_held most hs js ≡ true) e t) b d f.in_range) in
          omega arith) in
          ap (λ c. cond c AllHeld (asked (least_held hs (i ∷ is)))) free ∙ ap asked (ap (least_held hs) e ∙ least_held_is)
