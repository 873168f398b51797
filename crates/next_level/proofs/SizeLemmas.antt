-- The least size of a premise.
use Rattle.std.proofs.Common.{◌≡◌, ℕ, ◌<◌, ◌≤◌, ◌+◌, ◌⊎◌, true, false, ◌&&◌, ◌||◌, List, [], ◌∷◌, ◌++◌, length, take, get_or, refl, sym, ap}
use Rattle.std.proofs.Common.{◌∙◌}
use Rattle.std.proofs.Common.{subst, arith, inl, inr, eqb, eq-eqb, leb, le-leb, leb-true}
use Rattle.std.proofs.lemmas.Bool.{and_from, or_left, or_right}
use Rattle.std.proofs.lemmas.List.{take_more}
use Rattle.std.proofs.lemmas.List.Folds.{list_all-append, list_any-append}
use Rattle.std.specs.List.{list_all, list_any}
use Rattle.fca_model.specs.Sets.{size}
use Rattle.fca_model.specs.Implications.{Rule}
use Rattle.fca_model.proofs.ListLemmas.{list_all-mono}
use Rattle.next_level.specs.LevelWalks.{IsLeastSize}

pub least_start : (past : ℕ) → IsLeastSize past [] past
least_start past = record { at_most = omega arith; least = refl; reached = inl refl }

pub least_more : (past k s r : ℕ) (xs : List Rule) (n : ℕ) (x : Rule) → n < length xs → x ≡ get_or xs n x → s ≡ size x.premise → r ≤ k
    → r ≤ s → (r ≡ k) ⊎ (r ≡ s)
    → IsLeastSize past (take n xs) k → IsLeastSize past (take (n + 1) xs) r
least_more past k s r xs n x inside is s_is rk rs one l =
    subst (λ ys. IsLeastSize past ys r) (sym (take_more xs n x inside ∙ ap (λ y. take n xs ++ y ∷ []) (sym is))) (record {
      at_most = let le = l.at_most in omega (arith, le, rk);
      least = list_all-append (λ i. leb r (size i.premise)) (take n xs) (x ∷ [])
          ∙ and_from (list_all (λ i. leb r (size i.premise)) (take n xs)) (leb r (size x.premise) && true)
          (list_all-mono (λ i. leb k (size i.premise)) (λ i. leb r (size i.premise))
          (λ i t. le-leb r (size i.premise) (let le = leb-true k (size i.premise) t in omega (arith, le, rk))) (take n xs) l.least)
          (and_from (leb r (size x.premise)) true (le-leb r (size x.premise) (omega (arith, rs, s_is))) refl);
      reached = elim one [
        | inl old ↦ elim l.reached [
          | inl past_is ↦ inl (old ∙ past_is)
          | inr there ↦ inr (list_any-append (λ i. eqb (size i.premise) r) (take n xs) (x ∷ [])
              ∙ or_left (list_any (λ i. eqb (size i.premise) r) (take n xs)) (eqb (size x.premise) r || false)
              (subst (λ m. list_any (λ i. eqb (size i.premise) m) (take n xs) ≡ true) (sym old) there))
        ]
        | inr new ↦ inr (list_any-append (λ i. eqb (size i.premise) r) (take n xs) (x ∷ [])
            ∙ or_right (list_any (λ i. eqb (size i.premise) r) (take n xs)) (eqb (size x.premise) r || false)
            (or_left (eqb (size x.premise) r) false (eq-eqb (size x.premise) r (sym s_is ∙ sym new))))
      ];
    })
