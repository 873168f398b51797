-- Where a derivation is sound, the implication follows: what each step adds lies within each set that contains the premise and
-- respects the list. And where no member adds anything before the conclusion is reached, the set reached respects the list, so the
-- implication does not follow.
use Rattle.std.proofs.Common.{◌≡◌, ℕ, zero, suc, ◌+◌, ◌-◌, ◌<◌, ◌≤◌, Bool, true, false, not, ◌&&◌, ◌||◌, cond, Option, Some, None, List, []}
use Rattle.std.proofs.Common.{◌∷◌}
use Rattle.std.proofs.Common.{◌++◌, length, get_or, position, refl, sym, ap, ap₂, ◌∙◌, subst, arith, inl, inr, eqb, eqb-true, ltb, lt-ltb}
use Rattle.std.proofs.Common.{option_map}
use Rattle.std.proofs.Common.{◌↔◌, drop, append-nil}
use Rattle.std.proofs.lemmas.Bool.{false≢true, and_parts, and_from, cases_Bool, ltb-true}
use Rattle.std.proofs.lemmas.List.{append_assoc, length-append, drop_more, get_or_default}
use Rattle.std.proofs.lemmas.List.Quantifiers.{position-Some}
use Rattle.std.proofs.lemmas.List.Sums.{AllPass-from_list_all}
use Rattle.std.specs.Option.{is_some}
use Rattle.fca_model.specs.Sets.{Set, size, within, join}
use Rattle.fca_model.specs.Implications.{Rule, rule, respects, respects_all, follows}
use Rattle.fca_model.proofs.SetLemmas.{within_refl, within_trans, strictly_from, size_strict, size_le, length-join, within-join}
use Rattle.fca_model.proofs.SetLemmas.{within-join_right, join_within, all_sets_at, all_sets_from}
use Rattle.fca_model.proofs.ClosureLemmas.{respects_at, respects_from}
use Rattle.fca_model.proofs.ListLemmas.{implies_from, implies_at, list_all-mono, not_not, not_implies-parts}
use Rattle.implication_closure.specs.Closing.{has_width, HaveWidth}
use Rattle.implication_closure.proofs.ClosingLemmas.{position_none}
use Rattle.canonical_basis.specs.Derivations.{premise_at, conclusion_at, is_sound, and_then, derivation_within}

abbrev at : List Rule → ℕ → Rule
at J i = get_or J i (rule [] [])

-- a set that contains X and respects J contains what a sound derivation reaches
sound_reaches : (J : List Rule) (C T : Set) → respects_all J T ≡ true → (steps : List ℕ) (X : Set) → is_sound J X C steps ≡ true
    → within X T ≡ true → within C T ≡ true
sound_reaches J C T r [] X h inside = within_trans C X T h inside
sound_reaches J C T r (i ∷ steps) X h inside =
    let outer = and_parts (ltb i (length J)) (within (premise_at J i) X && is_sound J (join X (conclusion_at J i)) C steps) h in
    let inner = and_parts (within (premise_at J i) X) (is_sound J (join X (conclusion_at J i)) C steps) outer.1 in
    let mine = AllPass-from_list_all (respects T) J r i (rule [] []) (ltb-true i (length J) outer.0) in
    sound_reaches J C T r steps (join X (conclusion_at J i)) inner.1
    (join_within X (conclusion_at J i) T inside (respects_at T (at J i) mine (within_trans (premise_at J i) X T inner.0 inside)))

pub sound_follows : (n : ℕ) (J : List Rule) (P C : Set) (steps : List ℕ) → is_sound J P C steps ≡ true → follows n J (rule P C) ≡ true
unfolding follows
sound_follows n J P C steps h = all_sets_from (λ T. not (respects_all J T) || respects T (rule P C)) n
    (λ T w. implies_from (respects_all J T) (respects T (rule P C))
    (λ r. respects_from T (rule P C) (λ inside. sound_reaches J C T r steps P h inside)))

-- the derivation is sound
pub derivation_sound : (J : List Rule) (C : Set) (k : ℕ) (X : Set) (steps : List ℕ) → derivation_within k J X C ≡ Some steps
    → is_sound J X C steps ≡ true
unfolding derivation_within
derivation_sound J C zero X steps h = go (within C X) refl h
  where
    go : (b : Bool) → within C X ≡ b → cond b (Some []) None ≡ Some steps → is_sound J X C steps ≡ true
    go true e h = subst (λ s. is_sound J X C s ≡ true) (inside h) e
      where
        inside : {a b : List ℕ} → Some a ≡ Some b → a ≡ b
        inside e = cc
    go false e h = absurd (cc)
derivation_sound J C (suc k) X steps h = go (λ i more e. derivation_sound J C k (join X (conclusion_at J i)) more e) (within C X) refl
    (position (λ i. not (respects X i)) J) refl h
  where
    inside : {a b : List ℕ} → Some a ≡ Some b → a ≡ b
    inside e = cc

    go : ((i : ℕ) (more : List ℕ) → derivation_within k J (join X (conclusion_at J i)) C ≡ Some more
        → is_sound J (join X (conclusion_at J i)) C more ≡ true)
        → (b : Bool) → within C X ≡ b → (o : Option ℕ) → position (λ i. not (respects X i)) J ≡ o
        → cond b (Some []) (and_then o (λ i. derivation_within k J (join X (conclusion_at J i)) C)) ≡ Some steps
        → is_sound J X C steps ≡ true
    go next true e o p h = subst (λ s. is_sound J X C s ≡ true) (inside h) e
    go next false e None p h = absurd (cc)
    go next false e (Some i) p h = rest (derivation_within k J (join X (conclusion_at J i)) C) refl h
      where
        rest : (d : Option (List ℕ)) → derivation_within k J (join X (conclusion_at J i)) C ≡ d → option_map (λ s. i ∷ s) d ≡ Some steps
            → is_sound J X C steps ≡ true
        rest None e h = absurd (cc)
        rest (Some more) e h =
            let there = position-Some (λ j. not (respects X j)) J i (rule [] []) p in
            let broken = not_implies-parts (within (premise_at J i) X) (within (conclusion_at J i) X) there.1 in
            subst (λ s. is_sound J X C s ≡ true) (inside h)
            (and_from (ltb i (length J)) (within (premise_at J i) X && is_sound J (join X (conclusion_at J i)) C more)
            (lt-ltb i (length J) there.0)
            (and_from (within (premise_at J i) X) (is_sound J (join X (conclusion_at J i)) C more) broken.0 (next i more e)))

module _ (n : ℕ) (J : List Rule) (wide : HaveWidth n J) (C : Set) where
  -- each step adds an attribute
  step_larger : (X : Set) (i : ℕ) → length X ≡ n → position (λ j. not (respects X j)) J ≡ Some i
      → size X < size (join X (conclusion_at J i))
  step_larger X i e p =
      let there = position-Some (λ j. not (respects X j)) J i (rule [] []) p in
      let broken = not_implies-parts (within (premise_at J i) X) (within (conclusion_at J i) X) there.1 in
      let widths = and_parts (eqb (length (premise_at J i)) n) (eqb (length (conclusion_at J i)) n)
      (AllPass-from_list_all (has_width n) J wide i (rule [] []) there.0) in
      let D = conclusion_at J i in
      size_strict X (join X D) (sym (length-join X D)) (strictly_from X (join X D) (within-join X D)
      (λ z. false≢true (sym broken.1 ∙ subst (λ Y. within D Y ≡ true) (sym z)
      (within-join_right X D (e ∙ sym (eqb-true (length D) n widths.1))))))

  -- where there is no derivation, some set that contains X respects the list and does not contain C
  no_derivation : (k : ℕ) (X : Set) → length X ≡ n → n < size X + k → derivation_within k J X C ≡ None
      → (T : Set) × (length T ≡ n) × (within X T ≡ true) × (respects_all J T ≡ true) × (within C T ≡ false)
  unfolding derivation_within
  no_derivation zero X e lt h = absurd (omega (arith, size_le X))
  no_derivation (suc k) X e lt h = go (λ i p q.
      let larger = step_larger X i e p in
      no_derivation k (join X (conclusion_at J i)) (length-join X (conclusion_at J i) ∙ e) (omega (arith, larger, lt)) q) (within C X) refl
      (position (λ i. not (respects X i)) J) refl h
    where
      go : ((i : ℕ) → position (λ i. not (respects X i)) J ≡ Some i → derivation_within k J (join X (conclusion_at J i)) C ≡ None
          → (T : Set) × (length T ≡ n) × (within (join X (conclusion_at J i)) T ≡ true) × (respects_all J T ≡ true) × (within C T ≡ false))
          → (b : Bool) → within C X ≡ b → (o : Option ℕ) → position (λ i. not (respects X i)) J ≡ o
          → cond b (Some []) (and_then o (λ i. derivation_within k J (join X (conclusion_at J i)) C)) ≡ None
          → (T : Set) × (length T ≡ n) × (within X T ≡ true) × (respects_all J T ≡ true) × (within C T ≡ false)
      go next true b o p h = absurd (cc)
      go next false b None p h = (
        X,
        e,
        within_refl X,
        list_all-mono (λ i. not (not (respects X i))) (respects X) (λ i t. not_not (respects X i) t) J (position_none
            (λ i. not (respects X i)) J p),
        b,
      )
      go next false b (Some i) p h = rest (derivation_within k J (join X (conclusion_at J i)) C) refl h
        where
          rest : (d : Option (List ℕ)) → derivation_within k J (join X (conclusion_at J i)) C ≡ d → option_map (λ s. i ∷ s) d ≡ None
              → (T : Set) × (length T ≡ n) × (within X T ≡ true) × (respects_all J T ≡ true) × (within C T ≡ false)
          rest (Some more) q h = absurd (cc)
          rest None q h =
              let D = conclusion_at J i in
              let r = next i p q in
              (r.0, r.1, within_trans X (join X D) r.0 (within-join X D) r.2, r.3, r.4)

  -- so there is one exactly where the implication follows
  pub derivation_none : (P : Set) → length P ≡ n → (o : Option (List ℕ)) → o ≡ derivation_within (suc n) J P C
      → (is_some o ≡ false) ↔ (follows n J (rule P C) ≡ false)
  unfolding follows
  derivation_none P e None is = (
    λ _. elim (cases_Bool (follows n J (rule P C))) [
      | inl t ↦
          let r = no_derivation (suc n) P e (omega arith) (sym is) in
          absurd (false≢true (sym r.4 ∙ respects_at r.0 (rule P C)
          (implies_at (respects_all J r.0) (respects r.0 (rule P C))
          (all_sets_at (λ T. not (respects_all J T) || respects T (rule P C)) n r.0 r.1 t) r.3) r.2))
      | inr f ↦ f
    ],
    λ _. refl,
  )
  derivation_none P e (Some steps) is = (
    λ h. absurd (false≢true (sym h)),
    λ f. absurd (false≢true (sym f ∙ sound_follows n J P C steps (derivation_sound J C (suc n) P steps (sym is)))),
  )

-- ---- the loops

pub sound_step : (J : List Rule) (X C : Set) (steps : List ℕ) (k s : ℕ) → k < length steps → s ≡ get_or steps k s
    → is_sound J X C (drop k steps) ≡ (ltb s (length J)
    && (within (premise_at J s) X && is_sound J (join X (conclusion_at J s)) C (drop (k + 1) steps)))
sound_step J X C steps k s l e = ap (is_sound J X C) (drop_more steps k s l ∙ ap (λ t. t ∷ drop (k + 1) steps) (sym e))

map_twice : (steps : List ℕ) (i : ℕ) (d : Option (List ℕ))
    → option_map (λ s. steps ++ s) (option_map (λ s. i ∷ s) d) ≡ option_map (λ s. (steps ++ i ∷ []) ++ s) d
map_twice steps i None = refl
map_twice steps i (Some s) = ap (λ t. Some t) (sym (append_assoc steps (i ∷ []) s))

-- one step more is taken
pub derive_step : (n : ℕ) (J : List Rule) (X C : Set) (steps : List ℕ) (i : ℕ) (all : Option (List ℕ)) → length steps ≤ n
    → within C X ≡ false → position (λ j. not (respects X j)) J ≡ Some i
    → all ≡ option_map (λ s. steps ++ s) (derivation_within (suc n - length steps) J X C)
    → all ≡ option_map (λ s. (steps ++ i ∷ []) ++ s)
    (derivation_within (suc n - length (steps ++ i ∷ [])) J (join X (conclusion_at J i)) C)
unfolding derivation_within
derive_step n J X C steps i all few outside p h =
    let m = n - length steps in
    let before : suc n - length steps ≡ suc m = omega arith in
    let after : m ≡ suc n - length (steps ++ i ∷ []) = omega (arith, length-append steps (i ∷ [])) in
    h ∙ ap (λ k. option_map (λ s. steps ++ s) (derivation_within k J X C)) before
    ∙ ap₂ (λ b o. option_map (λ s. steps ++ s) (cond b (Some []) (and_then o (λ i. derivation_within m J (join X (conclusion_at J i)) C))))
    outside p
    ∙ map_twice steps i (derivation_within m J (join X (conclusion_at J i)) C)
    ∙ ap (λ k. option_map (λ s. (steps ++ i ∷ []) ++ s) (derivation_within k J (join X (conclusion_at J i)) C)) after

-- the conclusion is reached, or nothing is added any more
pub derive_done : (n : ℕ) (J : List Rule) (X C : Set) (steps : List ℕ) (all : Option (List ℕ)) → within C X ≡ true
    → all ≡ option_map (λ s. steps ++ s) (derivation_within (suc n - length steps) J X C) → Some steps ≡ all
unfolding derivation_within
derive_done n J X C steps all inside h = sym (h ∙ ap (option_map (λ s. steps ++ s)) (found (suc n - length steps))
    ∙ ap (λ s. Some s) (append-nil steps))
  where
    found : (k : ℕ) → derivation_within k J X C ≡ Some []
    found zero = ap (λ b. cond b (Some []) None) inside
    found (suc k) = ap (λ b. cond b (Some []) (and_then (position (λ i. not (respects X i)) J)
        (λ i. derivation_within k J (join X (conclusion_at J i)) C))) inside

pub derive_stuck : (n : ℕ) (J : List Rule) (X C : Set) (steps : List ℕ) (all : Option (List ℕ)) → within C X ≡ false
    → position (λ j. not (respects X j)) J ≡ None → all ≡ option_map (λ s. steps ++ s) (derivation_within (suc n - length steps) J X C)
    → None ≡ all
unfolding derivation_within
derive_stuck n J X C steps all outside p h = sym (h ∙ ap (option_map (λ s. steps ++ s)) (none (suc n - length steps)))
  where
    none : (k : ℕ) → derivation_within k J X C ≡ None
    none zero = ap (λ b. cond b (Some []) None) outside
    none (suc k) = ap₂ (λ b o. cond b (Some []) (and_then o (λ i. derivation_within k J (join X (conclusion_at J i)) C))) outside p

pub derive_start : (k : ℕ) (J : List Rule) (X C : Set) → derivation_within k J X C ≡ option_map (λ s. [] ++ s) (derivation_within k J X C)
derive_start k J X C = go (derivation_within k J X C)
  where
    go : (d : Option (List ℕ)) → d ≡ option_map (λ s. [] ++ s) d
    go None = refl
    go (Some s) = refl

-- what is joined is the conclusion at the place
pub joined_at : (J Js : List Rule) (X D : Set) (i : ℕ) (j : Rule) → Js ≡ J → i < length J → D ≡ join X (get_or Js i j).conclusion
    → D ≡ join X (conclusion_at J i)
joined_at J Js X D i j e l d = d ∙ ap (λ (r : Rule). join X r.conclusion) (ap (λ zs. get_or zs i j) e ∙ get_or_default J i j (rule [] []) l)

pub broken_in_range : (J : List Rule) (X : Set) (i : ℕ) → position (λ j. not (respects X j)) J ≡ Some i → i < length J
broken_in_range J X i p = (position-Some (λ j. not (respects X j)) J i (rule [] []) p).0

pub derive_measure : (n : ℕ) (J : List Rule) (X D : Set) (i : ℕ) → HaveWidth n J → length X ≡ n
    → position (λ j. not (respects X j)) J ≡ Some i → D ≡ join X (conclusion_at J i) → size X < size D
derive_measure n J X D i wide e p d = subst (λ Y. size X < size Y) (sym d) (step_larger n J wide X X i e p)

-- a step of a derivation that may be taken
pub sound_on : (J : List Rule) (X C D : Set) (steps : List ℕ) (k : ℕ) (i j : Rule) → k < length steps → get_or steps k 0 < length J
    → within (get_or J (get_or steps k 0) i).premise X ≡ true → D ≡ join X (get_or J (get_or steps k 0) j).conclusion
    → is_sound J X C (drop k steps) ≡ is_sound J D C (drop (k + 1) steps)
sound_on J X C D steps k i j l lt inside d =
    let s = get_or steps k 0 in
    let here : within (premise_at J s) X ≡ true = ap (λ (r : Rule). within r.premise X) (get_or_default J s (rule [] []) i lt) ∙ inside in
    sound_step J X C steps k s l (get_or_default steps k 0 s l)
    ∙ ap₂ (λ a b. a && (b && is_sound J (join X (conclusion_at J s)) C (drop (k + 1) steps))) (lt-ltb s (length J) lt) here
    ∙ ap (λ Y. is_sound J Y C (drop (k + 1) steps)) (sym (joined_at J J X D s j refl lt d))
