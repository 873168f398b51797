-- A level is found and opened. The members among the candidates of size k are the level: a pseudo-intent of size k is not closed
-- and respects what was found, so a candidate of size k at least lies within it, and is it. Each larger set that the candidates of
-- size k lead to contains a member or a set that is settled. And once the closures of the members have grown, and the members
-- are found, the larger candidates lead to all.
use Rattle.std.proofs.Common.{◌≡◌, ℕ, zero, suc, ◌+◌, Bool, true, false, not, ◌&&◌, ◌||◌, cond, Some, None, List, [], ◌∷◌, ◌++◌, map}
use Rattle.std.proofs.Common.{length, filter, refl, sym, ap, ap₂, ◌∙◌, subst, arith, inl, inr, eqb, eqb-true, eq-eqb, leb, le-leb, leb-true}
use Rattle.std.proofs.Common.{replicate}
use Rattle.std.proofs.lemmas.Bool.{false≢true, and_parts, and_from, or_cases, or_left, or_right}
use Rattle.std.proofs.lemmas.List.Folds.{list_all-append, list_all-map}
use Rattle.std.proofs.lemmas.Simd.{length-replicate}
use Rattle.std.specs.List.{list_all, list_any}
use Rattle.std.specs.Option.{is_some}
use Rattle.fca_model.specs.Sets.{Set, size, within, same, all_sets, increasing}
use Rattle.fca_model.specs.Context.{Context, closure, is_closed}
use Rattle.fca_model.specs.Implications.{Rule, rule, respects, respects_all}
use Rattle.fca_model.specs.Pseudo.{basis_known, pseudo_known}
use Rattle.fca_model.specs.Levels.{level_of, levels_below, by_size, absorbs_all, HasBelow}
use Rattle.fca_model.proofs.ListLemmas.{implies_from, list_all-mono, list_all-filter, list_all-filter_kept, list_all-and, list_any-mono₂}
use Rattle.fca_model.proofs.ListLemmas.{list_any_at, filter_passes}
use Rattle.fca_model.proofs.SetLemmas.{same_refl, same_from, same_by_size, size_mono, all_sets_increasing, all_sets_widths, within-empty}
use Rattle.fca_model.proofs.SortedLemmas.{at_member, same_members, increasing-filter, in_filter, of_filter, in_all_sets}
use Rattle.fca_model.proofs.ClosureLemmas.{length-closure, closure_extensive, closure_idempotent, respects_at}
use Rattle.fca_model.proofs.PseudoLemmas.{pseudo_parts, basis_all}
use Rattle.fca_model.proofs.LevelLemmas.{pseudo_by_found, respects_found, level_is, has_below, level_all}
use Rattle.implication_closure.specs.Closing.{has_width, HaveWidth}
use Rattle.pseudo_levels.specs.Search.{judged, members_of, AreWide, Has, HasLarger, HaveLarger, Grows, leads, LeadsAll, LeadsOn, IsSettled}
use Rattle.pseudo_levels.specs.Search.{IsOpened}
use Rattle.pseudo_levels.proofs.ReachLemmas.{split_leads, larger_leads, leads_by}

-- a set that leads on is a member or another
by_answer : (S : List Rule) (K : Context) (found : List Rule) (P : Set) (Xs : List Set) → list_any (λ X. within X P) Xs ≡ true
    → (list_any (λ X. not (is_some (judged S K found X)) && within X P) Xs || list_any (λ q. within q.premise P)
    (members_of (map (judged S K found) Xs))) ≡ true
by_answer S K found P [] h = absurd (false≢true h)
by_answer S K found P (X ∷ Xs) h =
    go (respects_all S X && (absorbs_all found X && not (same (closure K X) X))) (within X P) refl (list_any (λ X. within X P) Xs) h
    (by_answer S K found P Xs)
  where
    go : (b w : Bool) → w ≡ within X P → (l : Bool) → (w || l) ≡ true
        → (l ≡ true → (list_any (λ X. not (is_some (judged S K found X)) && within X P) Xs || list_any (λ q. within q.premise P)
        (members_of (map (judged S K found) Xs))) ≡ true)
        → (((not (is_some (cond b (Some (rule X (closure K X))) None)) && w) || list_any
        (λ X. not (is_some (judged S K found X)) && within X P) Xs)
        || list_any (λ q. within q.premise P) (members_of (cond b (Some (rule X (closure K X))) None ∷ map (judged S K found) Xs))) ≡ true
    go false true e l h rest = refl
    go false false e l h rest = rest h
    go true w e l h rest =
        let A = list_any (λ X. not (is_some (judged S K found X)) && within X P) Xs in
        let M = list_any (λ q. within q.premise P) (members_of (map (judged S K found) Xs)) in
        elim (or_cases w l h) [
          | inl here ↦ or_right A (within X P || M) (or_left (within X P) M (sym e ∙ here))
          | inr there ↦ elim (or_cases A M (rest there)) [
            | inl a ↦ or_left A (within X P || M) a
            | inr m ↦ or_right A (within X P || M) (or_right (within X P) M m)
          ]
        ]

-- the image of each element is among the images
each_image : {X : Type 0} (f : X → Set) (xs : List X) → list_all (λ x. list_any (same (f x)) (map f xs)) xs ≡ true
each_image f [] = refl
each_image f (x ∷ xs) = and_from (list_any (same (f x)) (f x ∷ map f xs)) (list_all (λ y. list_any (same (f y)) (f x ∷ map f xs)) xs)
    (or_left (same (f x) (f x)) (list_any (same (f x)) (map f xs)) (same_refl (f x)))
    (list_all-mono (λ y. list_any (same (f y)) (map f xs)) (λ y. list_any (same (f y)) (f x ∷ map f xs))
    (λ y h. or_right (same (f y) (f x)) (list_any (same (f y)) (map f xs)) h) xs (each_image f xs))

module _ (S : List Rule) (K : Context) (k : ℕ) (found : List Rule) (below : HasBelow S K k found) where
  -- the answers for sets of the size are their implications where they are pseudo-intents
  answers_are : (Xs : List Set) → AreWide K.width Xs → list_all (λ X. eqb (size X) k) Xs ≡ true
      → members_of (map (judged S K found) Xs) ≡ map (λ P. rule P (closure K P)) (filter (pseudo_known S K) Xs)
  answers_are [] w s = refl
  answers_are (X ∷ Xs) w s =
      let ws = and_parts (eqb (length X) K.width) (list_all (λ X. eqb (length X) K.width) Xs) w in
      let ss = and_parts (eqb (size X) k) (list_all (λ X. eqb (size X) k) Xs) s in
      let e = pseudo_by_found S K X found (eqb-true (length X) K.width ws.0)
      (subst (λ k. HasBelow S K k found) (sym (eqb-true (size X) k ss.0)) below) in
      go (pseudo_known S K X) (respects_all S X && (absorbs_all found X && not (same (closure K X) X))) e (answers_are Xs ws.1 ss.1)
    where
      go : (b c : Bool) → b ≡ c → members_of (map (judged S K found) Xs) ≡ map (λ P. rule P (closure K P)) (filter (pseudo_known S K) Xs)
          → members_of (cond c (Some (rule X (closure K X))) None ∷ map (judged S K found) Xs) ≡ map (λ P. rule P (closure K P))
          (cond b (X ∷ filter (pseudo_known S K) Xs) (filter (pseudo_known S K) Xs))
      go true true e rest = ap (λ ys. rule X (closure K X) ∷ ys) rest
      go false false e rest = rest
      go true false e rest = absurd (false≢true (sym e))
      go false true e rest = absurd (false≢true e)

  -- a pseudo-intent of the size is a candidate
  candidate_here : (Xs : List Set) (P : Set) → LeadsAll S K k found Xs → AreWide K.width Xs → length P ≡ K.width → pseudo_known S K P ≡ true
      → size P ≡ k → Has P Xs
  candidate_here Xs P l w e t s =
      let parts = pseudo_parts S K P e t in
      list_any-mono₂ (λ X. leb k (size X) && within X P) (λ X. eqb (length X) K.width) (same P)
      (λ X h wide. let both = and_parts (leb k (size X)) (within X P) h in
      same_from P X (sym (same_by_size X P (eqb-true (length X) K.width wide ∙ sym e) both.1 (omega (arith, leb-true k (size X) both.0)))))
      Xs (l P e parts.respecting (respects_found S K k P found e below t (omega arith)) parts.not_closed (omega arith)) w

  -- the pseudo-intents among the candidates of the size are those among all sets
  candidates_are : (old Xs : List Set) → LeadsAll S K k found old → AreWide K.width old → Xs ≡ filter (λ X. eqb (size X) k) old
      → increasing Xs ≡ true
      → filter (pseudo_known S K) Xs ≡ filter (λ P. pseudo_known S K P && eqb (size P) k) (all_sets K.width)
  candidates_are old Xs l w is up =
      let at : Set → Bool = λ X. eqb (size X) k in
      let wide : Set → Bool = λ X. eqb (length X) K.width in
      let ps : Set → Bool = pseudo_known S K in
      let sizes : list_all at Xs ≡ true = subst (λ Zs. list_all at Zs ≡ true) (sym is) (filter_passes at old) in
      let widths : list_all wide Xs ≡ true = subst (λ Zs. list_all wide Zs ≡ true) (sym is) (list_all-filter_kept wide at old w) in
      same_members (filter ps Xs) (filter (λ P. ps P && at P) (all_sets K.width)) (increasing-filter ps Xs up)
      (increasing-filter (λ P. ps P && at P) (all_sets K.width) (all_sets_increasing K.width))
      (λ A h.
      let there = of_filter ps A Xs h in
      in_filter (λ P. ps P && at P) A (all_sets K.width)
      (in_all_sets K.width A (eqb-true (length A) K.width (at_member wide A Xs there.0 widths)))
      (and_from (ps A) (at A) there.1 (at_member at A Xs there.0 sizes)))
      (λ A h.
      let there = of_filter (λ P. ps P && at P) A (all_sets K.width) h in
      let both = and_parts (ps A) (at A) there.1 in
      let wa : length A ≡ K.width = eqb-true (length A) K.width (at_member wide A (all_sets K.width) there.0 (all_sets_widths K.width)) in
      in_filter ps A Xs (subst (λ Zs. list_any (same A) Zs ≡ true) (sym is)
      (in_filter at A old (candidate_here old A l w wa both.0 (eqb-true (size A) k both.1)) both.1)) both.0)

  level_found : (old Xs : List Set) → LeadsAll S K k found old → AreWide K.width old → Xs ≡ filter (λ X. eqb (size X) k) old
      → increasing Xs ≡ true
      → members_of (map (judged S K found) Xs) ≡ level_of S K k
  level_found old Xs l w is up =
      answers_are Xs
      (subst (λ Zs. AreWide K.width Zs) (sym is) (list_all-filter_kept (λ X. eqb (length X) K.width) (λ X. eqb (size X) k) old w))
      (subst (λ Zs. list_all (λ X. eqb (size X) k) Zs ≡ true) (sym is) (filter_passes (λ X. eqb (size X) k) old))
      ∙ ap (map (λ P. rule P (closure K P))) (candidates_are old Xs l w is up) ∙ level_is S K k

  pub level_opens : (old new Xs : List Set) (members : List Rule) → LeadsAll S K k found old → AreWide K.width old
      → Xs ≡ filter (λ X. eqb (size X) k) old → increasing Xs ≡ true
      → IsSettled S K k found Xs new → Grows K.width old new → members ≡ members_of (map (judged S K found) Xs)
      → IsOpened S K k found members new
  level_opens old new Xs members l w is up st more e = record {
    members_are = e ∙ level_found old Xs l w is up;
    onward = subst (λ os. LeadsOn S K k found os new) (sym e) (λ P ep s a f le.
        let M = list_any (λ q. within q.premise P) (members_of (map (judged S K found) Xs)) in
        elim (or_cases (leads (suc k) old P) (list_any (λ X. within X P) (filter (λ X. eqb (size X) k) old))
        (split_leads k P old (l P ep s a f (omega arith)))) [
          | inl later ↦ or_right M (leads (suc k) new P) (more.kept (λ X. leb (suc k) (size X) && within X P) later)
          | inr here ↦ elim (or_cases (list_any (λ X. not (is_some (judged S K found X)) && within X P) Xs) M
              (by_answer S K found P Xs (subst (λ Zs. list_any (λ X. within X P) Zs ≡ true) (sym is) here))) [
                | inl other ↦ or_right M (leads (suc k) new P) (st P ep s a f le other)
                | inr member ↦ or_left M (leads (suc k) new P) member
              ]
        ]);
  }

  -- the closure of a member of the level: closed, and no smaller than the level
  abbrev closes : Rule → Bool
  closes i = (eqb (length i.conclusion) K.width && is_closed K i.conclusion) && leb k (size i.conclusion)

  level_closes : list_all closes (level_of S K k) ≡ true
  level_closes = level_all S K k closes (λ P e q t.
      let C = closure K P in
      and_from (eqb (length C) K.width && is_closed K C) (leb k (size C))
      (and_from (eqb (length C) K.width) (is_closed K C) (eq-eqb (length C) K.width (length-closure K P))
      (same_from C (closure K C) (sym (closure_idempotent K P e))))
      (le-leb k (size C) (omega (arith, size_mono P C (closure_extensive K P e)))))

  -- once the members are found, and their closures have grown
  pub leads_next : (members : List Rule) (mid new : List Set) → IsOpened S K k found members mid
      → HaveLarger (map (λ i. i.conclusion) members) new → Grows K.width mid new → LeadsAll S K (suc k) (found ++ members) new
  leads_next members mid new opened grown more P e s a f le =
      let parts = and_parts (respects_all found P) (respects_all members P) (sym (list_all-append (respects P) found members) ∙ a) in
      let Cs = map (λ (i : Rule). i.conclusion) members in
      let good : Rule → Bool = λ i. respects P i && (closes i && list_any (same i.conclusion) Cs) in
      elim (or_cases (list_any (λ q. within q.premise P) members) (leads (suc k) mid P) (opened.onward P e s parts.0 f le)) [
        | inl q ↦
            let all_close : list_all closes members ≡ true =
            subst (λ zs. list_all closes zs ≡ true) (sym opened.members_are) level_closes in
            let i = list_any_at (λ q. within q.premise P) good members q
            (list_all-and (respects P) (λ i. closes i && list_any (same i.conclusion) Cs) members parts.1
            (list_all-and closes (λ i. list_any (same i.conclusion) Cs) members all_close
            (each_image (λ (i : Rule). i.conclusion) members))) in
            let C = i.0.conclusion in
            let goods = and_parts (respects P i.0) (closes i.0 && list_any (same C) Cs) i.2 in
            let more_goods = and_parts (closes i.0) (list_any (same C) Cs) goods.1 in
            let close = and_parts (eqb (length C) K.width && is_closed K C) (leb k (size C)) more_goods.0 in
            let shape = and_parts (eqb (length C) K.width) (is_closed K C) close.0 in
            let w : length C ≡ K.width = eqb-true (length C) K.width shape.0 in
            larger_leads S K C P k new w e shape.1 f (respects_at P i.0 goods.0 i.1) (leb-true k (size C) close.1)
            (subst (λ n. HasLarger C n new) w (grown C more_goods.1))
        | inr there ↦ more.kept (λ X. leb (suc k) (size X) && within X P) there
      ]

-- ---- the first candidate

pub leads_first : (S : List Rule) (K : Context) (found : List Rule) (Xs : List Set) → Xs ≡ replicate K.width false ∷ []
    → LeadsAll S K 0 found Xs
leads_first S K found Xs is P e _ _ _ le =
    let E : Set = replicate K.width false in
    leads_by 0 E P Xs (subst (λ Zs. Has E Zs) (sym is) (or_left (same E E) false (same_refl E))) (omega arith) (within-empty K.width P)

pub first_wide : (K : Context) (Xs : List Set) → Xs ≡ replicate K.width false ∷ [] → AreWide K.width Xs
first_wide K Xs is =
    let E : Set = replicate K.width false in
    subst (λ Zs. AreWide K.width Zs) (sym is) (and_from (eqb (length E) K.width) true
    (eq-eqb (length E) K.width (length-replicate K.width false)) refl)

-- ---- the loop over the sizes

pub levels_none : (S : List Rule) (K : Context) → [] ≡ levels_below 0 S K
unfolding levels_below
levels_none S K = refl

pub levels_next : (S : List Rule) (K : Context) (k : ℕ) (found members more : List Rule) → found ≡ levels_below k S K
    → members ≡ level_of S K k → more ≡ found ++ members → more ≡ levels_below (k + 1) S K
unfolding levels_below
levels_next S K k found members more a b c =
    let next : suc k ≡ k + 1 = omega arith in
    c ∙ ap₂ (λ xs ys. xs ++ ys) a b ∙ ap (λ j. levels_below j S K) next

pub leads_more : (S : List Rule) (K : Context) (k : ℕ) (found members more : List Rule) (mid new : List Set) → HasBelow S K k found
    → IsOpened S K k found members mid → HaveLarger (map (λ i. i.conclusion) members) new → Grows K.width mid new
    → more ≡ found ++ members → LeadsAll S K (k + 1) more new
leads_more S K k found members more mid new below opened grown grows e =
    let next : suc k ≡ k + 1 = omega arith in
    subst (λ m. LeadsAll S K m more new) next (subst (λ js. LeadsAll S K (suc k) js new) (sym e)
    (leads_next S K k found below members mid new opened grown grows))

pub levels_all : (S : List Rule) (K : Context) (k : ℕ) (found : List Rule) → k ≡ K.width + 1 → found ≡ levels_below k S K
    → found ≡ by_size S K
unfolding by_size
levels_all S K k found e f = let n : k ≡ suc K.width = omega arith in f ∙ ap (λ j. levels_below j S K) n

pub found_below : (S : List Rule) (K : Context) (k : ℕ) (found : List Rule) → found ≡ levels_below k S K → HasBelow S K k found
found_below S K k found e = subst (λ zs. HasBelow S K k zs) (sym e) (has_below S K k)

-- the members of a level have the width, and so have their conclusions
pub members_wide : (S : List Rule) (K : Context) (k : ℕ) (members : List Rule) → members ≡ level_of S K k → HaveWidth K.width members
members_wide S K k members e = subst (λ zs. HaveWidth K.width zs) (sym e) (level_all S K k (has_width K.width) (λ P w q s.
    and_from (eqb (length P) K.width) (eqb (length (closure K P)) K.width) (eq-eqb (length P) K.width w)
    (eq-eqb (length (closure K P)) K.width (length-closure K P))))

pub conclusions_grow : (S : List Rule) (K : Context) (k : ℕ) (members : List Rule) (Cs old new : List Set) → members ≡ level_of S K k
    → Cs ≡ map (λ i. i.conclusion) members → ((n : ℕ) → AreWide n Cs → Grows n old new) → Grows K.width old new
conclusions_grow S K k members Cs old new e c more =
    let wide = level_all S K k (λ i. eqb (length i.conclusion) K.width)
    (λ P w q s. eq-eqb (length (closure K P)) K.width (length-closure K P)) in
    let cs = c ∙ ap (map (λ (i : Rule). i.conclusion)) e in
    more K.width (subst (λ Zs. AreWide K.width Zs) (sym cs)
    (list_all-map (λ X. eqb (length X) K.width) (λ (i : Rule). i.conclusion) (level_of S K k) ∙ wide))
