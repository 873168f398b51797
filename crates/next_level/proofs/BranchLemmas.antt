-- The branches of a walk, and what they have together.
use Rattle.std.proofs.Common.{◌≡◌, ℕ, zero, suc, min, ◌+◌, ◌-◌, ◌<◌, ◌≤◌, Bool, true, false, not, ◌&&◌, List, [], ◌∷◌, ◌++◌, length, filter}
use Rattle.std.proofs.Common.{replicate, get_or, get_or-set_same, set, refl, sym, ap, ap₂, ◌∙◌, subst, arith, inl, inr, leb, Less}
use Rattle.std.proofs.lemmas.Bool.{false≢true, and_parts, and_from, cases_Bool, cases_lt, or_cases}
use Rattle.std.proofs.lemmas.List.Folds.{list_all-append}
use Rattle.std.proofs.lemmas.List.FromFn.{length-range_with_len}
use Rattle.std.proofs.lemmas.Simd.{length-replicate}
use Rattle.std.proofs.lemmas.Slice.Zip.{AllZip-long}
use Rattle.std.specs.List.{AllZip, range_with_len}
use Rattle.std.specs.Prelude.{map, IfOk, Ok, Err, MatchResult}
use Rattle.std.specs.declared.result.Result.{Result}
use Rattle.std.specs.declared.vec.Vec.{Vec}
use Rattle.std.specs.Ordering.{is_lt}
use Rattle.fca_model.specs.Sets.{Set, within, size, lectic_cmp, agree_before}
use Rattle.fca_model.specs.Context.{Context}
use Rattle.fca_model.specs.Implications.{Rule, respects, respects_all}
use Rattle.fca_model.proofs.SetLemmas.{within_refl, set_within, size_mono, lectic_flip, agree_at}
use Rattle.fca_model.proofs.ListLemmas.{bool_iff}
use Rattle.fca_model.proofs.ClosureLemmas.{respects_at, respects_from}
use Rattle.implication_closure.specs.Closing.{RuleList, IsClosure}
use Rattle.lectic_basis.specs.Trees.{before, up_to}
use Rattle.lectic_basis.specs.Watches.{Watched, IsFiled, IsGood, IsPutBefore, Differs}
use Rattle.lectic_basis.proofs.PlaceLemmas.{agree_less, agree_more, agree_same, agree_with, agree_not_before, agree_up_to, up_to_agree}
use Rattle.lectic_basis.proofs.PlaceLemmas.{up_to_member}
use Rattle.lectic_basis.proofs.PlaceLemmas.{before_same, before_comes_first, child_before, child_up_to, within_not_before}
use Rattle.lectic_basis.proofs.ListingLemmas.{no_more, only}
use Rattle.lectic_basis.proofs.WaitLemmas.{push_filed, push_covers}
use Rattle.next_level.specs.NextLevel.{IsOpen, everything, open_where}
use Rattle.next_level.specs.Among.{AreAmong}
use Rattle.next_level.specs.Branches.{IsRoot, AreOpen, HasParts, in_branch, in_part, in_parts, part_at}
use Rattle.next_level.specs.LevelWalks.{IsInside, IsVisit, IsTrying}
use Rattle.next_level.specs.declared.open_sets.OpenSets.{OpenSets}
use Rattle.next_level.proofs.LevelWalkLemmas.{root_inside, inside_entered}
use Rattle.next_level.proofs.NextLevelLemmas.{same_where, nothing_open, none_listed, other_where, open_append, open_lower, closure_has}

-- ---- the sets of a branch

module _ (A : Set) (i : ℕ) (inside : i < length A) where
  -- A has attribute i
  branch_member : (X : Set) → get_or A i false ≡ true → in_branch i A X ≡ false
  branch_member X has = ap (λ a. not a && agree_before (suc i) (set A i true) X) has

  -- A lacks it
  branch_is : (X : Set) → get_or A i false ≡ false → in_branch i A X ≡ agree_before (suc i) (set A i true) X
  branch_is X lacks = ap (λ a. not a && agree_before (suc i) (set A i true) X) lacks

  -- they have it, and agree with A before it
  pub branch_parts : (X : Set) → in_branch i A X ≡ true → (get_or X i false ≡ true) × (agree_before i A X ≡ true)
  branch_parts X h =
      let agree : agree_before (suc i) (set A i true) X ≡ true =
      (and_parts (not (get_or A i false)) (agree_before (suc i) (set A i true) X) h).1 in (
        sym (agree_at (suc i) (set A i true) X agree i (omega arith)) ∙ get_or-set_same A i true false inside,
        sym (agree_same i A (set A i true) X (agree_with i A)) ∙ agree_less i (suc i) (set A i true) X (omega arith) agree,
      )

  -- a branch with no open set
  pub branch_none : (J : List Rule) (K : Context) (b : ℕ) (L : List Rule)
      → ((X : Set) → IsOpen J K everything X → size X ≤ b → get_or X i false ≡ true → agree_before i A X ≡ false) → L ≡ []
      → L ≡ open_where J K b (in_branch i A)
  branch_none J K b L none = nothing_open J K b (in_branch i A) L (λ X x s. elim (cases_Bool (in_branch i A X)) [
    | inl there ↦ let parts = branch_parts X there in absurd (false≢true (sym (none X x s parts.0) ∙ parts.1))
    | inr not_there ↦ not_there
  ])

  pub branch_taken : (J : List Rule) (K : Context) (b : ℕ) (L : List Rule) → get_or A i false ≡ true → L ≡ []
      → L ≡ open_where J K b (in_branch i A)
  branch_taken J K b L has = nothing_open J K b (in_branch i A) L (λ X x s. branch_member X has)

-- ---- the least set

module _ {K : Context} {L : RuleList} {A : Set} (root : IsRoot K L A) where
  pub root_wide : length A ≡ K.width
  root_wide = root.closure.wide ∙ length-replicate K.width false

  module _ {F : Watched} (list : F.list ≡ L) (filed : IsFiled L.width L.members F.buckets) (good : IsGood L.members F.buckets A) where
    pub root_at : (from : ℕ) → from ≤ K.width → IsInside K A from F
    root_at = root_inside K A F (ap (λ (M : RuleList). M.width) list ∙ root.width)
        (subst (λ (M : RuleList). IsClosure M.members (replicate K.width false) A) (sym list) root.closure)
        (subst (λ (M : RuleList). IsFiled M.width M.members F.buckets) (sym list) filed)
        (subst (λ (M : RuleList). IsGood M.members F.buckets A) (sym list) good)

-- the walk of what agrees with the least set before an attribute
pub root_entered : {K : Context} {A : Set} {from : ℕ} {F : Watched} → IsInside K A from F → IsInside K A 0 F → (c : ℕ) (Ls : List Rule)
    → Ls ≡ [] → IsVisit K A from F c Ls
root_entered at root = inside_entered at (λ X x. root.least X x.wide x.respecting refl)

-- ---- below the least set

module _ {K : Context} {A : Set} {F : Watched} (root : IsInside K A 0 F) (i : ℕ) (lt : i < K.width) (lacks : get_or A i false ≡ false) where
  abbrev J : List Rule
  J = F.list.members

  has_i : i < length A
  has_i = let w = root.wide in omega (arith, w, lt)

  -- all contain A
  above : (X : Set) → IsOpen J K everything X → within A X ≡ true
  above X x = root.least X x.wide x.respecting refl

  pub branch_trying : (b : ℕ) → IsTrying K A i F b (open_where J K b (up_to (suc i) A))
  branch_trying b = record {
    at = record {
      width = root.width;
      wide = root.wide;
      respecting = root.respecting;
      least = λ X e r h. root.least X e r refl;
      inside = omega (arith, lt);
      filed = root.filed;
      good = root.good;
    };
    listed = refl;
    inside = lt;
  }

  -- where each set that has the attribute and respects the list differs from A before it
  pub branch_differs : (b : ℕ) (Y : Set) (L : List Rule) → Y ≡ set A i true → Differs J i A Y → L ≡ []
      → L ≡ open_where J K b (in_branch i A)
  branch_differs b Y L y differs = branch_none A i has_i J K b L
      (λ X x s has. differs X (subst (λ Z. within Z X ≡ true) (sym y) (set_within A X i (above X x) has)) x.respecting)

  module _ (C : Set) (c : IsClosure J (set A i true) C) where
    -- they contain the closure
    contain : (X : Set) → within A X ≡ true → respects_all J X ≡ true → get_or X i false ≡ true → within C X ≡ true
    contain X up r has = c.least X (set_within A X i up has) r

    -- where they are larger than the bound
    pub branch_larger : (b : ℕ) (L : List Rule) → b < size C → L ≡ [] → L ≡ open_where J K b (in_branch i A)
    branch_larger b L gt = branch_none A i has_i J K b L
        (λ X x s has. absurd (let le = size_mono C X (contain X (above X x) x.respecting has) in omega (arith, le, s, gt)))

    module _ (agree : agree_before i A C ≡ true) (r : Rule) (premise : r.premise ≡ A) (conclusion : r.conclusion ≡ C) where
      abbrev I : List Rule
      I = J ++ r ∷ []

      -- what respects the list with the implication more
      parts_of : (X : Set) → respects_all I X ≡ true → (respects_all J X ≡ true) × (respects X r ≡ true)
      parts_of X h = let both = and_parts (respects_all J X) (respects X r && true) (sym (list_all-append (respects X) J (r ∷ [])) ∙ h) in
          (both.0, (and_parts (respects X r) true both.1).0)

      both_of : (X : Set) → respects_all J X ≡ true → within C X ≡ true → respects_all I X ≡ true
      both_of X h up = list_all-append (respects X) J (r ∷ []) ∙ and_from (respects_all J X) (respects X r && true) h
          (and_from (respects X r) true (respects_from X r (λ _. subst (λ Y. within Y X ≡ true) (sym conclusion) up)) refl)

      over : (X : Set) → length X ≡ K.width → respects_all I X ≡ true → within C X ≡ true
      over X e h =
          let both = parts_of X h in
          subst (λ Y. within Y X ≡ true) conclusion (respects_at X r both.1
          (subst (λ Y. within Y X ≡ true) (sym premise) (root.least X e both.0 refl)))

      has_c : get_or C i false ≡ true
      has_c = closure_has J K.width A root.wide i lt C c

      same_branch : (X : Set) → agree_before (suc i) C X ≡ agree_before (suc i) (set A i true) X
      same_branch X = agree_same (suc i) (set A i true) C X
          (agree_more i (set A i true) C (agree_same i A (set A i true) C (agree_with i A) ∙ agree)
          (get_or-set_same A i true false has_i ∙ sym has_c))

      -- the branch, where the least of it is put to the list
      pub branch_listed : (b : ℕ) (L : List Rule) → L ≡ open_where I K b (up_to (suc i) C) → L ≡ open_where J K b (in_branch i A)
      branch_listed b L = other_where I J K b (up_to (suc i) C) (in_branch i A) L
          (λ X e. bool_iff (respects_all I X && up_to (suc i) C X) (respects_all J X && in_branch i A X)
          (λ h.
          let here = and_parts (respects_all I X) (up_to (suc i) C X) h in
          let at : agree_before (suc i) C X ≡ true = up_to_agree (suc i) C X here.1 (within_not_before (suc i) C X (over X e here.0)) in
          and_from (respects_all J X) (in_branch i A X) (parts_of X here.0).0 (branch_is A i has_i X lacks ∙ sym (same_branch X) ∙ at))
          (λ h.
          let here = and_parts (respects_all J X) (in_branch i A X) h in
          let has = (branch_parts A i has_i X here.1).0 in
          and_from (respects_all I X) (up_to (suc i) C X) (both_of X here.0 (contain X (root.least X e here.0 refl) here.0 has))
          (agree_up_to (suc i) C X (same_branch X ∙ sym (branch_is A i has_i X lacks) ∙ here.1))))

      module _ {H : Watched} (at : IsInside K C (i + 1) H) (same_list : H.list ≡ F.list) (G : Watched)
          (list : G.list ≡ record { width = H.list.width; members = H.list.members ++ r ∷ [] })
          (put : IsPutBefore 0 H.buckets G.buckets r) where
        -- the walk of the branch
        pub branch_inside : IsInside K C (i + 1) G
        branch_inside = record {
          width = ap (λ (M : RuleList). M.width) list ∙ at.width;
          wide = at.wide;
          respecting = subst (λ (M : RuleList). respects_all M.members C ≡ true) (sym list)
              (list_all-append (respects C) H.list.members (r ∷ [])
              ∙ and_from (respects_all H.list.members C) (respects C r && true) at.respecting (and_from (respects C r) true mine refl));
          least = λ X e h. at.least X e
              (and_parts (respects_all H.list.members X) (respects X r && true)
              (sym (list_all-append (respects X) H.list.members (r ∷ []))
              ∙ subst (λ (M : RuleList). respects_all M.members X ≡ true) list h)).0;
          inside = at.inside;
          filed = subst (λ (M : RuleList). IsFiled M.width M.members G.buckets) (sym list)
              (push_filed H.list.width H.list.members H.buckets G.buckets 0 r put at.filed (λ k e. absurd (omega (arith, e))));
          good = subst (λ (M : RuleList). IsGood M.members G.buckets C) (sym list)
              (push_covers H.list.width H.list.members H.buckets G.buckets 0 r put C C at.good (within_refl C) inner);
        }
          where
            inner : within r.conclusion C ≡ true
            inner = subst (λ Y. within Y C ≡ true) (sym conclusion) (within_refl C)

            mine : respects C r ≡ true
            mine = respects_from C r (λ _. inner)

        same_members : G.list.members ≡ I
        same_members = ap (λ (M : RuleList). M.members) list ∙ ap (λ (M : RuleList). M.members ++ r ∷ []) same_list

        pub branch_entered : (b : ℕ) (Ls : List Rule) → Ls ≡ [] → IsVisit K C (i + 1) G b Ls
        branch_entered = inside_entered branch_inside
            (λ X x. over X x.wide (subst (λ M. respects_all M X ≡ true) same_members x.respecting))

        pub branch_among : (whole : Bool) (sets : List Set) → AreAmong H.list.members K C (i + 1) whole sets
            → AreAmong G.list.members K C (i + 1) whole sets
        branch_among whole sets among X x = among X (record {
          wide = x.wide;
          respecting = subst (λ (M : RuleList). respects_all M.members X ≡ true) (sym same_list)
              (parts_of X (subst (λ M. respects_all M X ≡ true) same_members x.respecting)).0;
          not_closed = x.not_closed;
          passes = x.passes;
        })

        pub branch_done : (b : ℕ) (L : List Rule) (list_after : RuleList) → list_after ≡ G.list
            → L ≡ open_where list_after.members K b (up_to (i + 1) C) → L ≡ open_where J K b (in_branch i A)
        branch_done b L after same_after l =
            let next : i + 1 ≡ suc i = omega arith in
            branch_listed b L (subst (λ M. L ≡ open_where M K b (up_to (suc i) C))
            (ap (λ (M : RuleList). M.members) same_after ∙ same_members)
            (subst (λ k. L ≡ open_where after.members K b (up_to k C)) next l))

-- ---- one branch after the other

module _ (J : List Rule) (K : Context) (A : Set) (i : ℕ) (inside : i < length A) where
  -- what comes before the branch, and the branch
  pub branch_append : (b : ℕ) (L M : List Rule) → L ≡ open_where J K b (up_to (suc i) A) → M ≡ open_where J K b (in_branch i A)
      → L ++ M ≡ open_where J K b (up_to i A)
  branch_append b L M l m = elim (cases_Bool (get_or A i false)) [
    | inl has ↦ open_append J K b (up_to i A) (in_branch i A) L M
        (λ X Z less p q. absurd (false≢true (sym (branch_member A i inside X has) ∙ q)))
        (same_where J K b (up_to (suc i) A) (λ X. up_to i A X && not (in_branch i A X)) L
        (λ X e r n s. up_to_member i A X has ∙ sym (all_of (up_to i A X) (in_branch i A X) (branch_member A i inside X has))) l)
        (same_where J K b (in_branch i A) (λ X. up_to i A X && in_branch i A X) M
        (λ X e r n s. sym (none_of (up_to i A X) (in_branch i A X) (branch_member A i inside X has))) m)
    | inr lacks ↦
        let C : Set = set A i true in
        let k : ℕ = suc i in
        let has : get_or C i false ≡ true = get_or-set_same A i true false inside in
        let up : (X : Set) → up_to i A X ≡ up_to k C X = λ X. sym (child_up_to i A C X lacks has (agree_with i A)) in
        open_append J K b (up_to i A) (in_branch i A) L M
        (λ X Z less p q t. branch_is A i inside Z lacks ∙ last k C X Z less (sym (branch_is A i inside X lacks) ∙ q) (sym (up Z) ∙ t))
        (same_where J K b (up_to k A) (λ X. up_to i A X && not (in_branch i A X)) L
        (λ X e r n s. sym (child_before i A C X lacks has (agree_with i A))
        ∙ sym (no_more (before k C X) (agree_before k C X) (agree_not_before k C X))
        ∙ sym (ap₂ (λ u v. u && not v) (up X) (branch_is A i inside X lacks))) l)
        (same_where J K b (in_branch i A) (λ X. up_to i A X && in_branch i A X) M
        (λ X e r n s. branch_is A i inside X lacks ∙ sym (only (before k C X) (agree_before k C X))
        ∙ sym (ap₂ (λ u v. u && v) (up X) (branch_is A i inside X lacks))) m)
  ]
    where
      all_of : (u v : Bool) → v ≡ false → (u && not v) ≡ u
      all_of true v e = ap not e
      all_of false v e = refl

      none_of : (u v : Bool) → v ≡ false → (u && v) ≡ v
      none_of true v e = refl
      none_of false v e = sym e

      -- behind a set of the branch only others of it come
      last : (k : ℕ) (C X Z : Set) → is_lt (lectic_cmp X Z) ≡ true → agree_before k C X ≡ true → up_to k C Z ≡ true
          → agree_before k C Z ≡ true
      last k C X Z less x z = elim (or_cases (before k C Z) (agree_before k C Z) z) [
        | inl first ↦
            let back : lectic_cmp Z X ≡ Less = before_comes_first k X Z (before_same k C X Z x ∙ first) in
            absurd (false≢true (sym (ap is_lt (lectic_flip X Z back)) ∙ less))
        | inr there ↦ there
      ]

-- ---- where bounds differ

no_parts : {X : Type 0} (xs ys : List X) → xs ++ ys ≡ [] → (xs ≡ []) × (ys ≡ [])
no_parts [] ys e = (refl, e)
no_parts (x ∷ xs) ys e = absurd (cc)

module _ (J : List Rule) (K : Context) (p q : Set → Bool) (a b c : ℕ) (L M N : List Rule) (l : L ≡ open_where J K a p)
    (m : M ≡ open_where J K b q) (least : c ≡ min a b)
    (parts : N ≡ filter (λ i. leb (size i.premise) c) L ++ filter (λ i. leb (size i.premise) c) M) where
  at_a : c ≤ a
  at_a = omega (arith, least)

  at_b : c ≤ b
  at_b = omega (arith, least)

  lower_first : filter (λ i. leb (size i.premise) c) L ≡ open_where J K c p
  lower_first = open_lower J K a c p L at_a l

  lower_second : filter (λ i. leb (size i.premise) c) M ≡ open_where J K c q
  lower_second = open_lower J K b c q M at_b m

  -- while nothing is listed the bound stays
  lower_steady : (d : ℕ) → (L ≡ [] → a ≡ d) → (M ≡ [] → b ≡ d) → N ≡ [] → c ≡ d
  lower_steady d s t none =
      let both = no_parts (filter (λ i. leb (size i.premise) c) L) (filter (λ i. leb (size i.premise) c) M) (sym parts ∙ none) in
      elim (cases_lt a b) [
        | inl lt ↦ let same_bound : c ≡ a = omega (arith, least, lt) in
            same_bound ∙ s (l ∙ subst (λ k. open_where J K k p ≡ filter (λ i. leb (size i.premise) c) L) same_bound (sym lower_first)
            ∙ both.0)
        | inr ge ↦ let same_bound : c ≡ b = omega (arith, least, ge) in
            same_bound ∙ t (m ∙ subst (λ k. open_where J K k q ≡ filter (λ i. leb (size i.premise) c) M) same_bound (sym lower_second)
            ∙ both.1)
      ]

-- ---- the parts

module _ (J : List Rule) (K : Context) (A : Set) (n : ℕ) (inside : n ≤ length A) where
  pub parts_start : (d b : ℕ) (L : List Rule) → b ≡ d → L ≡ [] → AreOpen J K (in_parts n 0 A) d b L
  parts_start d b L same_bound none = record {
    listed = nothing_open J K b (in_parts n 0 A) L (λ X x s. refl) none;
    steady = λ e. same_bound;
  }

  one_more : (k : ℕ) → k ≤ n → (b : ℕ) (L M : List Rule) → L ≡ open_where J K b (in_parts n k A) → M ≡ open_where J K b (in_part n k A)
      → L ++ M ≡ open_where J K b (in_parts n (suc k) A)
  one_more zero le b L M l m =
      let whole : n - 0 ≡ n = omega arith in
      subst (λ k. L ++ M ≡ open_where J K b (up_to k A)) (sym whole) (ap (λ Zs. Zs ++ M) (none_listed J K b L l) ∙ m)
  one_more (suc k) le b L M l m =
      let i : ℕ = n - suc k in
      let next : n - k ≡ suc i = omega (arith, le) in
      branch_append J K A i (omega (arith, le, inside)) b L M (subst (λ m. L ≡ open_where J K b (up_to m A)) next l) m

  -- the parts before, and the next one, up to the lower of both bounds
  pub parts_more : (k : ℕ) → k ≤ n → (d : ℕ) {a b : ℕ} {L M : List Rule} → AreOpen J K (in_parts n k A) d a L
      → AreOpen J K (in_part n k A) d b M
      → (c : ℕ) (N : List Rule) → c ≡ min a b → N ≡ filter (λ i. leb (size i.premise) c) L ++ filter (λ i. leb (size i.premise) c) M
      → AreOpen J K (in_parts n (suc k) A) d c N
  parts_more k le d {a = a} {b = b} {L = L} {M = M} l m c N least parts = record {
    listed = parts ∙ one_more k le c _ _
        (lower_first J K (in_parts n k A) (in_part n k A) a b c L M N l.listed m.listed least parts)
        (lower_second J K (in_parts n k A) (in_part n k A) a b c L M N l.listed m.listed least parts);
    steady = lower_steady J K (in_parts n k A) (in_part n k A) a b c L M N l.listed m.listed least parts d l.steady m.steady;
  }

  -- all parts have all sets
  pub all_parts : (b : ℕ) (L : List Rule) → L ≡ open_where J K b (in_parts n (n + 1) A) → L ≡ open_where J K b everything
  all_parts b L = same_where J K b (in_parts n (n + 1) A) everything L (λ X e r c s.
      let next : suc n ≡ n + 1 = omega arith in
      let none : 0 ≡ n - n = omega arith in
      subst (λ k. in_parts n k A X ≡ true) next (subst (λ k. up_to k A X ≡ true) none refl))

-- ---- the parts in a list

-- what holds of numbers and a list, at a place
numbered_at : {X : Type 0} (P : ℕ → X → Type 0) (a n : ℕ) (xs : List X) → AllZip P (range_with_len a n) xs → (k : ℕ) (d : X) → k < n
    → P (a + k) (get_or xs k d)
numbered_at P a zero xs h k d lt = absurd (omega (arith, lt))
numbered_at P a (suc n) [] h k d lt = absurd h
numbered_at P a (suc n) (x ∷ xs) h zero d lt =
    let same : a ≡ a + 0 = omega arith in
    subst (λ i. P i x) same h.0
numbered_at P a (suc n) (x ∷ xs) h (suc k) d lt =
    let same : (a + 1) + k ≡ a + suc k = omega arith in
    subst (λ i. P i (get_or xs k d)) same (numbered_at P (a + 1) n xs h.1 k d (omega (arith, lt)))

-- what holds of numbers and results, where each result is `Ok`
in_each : {X Y : Type 0} (E : Type 0) (P : X → Y → Type 0) (ks : List X) (ys : List Y) → AllZip (λ k (r : Result Y E). IfOk r (P k)) ks (map Ok ys)
    → AllZip P ks ys
in_each E P [] [] h = tt
in_each E P [] (y ∷ ys) h = absurd h
in_each E P (k ∷ ks) [] h = absurd h
in_each E P (k ∷ ks) (y ∷ ys) h = (h.0, in_each E P ks ys h.1)

-- the results of the parts, collected
pub parts_told : (J : List Rule) (K : Context) (A : Set) (n b : ℕ) {W : ℕ} {Z E : Type 0} (Q : E → Type 0) (ks : List ℕ)
    (rs : List (Result (OpenSets W) E)) (r : Result (Vec (OpenSets W) Z) E) → ks ≡ range_with_len 0 (n + 1)
    → AllZip (λ k (s : Result (OpenSets W) E). IfOk s (λ sets. AreOpen J K (in_part n (part_at n k) A) b sets.bound sets.members.items)) ks rs
    → MatchResult r (λ v. (ys : List (OpenSets W)) × (rs ≡ map Ok ys) × (v.items ≡ ys)) Q
    → IfOk r (λ v. HasParts J K n A b v.items)
parts_told J K A n b {W = W} {E = E} Q ks rs (Ok v) numbers each m =
    subst (HasParts J K n A b) (sym m.2)
    (subst (λ is. AllZip (λ k sets. AreOpen J K (in_part n (part_at n k) A) b sets.bound sets.members.items) is m.0) numbers
    (in_each E (λ k (sets : OpenSets W). AreOpen J K (in_part n (part_at n k) A) b sets.bound sets.members.items) ks m.0
    (subst (AllZip (λ k (s : Result (OpenSets W) E). IfOk s (λ sets. AreOpen J K (in_part n (part_at n k) A) b sets.bound sets.members.items)) ks)
    m.1 each)))
parts_told J K A n b Q ks rs (Err e) numbers each m = tt

module _ (J : List Rule) (K : Context) (A : Set) (n b : ℕ) {W : ℕ} (parts : List (OpenSets W)) (all : HasParts J K n A b parts) where
  pub parts_long : length parts ≡ n + 1
  parts_long = AllZip-long _ _ _ all ∙ length-range_with_len 0 (n + 1)

  pub open_at : (k : ℕ) (part : OpenSets W) → k < length parts → part ≡ get_or parts k part
      → AreOpen J K (in_part n (part_at n k) A) b part.bound part.members.items
  open_at k part inside is =
      let from_none : 0 + k ≡ k = omega arith in
      subst (λ s. AreOpen J K (in_part n (part_at n k) A) b s.bound s.members.items) (sym is)
      (subst (λ i. AreOpen J K (in_part n (part_at n i) A) b (get_or parts k part).bound (get_or parts k part).members.items) from_none
      (numbered_at (λ i s. AreOpen J K (in_part n (part_at n i) A) b s.bound s.members.items) 0 (n + 1) parts all k part
      (omega (arith, inside, parts_long))))
