-- The steps of the walk for the next level. A set that is as large as the bound has nothing below it that is looked for; one that is not
-- closed joins the list; below each set the attributes that it lacks are tried, the last first.
use Rattle.std.proofs.Common.{◌≡◌, ℕ, suc, ◌+◌, ◌<◌, ◌≤◌, Bool, true, false, not, ◌&&◌, List, [], ◌∷◌, ◌++◌, length, filter, get_or}
use Rattle.std.proofs.Common.{get_or-set_same}
use Rattle.std.proofs.Common.{set, replicate, length-set, refl, sym, ap, ◌∙◌, subst, arith, inl, inr, eq-eqb}
use Rattle.std.specs.List.{list_any}
use Rattle.fca_model.specs.Exploration.{first_missing}
use Rattle.fca_model.proofs.SortedLemmas.{in_filter}
use Rattle.fca_model.proofs.ListLemmas.{list_any-mono}
use Rattle.attr_bits.proofs.DifferenceLemmas.{first_missing-from}
use Rattle.std.proofs.lemmas.Bool.{false≢true, and_parts, cases_Bool, not-true, false_from_ne_true}
use Rattle.std.proofs.lemmas.Simd.{length-replicate}
use Rattle.fca_model.specs.Sets.{Set, same, size, within, agree_before}
use Rattle.fca_model.specs.Context.{Context, closure, is_closed}
use Rattle.fca_model.specs.Implications.{Rule, rule, respects_all}
use Rattle.fca_model.proofs.SetLemmas.{same-true, same_from, within_at_place, within_set, within_refl, within_trans, within_antisymm}
use Rattle.fca_model.proofs.SetLemmas.{agree_at}
use Rattle.fca_model.proofs.ClosureLemmas.{length-closure, closure_extensive, closure_monotone, closure_idempotent}
use Rattle.implication_closure.specs.Closing.{RuleList, IsClosure}
use Rattle.extent_blocks.specs.Blocks.{NumberedBlock, IsExtent, IsExtentWith, in_blocks, has_at}
use Rattle.extent_blocks.proofs.ExtentLemmas.{extent_larger, extent_left}
use Rattle.lectic_basis.specs.Trees.{before, up_to}
use Rattle.next_level.specs.NextLevel.{IsLeastUnder, IsOpen, everything, open_where}
use Rattle.next_level.specs.Among.{AreAmong, AllAmong, may_be_open, stands_at}
use Rattle.next_level.specs.LevelWalks.{IsInside, IsVisit, IsBelow, IsTrying, HasListed, IsSteady}
use Rattle.lectic_basis.specs.Watches.{Watched, IsFiled, IsGood, CanClose, HasMoved, IsClosedBefore, Differs}
use Rattle.lectic_basis.proofs.PlaceLemmas.{agree_with, agree_less, agree_same, within_not_before}
use Rattle.lectic_basis.proofs.TreeLemmas.{root_least}
use Rattle.next_level.proofs.NextLevelLemmas as bound
use Rattle.lectic_basis.proofs.WaitLemmas.{kept_good, good_covers}

-- ---- the start

pub root_inside : (K : Context) (A : Set) (F : Watched) → F.list.width ≡ K.width → IsClosure F.list.members (replicate K.width false) A
    → IsFiled F.list.width F.list.members F.buckets → IsGood F.list.members F.buckets A → (from : ℕ) → from ≤ K.width → IsInside K A from F
root_inside K A F width a filed good from inside = record {
  width = width;
  wide = a.wide ∙ length-replicate K.width false;
  respecting = a.respecting;
  least = λ X e r h. root_least F.list.members K A a X r;
  inside = inside;
  filed = filed;
  good = good;
}

-- nothing comes before what all contain
pub inside_entered : {K : Context} {A : Set} {from : ℕ} {F : Watched} → IsInside K A from F
    → ((X : Set) → IsOpen F.list.members K everything X → within A X ≡ true)
    → (b : ℕ) (Ls : List Rule) → Ls ≡ [] → IsVisit K A from F b Ls
inside_entered {K = K} {A = A} {from = from} {F = F} at least b Ls none = record {
  at = at;
  listed = bound.nothing_open F.list.members K b (before from A) Ls (λ X x s. within_not_before from A X (least X x)) none;
}

-- ---- a visit

module _ {K : Context} {A : Set} {from : ℕ} {F : Watched} {b : ℕ} {Ls : List Rule} (e : IsVisit K A from F b Ls) where
  ends : {c : ℕ} {Ms : List Rule} → Ms ≡ open_where F.list.members K c (up_to from A) → HasListed K A from F F c Ms
  ends l = record { list = refl; listed = l; filed = e.at.filed; kept = λ X h good. good }

  -- where the bound fell
  pub enter_lower : (c : ℕ) (Ms : List Rule) → Ms ≡ open_where F.list.members K c (before from A) → IsVisit K A from F c Ms
  enter_lower c Ms l = record { at = e.at; listed = l }

  pub enter_larger : b < size A → HasListed K A from F F b Ls
  enter_larger lt = ends (bound.open_larger F.list.members K A e.at.wide from e.at.inside e.at.least b Ls lt e.listed)

  -- A was seen, and what comes behind it is left
  module _ {c : ℕ} {Ms : List Rule} (seen : Ms ≡ open_where F.list.members K c (up_to K.width A)) where
    pub enter_left : IsBelow K A from F c Ms
    enter_left = record { at = e.at; listed = seen }

    pub enter_done : c ≤ size A → HasListed K A from F F c Ms
    enter_done le = ends (bound.open_branch F.list.members K A e.at.wide from e.at.inside e.at.least c Ms le seen)

  module _ {B : Set} (closure_is : B ≡ closure K A) where
    -- an intent
    pub enter_closed : same B A ≡ true → Ls ≡ open_where F.list.members K b (up_to K.width A)
    enter_closed one = bound.open_closed F.list.members K A e.at.wide from e.at.inside e.at.least b Ls
        (same_from A (closure K A) (sym (same-true B A one) ∙ closure_is)) e.listed

    -- a set that is not closed
    pub enter_open : same B A ≡ false → size A ≤ b → (Ms : List Rule) → Ms ≡ Ls ++ rule A B ∷ []
        → Ms ≡ open_where F.list.members K b (up_to K.width A)
    enter_open differs le Ms is =
        let open_set : is_closed K A ≡ false = false_from_ne_true (is_closed K A)
        (λ t. false≢true (sym differs ∙ same_from B A (closure_is ∙ sym (same-true A (closure K A) t)))) in
        is ∙ ap (λ X. Ls ++ rule A X ∷ []) closure_is
        ∙ bound.open_push F.list.members K A e.at.wide from e.at.inside e.at.least b Ls e.at.respecting open_set le e.listed

-- ---- below a set

-- the set is still inside once some of what is below it was visited
pub inside_later : {K : Context} {A : Set} {from j : ℕ} {F G : Watched} {b : ℕ} {Ls : List Rule} → IsInside K A from F
    → HasListed K A j F G b Ls → IsInside K A from G
inside_later {A = A} at g = record {
  width = ap (λ (M : RuleList). M.width) g.list ∙ at.width;
  wide = at.wide;
  respecting = subst (λ (M : RuleList). respects_all M.members A ≡ true) (sym g.list) at.respecting;
  least = λ X w r agree. at.least X w (subst (λ (M : RuleList). respects_all M.members X ≡ true) g.list r) agree;
  inside = at.inside;
  filed = g.filed;
  good = g.kept A (within_refl A) at.good;
}

-- all behind attribute j - 1 were visited
pub trying : {K : Context} {A : Set} {from j i : ℕ} {F G : Watched} {b : ℕ} {Ls : List Rule} → IsInside K A from F → j ≤ K.width
    → HasListed K A j F G b Ls → j ≡ suc i → from ≤ i
    → IsTrying K A i G b Ls
trying {K = K} {A = A} {from = from} {i = i} {G = G} {b = b} {Ls = Ls} at le g e on =
    let later = inside_later at g in
    record {
      at = record {
        width = later.width;
        wide = later.wide;
        respecting = later.respecting;
        least = λ X w r agree. later.least X w r (agree_less from i A X on agree);
        inside = omega (arith, le, e);
        filed = later.filed;
        good = later.good;
      };
      listed = subst (λ k. Ls ≡ open_where G.list.members K b (up_to k A)) e g.listed;
      inside = omega (arith, le, e);
    }

pub left_start : {K : Context} {A : Set} {from : ℕ} {F : Watched} {b : ℕ} {Ls : List Rule} → IsBelow K A from F b Ls
    → HasListed K A K.width F F b Ls
left_start l = record { list = refl; listed = l.listed; filed = l.at.filed; kept = λ X h good. good }

-- what was visited, from now on
pub level_now : {K : Context} {A : Set} {j : ℕ} {F G : Watched} {b : ℕ} {Ls : List Rule} → HasListed K A j F G b Ls → HasListed K A j G G b Ls
level_now g = record { list = refl; listed = g.listed; filed = g.filed; kept = λ X h good. good }

-- one attribute after the other
pub level_then : {K : Context} {A : Set} {j i : ℕ} {F G H : Watched} {b₀ b : ℕ} {Ls₀ Ls : List Rule} → HasListed K A j F G b₀ Ls₀
    → HasListed K A i G H b Ls → HasListed K A i F H b Ls
level_then x y = record { list = y.list ∙ x.list; listed = y.listed; filed = y.filed; kept = λ X h good. y.kept X h (x.kept X h good) }

module _ {K : Context} {A : Set} {i : ℕ} {G : Watched} {b : ℕ} {Ls : List Rule} (t : IsTrying K A i G b Ls) where
  abbrev inside : i < K.width
  inside = t.inside

  on : i ≤ i
  on = omega arith

  next : suc i ≡ i + 1
  next = omega arith

  -- an attribute that A has
  pub left_member : get_or A i false ≡ true → HasListed K A i G G b Ls
  left_member has = record {
    list = refl;
    listed = bound.member_open G.list.members K i b A Ls has t.listed;
    filed = t.at.filed;
    kept = λ X h good. good;
  }

  -- one that A lacks
  module _ (lacks : get_or A i false ≡ false) {X : Set} (x : X ≡ set A i true) where
    up : within A X ≡ true
    up = subst (λ Y. within A Y ≡ true) (sym x) (within_set A i)

    pub left_can_close : CanClose G i A X
    left_can_close = record {
      done_wide = t.at.wide ∙ sym t.at.width;
      wide = ap length x ∙ length-set A i true ∙ t.at.wide ∙ sym t.at.width;
      above = up;
      agree = subst (λ Y. agree_before i A Y ≡ true) (sym x) (agree_with i A);
      filed = t.at.filed;
      covers = good_covers G.list.members G.buckets A X up t.at.good;
    }

    module _ {H : Watched} (m : HasMoved A G H) where
      good_moved : (Y : Set) → within Y A ≡ true → IsGood G.list.members G.buckets Y → IsGood H.list.members H.buckets Y
      good_moved Y h good = subst (λ (M : RuleList). IsGood M.members H.buckets Y) (sym m.list)
          (kept_good G.list.members G.buckets H.buckets Y (m.kept Y h) good)

      pub left_none : Differs G.list.members i A X → HasListed K A i G H b Ls
      left_none differs = record {
        list = m.list;
        listed = subst (λ (M : RuleList). Ls ≡ open_where M.members K b (up_to i A)) (sym m.list)
            (bound.none_open G.list.members K A i i on t.at.least lacks b Ls
            (λ T o h. differs T (subst (λ Y. within Y T ≡ true) (sym x) h) o.respecting) t.listed);
        filed = m.filed;
        kept = good_moved;
      }

      module _ {C : Set} (c : IsClosedBefore G.list.members H.buckets i A X C) where
        closure_c : IsClosure G.list.members (set A i true) C
        closure_c = subst (λ Y. IsClosure G.list.members Y C) x c.closure

        has_c : get_or C i false ≡ true
        has_c = bound.closure_has G.list.members K.width A t.at.wide i inside C closure_c

        pub left_above : within (set A i true) C ≡ true
        left_above = closure_c.above

        pub left_wide : length C ≡ K.width
        left_wide = bound.closure_wide G.list.members K.width A t.at.wide i inside C closure_c

        up_c : within A C ≡ true
        up_c = within_trans A (set A i true) C (within_set A i) left_above

        pub left_entered : IsVisit K C (i + 1) H b Ls
        left_entered = subst (λ k. IsVisit K C k H b Ls) next (record {
          at = record {
            width = ap (λ (M : RuleList). M.width) m.list ∙ t.at.width;
            wide = left_wide;
            respecting = subst (λ (M : RuleList). respects_all M.members C ≡ true) (sym m.list) closure_c.respecting;
            least = subst (λ (M : RuleList). IsLeastUnder M.members K.width C (suc i)) (sym m.list)
                (bound.closure_least G.list.members K.width A t.at.wide i i on inside t.at.least C closure_c c.agree);
            inside = omega (arith, inside);
            filed = m.filed;
            good = subst (λ (M : RuleList). IsGood M.members H.buckets C) (sym m.list) c.good;
          };
          listed = subst (λ (M : RuleList). Ls ≡ open_where M.members K b (before (suc i) C)) (sym m.list)
              (bound.child_open G.list.members K A i i on t.at.least lacks C has_c c.agree b Ls t.listed);
        })

        pub left_done : {I : Watched} {d : ℕ} {Ms : List Rule} → HasListed K C (i + 1) H I d Ms → HasListed K A i G I d Ms
        left_done {I = I} {d = d} {Ms = Ms} done =
            let same_list : I.list ≡ G.list = done.list ∙ m.list in
            record {
              list = same_list;
              listed = bound.child_done I.list.members K A i i on
                  (subst (λ (M : RuleList). IsLeastUnder M.members K.width A i) (sym same_list) t.at.least) lacks C has_c c.agree d Ms
                  (subst (λ k. Ms ≡ open_where I.list.members K d (up_to k C)) (sym next) done.listed);
              filed = done.filed;
              kept = λ Y h good. done.kept Y (within_trans Y A C h up_c) (good_moved Y h good);
            }

-- ---- among some sets

pub among_start : (J : List Rule) (K : Context) (A : Set) (from : ℕ) (whole : Bool) (sets : List Set) → AllAmong J K whole sets
    → AreAmong J K A from whole sets
among_start J K A from whole sets all X x = all X
    (record { wide = x.wide; respecting = x.respecting; not_closed = x.not_closed; passes = refl })

-- of the same list, from a later attribute on
pub among_from : (J L : RuleList) (K : Context) (A : Set) (from i : ℕ) (whole : Bool) (sets : List Set) → L ≡ J → from ≤ i
    → AreAmong J.members K A from whole sets → AreAmong L.members K A i whole sets
among_from J L K A from i whole sets same_list on among X x =
    among X (record {
      wide = x.wide;
      respecting = subst (λ (M : RuleList). respects_all M.members X ≡ true) same_list x.respecting;
      not_closed = x.not_closed;
      passes = agree_less from i A X on x.passes;
    })

-- the first attribute of a set that another lacks
stands : (A X : Set) (i : ℕ) → get_or A i false ≡ false → agree_before i A X ≡ true → get_or X i false ≡ true
    → stands_at i (first_missing 0 X A) ≡ true
stands A X i lacks agree has = ap (stands_at i) (first_missing-from X A i has lacks (λ j l t. agree_at i A X agree j l ∙ t))
    ∙ eq-eqb i i refl

module _ (J : List Rule) (K : Context) (A : Set) (from i : ℕ) (whole : Bool) (sets : List Set) (among : AreAmong J K A from whole sets)
    (onward : from ≤ i) (lacks : get_or A i false ≡ false) where
  -- an open set of the branch
  module _ (X : Set) (x : IsOpen J K everything X) (agree : agree_before i A X ≡ true) (has : get_or X i false ≡ true) where
    listed : whole ≡ true → list_any (same X) sets ≡ true
    listed e = sym (ap (λ w. may_be_open w sets X) e)
        ∙ among X (record {
          wide = x.wide;
          respecting = x.respecting;
          not_closed = x.not_closed;
          passes = agree_less from i A X onward agree;
        })

    in_part : (part : List Set) → (whole ≡ true → part ≡ filter (λ Y. stands_at i (first_missing 0 Y A)) sets) → (w : Bool) → whole ≡ w
        → may_be_open w part X ≡ true
    in_part part is false e = refl
    in_part part is true e = ap (list_any (same X)) (is e)
        ∙ in_filter (λ Y. stands_at i (first_missing 0 Y A)) X sets (listed e) (stands A X i lacks agree has)

  pub among_below : (part : List Set) → (whole ≡ true → part ≡ filter (λ Y. stands_at i (first_missing 0 Y A)) sets) → (C : Set)
      → within (set A i true) C ≡ true → i < length A → agree_before i A C ≡ true
      → AreAmong J K C (i + 1) whole part
  among_below part is C up inside agree X x =
      let next : i + 1 ≡ suc i = omega arith in
      let has : get_or C i false ≡ true = within_at_place (set A i true) C up i (get_or-set_same A i true false inside) in
      let at : agree_before (suc i) C X ≡ true = subst (λ k. agree_before k C X ≡ true) next x.passes in
      let open_set : IsOpen J K everything X = record {
        wide = x.wide;
        respecting = x.respecting;
        not_closed = x.not_closed;
        passes = refl;
      } in
      in_part X open_set (sym (agree_same i A C X agree) ∙ agree_less i (suc i) C X (omega arith) at)
      (sym (agree_at (suc i) C X at i (omega arith)) ∙ has) part is whole refl

  -- a branch without any
  pub none_among : (whole && not (list_any (λ Y. stands_at i (first_missing 0 Y A)) sets)) ≡ true → (X : Set) → IsOpen J K everything X
      → get_or X i false ≡ true → agree_before i A X ≡ false
  none_among e X x has = elim (cases_Bool (agree_before i A X)) [
    | inl agree ↦
        let parts = and_parts whole (not (list_any (λ Y. stands_at i (first_missing 0 Y A)) sets)) e in
        let there = list_any-mono (same X) (λ Y. stands_at i (first_missing 0 Y A))
        (λ Y t. subst (λ Z. stands_at i (first_missing 0 Z A) ≡ true) (same-true X Y t) (stands A X i lacks agree has)) sets
        (listed X x agree has parts.0) in
        absurd (false≢true (sym (not-true (list_any (λ Y. stands_at i (first_missing 0 Y A)) sets) parts.1) ∙ there))
    | inr differs ↦ differs
  ]

-- the branch of a child
pub among_child : (J L : RuleList) (K : Context) (A : Set) (from i : ℕ) (whole : Bool) (sets part items : List Set) (C : Set)
    → AreAmong J.members K A from whole sets → L ≡ J → from ≤ i → get_or A i false ≡ false
    → (whole ≡ true → items ≡ filter (λ Y. stands_at i (first_missing 0 Y A)) sets) → part ≡ items → within (set A i true) C ≡ true
    → i < length A → agree_before i A C ≡ true → AreAmong L.members K C (i + 1) whole part
among_child J L K A from i whole sets part items C among same_list onward lacks is value up inside agree =
    among_below L.members K A i i whole sets (among_from J L K A from i whole sets same_list onward among) (omega arith) lacks part
    (λ e. value ∙ is e) C up inside agree

-- a branch that is passed by
pub left_passed : (K : Context) (A : Set) (i : ℕ) (G : Watched) (b : ℕ) (Ls : List Rule) (whole : Bool) (sets : List Set)
    → IsTrying K A i G b Ls → AreAmong G.list.members K A i whole sets
    → get_or A i false ≡ false → (whole && not (list_any (λ Y. stands_at i (first_missing 0 Y A)) sets)) ≡ true → HasListed K A i G G b Ls
left_passed K A i G b Ls whole sets t among lacks none = record {
  list = refl;
  listed = bound.none_open G.list.members K A i i (omega arith) t.at.least lacks b Ls
      (λ T o h. none_among G.list.members K A i i whole sets among (omega arith) lacks none T o
      (within_at_place (set A i true) T h i (get_or-set_same A i true false
      (let l = t.inside in let w = t.at.wide in omega (arith, l, w))))) t.listed;
  filed = t.at.filed;
  kept = λ X h good. good;
}

-- ---- while nothing is listed

pub steady_same : {b : ℕ} {Ls : List Rule} → IsSteady b Ls b Ls
steady_same = record { empty = λ e. e; bound = λ e. refl }

pub steady_then : {b c d : ℕ} {Ls Ms Ns : List Rule} → IsSteady b Ls c Ms → IsSteady c Ms d Ns → IsSteady b Ls d Ns
steady_then x y = record { empty = λ e. x.empty (y.empty e); bound = λ e. y.bound e ∙ x.bound (y.empty e) }

push_some : (Ls : List Rule) (i : Rule) → Ls ++ i ∷ [] ≡ [] → ⊥
push_some [] i e = cc
push_some (l ∷ Ls) i e = cc

pub steady_push : {b c : ℕ} {Ks Ms : List Rule} (Ls : List Rule) (i : Rule) → Ms ≡ Ls ++ i ∷ [] → IsSteady b Ks c Ms
steady_push Ls i is = record { empty = λ e. absurd (push_some Ls i (sym is ∙ e)); bound = λ e. absurd (push_some Ls i (sym is ∙ e)) }

-- ---- the rows near a set

-- one attribute more
pub extent_tried : (K : Context) (A : Set) (i : ℕ) (Ps : List NumberedBlock) → IsExtent K A Ps → length A ≡ K.width → i < K.width → (X : Set)
    → X ≡ set A i true → IsExtentWith K X i Ps
extent_tried K A i Ps extent wide inside X x = subst (λ Y. IsExtentWith K Y i Ps) (sym x)
    (extent_larger K A (set A i true) i Ps extent (omega (arith, wide, inside)) (within_set A i) (within_refl (set A i true))
    (closure_extensive K (set A i true) (length-set A i true ∙ wide)))

-- a set between another and its closure has that closure
pub closure_between : (K : Context) (X D : Set) → length X ≡ K.width → within X D ≡ true → within D (closure K X) ≡ true
    → closure K X ≡ closure K D
closure_between K X D wide up shared = within_antisymm (closure K X) (closure K D) (length-closure K X ∙ sym (length-closure K D))
    (closure_monotone K X D up)
    (subst (λ Y. within (closure K D) Y ≡ true) (closure_idempotent K X wide) (closure_monotone K D (closure K X) shared))

module _ (K : Context) (A : Set) (i : ℕ) (D X : Set) (wide : length A ≡ K.width) (above : within (set A i true) D ≡ true)
    (x : X ≡ set A i true) where
  pub closure_shared : (C : Set) → C ≡ closure K X → within D C ≡ true → C ≡ closure K D
  closure_shared C closes shared = closes ∙ closure_between K X D (ap length x ∙ length-set A i true ∙ wide)
      (subst (λ Y. within Y D ≡ true) (sym x) above) (subst (λ Y. within D Y ≡ true) closes shared)

  pub extent_below : (Ps Qs : List NumberedBlock) → IsExtent K A Ps → i < K.width → (C : Set) → C ≡ closure K X → within D C ≡ true
      → ((g : ℕ) → in_blocks Qs g ≡ (in_blocks Ps g && has_at K i g)) → IsExtent K D Qs
  extent_below Ps Qs extent in_width C closes shared left = extent_left K D i Ps Qs
      (extent_larger K A D i Ps extent (omega (arith, wide, in_width)) (within_set A i) above
      (subst (λ Y. within D Y ≡ true) (closes ∙ ap (closure K) x) shared)) left
