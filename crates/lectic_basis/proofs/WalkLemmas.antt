-- The steps of the walk. At a set that is no intent a member is pushed, and the walk goes on with its closure, or ends where that differs
-- before the attribute by which the set was entered. Below an intent each attribute that it lacks is tried, the last first; what was
-- found at attribute i is what stands up to place i of the intent.
use Rattle.std.proofs.Common.{◌≡◌, ℕ, zero, suc, ◌+◌, ◌-◌, ◌<◌, ◌≤◌, Bool, true, false, not, ◌&&◌, ◌||◌, ◌⊎◌, inl, inr, leb, Option, Some}
use Rattle.std.proofs.Common.{None, MatchOption, IfSome, List, [], ◌∷◌, ◌++◌, length, get_or, set, replicate}
use Rattle.std.proofs.Common.{length-set, refl, sym, ap, ◌∙◌, subst, arith}
use Rattle.std.proofs.lemmas.Bool.{false≢true, and_parts, false_from_ne_true, leb-false}
use Rattle.std.proofs.lemmas.List.Folds.{list_all-append}
use Rattle.std.specs.List.{list_all}
use Rattle.fca_model.specs.Sets.{Set, same, within, agree_before}
use Rattle.fca_model.specs.Context.{Context, closure, is_closed}
use Rattle.fca_model.specs.Implications.{Rule, rule, respects, respects_all, holds}
use Rattle.fca_model.proofs.SetLemmas.{same-true, same_from, within_refl, within_trans, within_at_place, within_set}
use Rattle.fca_model.proofs.ClosureLemmas.{length-closure, closure_extensive, respects_at}
use Rattle.implication_closure.specs.Closing.{RuleList, IsClosure}
use Rattle.extent_blocks.specs.Blocks.{NumberedBlock, IsExtent, IsExtentWith}
use Rattle.extent_blocks.proofs.ExtentLemmas.{extent_larger, extent_shared}
use Rattle.lectic_basis.specs.Trees.{InFamily, IsLeastBehind, up_to, members_where, found_where}
use Rattle.lectic_basis.specs.Walks.{IsVisit, IsBelow, IsTrying, HasFound, IsPart, IsPartBefore}
use Rattle.lectic_basis.specs.Forced.{AreForced, IsLastToTry, IsLonger, NoneToTry, is_to_try}
use Rattle.lectic_basis.specs.Watches.{Watched, IsFiled, IsGood, CanClose, HasMoved, IsClosedBefore, Differs, IsBounded, IsPutBefore, WaitOrConclude}
use Rattle.lectic_basis.proofs.PlaceLemmas.{up_to_member, agree_with, agree_less, up_to_less}
use Rattle.lectic_basis.proofs.FamilyLemmas.{family_of_closed, closed_closure, same_where, where_all, where_at, where_known}
use Rattle.lectic_basis.proofs.FamilyLemmas.{closed_respects_where}
use Rattle.lectic_basis.proofs.TreeLemmas as tree
use Rattle.lectic_basis.proofs.ForcedLemmas.{forced_larger, forced_differs}
use Rattle.lectic_basis.proofs.WaitLemmas.{push_filed, push_good, push_covers, kept_good, good_covers, closed_good}

-- ---- the start

pub root_visit : (S : List Rule) (K : Context) (A : Set) (F : Watched) → list_all (holds K) S ≡ true
    → IsClosure S (replicate K.width false) A
    → F.list ≡ record { width = K.width; members = S } → IsFiled F.list.width F.list.members F.buckets → IsGood F.list.members F.buckets A
    → IsVisit S K A 0 F
root_visit S K A F known a list filed good = record {
  at = record { holds = known; family = tree.root_family S K A a; inside = omega arith; filed = filed; good = good };
  least = tree.root_from S K A a;
  found = list ∙ ap (λ Zs. record { width = K.width; members = Zs }) (sym (tree.where_none S K A));
  entered = λ k e. absurd (omega (arith, e));
}

-- ---- what was found

module _ {S : List Rule} {K : Context} {A : Set} {from : ℕ} {F G : Watched} where
  pub part_before : HasFound S K A from (IsPart A) F G → HasFound S K A from (IsPartBefore A from) F G
  part_before x = record { found = x.found; filed = x.filed; kept = λ X h. x.kept X h.part }

-- ---- a visit

module _ {S : List Rule} {K : Context} {A : Set} {from : ℕ} {F : Watched} (v : IsVisit S K A from F) where
  wide : length A ≡ K.width
  wide = v.at.family.wide

  width : F.list.width ≡ K.width
  width = ap (λ (M : RuleList). M.width) v.found

  pub visit_wide : length A ≡ F.list.width
  visit_wide = wide ∙ sym width

  pub visit_inside : from ≤ length F.buckets
  visit_inside = omega (arith, v.at.inside, width, v.at.filed.room)

  module _ {B : Set} (closure_is : B ≡ closure K A) where
    pub closure_wide : length B ≡ F.list.width
    closure_wide = ap length closure_is ∙ length-closure K A ∙ sym width

    pub closure_up : within A B ≡ true
    closure_up = subst (λ X. within A X ≡ true) (sym closure_is) (closure_extensive K A wide)

    -- an intent
    pub visit_closed : same B A ≡ true → IsBelow S K A from F
    visit_closed one = record {
      at = v.at;
      least = tree.visit_behind S K A v.at.family from v.at.inside v.least;
      found = v.found ∙ tree.visit_closed S K A v.at.family from v.at.inside v.least
          (same_from A (closure K A) (sym (same-true B A one) ∙ closure_is));
    }

    -- a pseudo-intent, whose member was pushed
    module _ (differs : same B A ≡ false) (G : Watched)
        (list : G.list ≡ record { width = F.list.width; members = F.list.members ++ rule A B ∷ [] })
        (put : IsPutBefore from F.buckets G.buckets (rule A B)) where
      open_set : is_closed K A ≡ false
      open_set = false_from_ne_true (is_closed K A)
          (λ t. false≢true (sym differs ∙ same_from B A (closure_is ∙ sym (same-true A (closure K A) t))))

      pushed : G.list ≡ record { width = F.list.width; members = F.list.members ++ rule A (closure K A) ∷ [] }
      pushed = list ∙ ap (λ X. record { width = F.list.width; members = F.list.members ++ rule A X ∷ [] }) closure_is

      filed_pushed : IsFiled G.list.width G.list.members G.buckets
      filed_pushed = subst (λ (M : RuleList). IsFiled M.width M.members G.buckets) (sym list)
          (push_filed F.list.width F.list.members F.buckets G.buckets from (rule A B) put v.at.filed v.entered)

      good_pushed : (X : Set) → IsPartBefore A from X → IsGood F.list.members F.buckets X → IsGood G.list.members G.buckets X
      good_pushed X h good = subst (λ (M : RuleList). IsGood M.members G.buckets X) (sym list)
          (push_good F.list.width F.list.members F.buckets G.buckets from (rule A B) put X h.attribute h.entered h.lacks good)

      pub visit_ends : agree_before from A B ≡ false → HasFound S K A from (IsPartBefore A from) F G
      visit_ends ends = record {
        found = tree.visit_ends S K A v.at.family from v.at.inside v.least open_set
            (ap (agree_before from A) (sym closure_is) ∙ ends) F.list G.list v.found pushed;
        filed = filed_pushed;
        kept = good_pushed;
      }

      module _ (agree : agree_before from A B ≡ true) where
        pub visit_can_close : CanClose G from A B
        visit_can_close = record {
          done_wide = wide ∙ sym width ∙ sym (ap (λ (M : RuleList). M.width) list);
          wide = closure_wide ∙ sym (ap (λ (M : RuleList). M.width) list);
          above = closure_up;
          agree = agree;
          filed = filed_pushed;
          covers = subst (λ (M : RuleList). WaitOrConclude M.members G.buckets A B) (sym list)
              (push_covers F.list.width F.list.members F.buckets G.buckets from (rule A B) put A B v.at.good closure_up (within_refl B));
        }

        agree_closure : agree_before from A (closure K A) ≡ true
        agree_closure = ap (agree_before from A) (sym closure_is) ∙ agree

        module _ {H : Watched} (m : HasMoved A G H) where
          grown : H.list ≡ found_where S K (up_to K.width B)
          grown = m.list ∙ tree.visit_grows S K A v.at.family from v.at.inside v.least open_set agree_closure F.list G.list v.found pushed
              ∙ ap (λ X. found_where S K (up_to K.width X)) (sym closure_is)

          closed_b : is_closed K B ≡ true
          closed_b = subst (λ X. is_closed K X ≡ true) (sym closure_is) (closed_closure S K A wide)

          family_b : InFamily S K B
          family_b = family_of_closed S K v.at.holds B (ap length closure_is ∙ length-closure K A) closed_b

          respecting : respects_all G.list.members B ≡ true
          respecting = subst (λ (M : RuleList). respects_all M.members B ≡ true) (sym grown ∙ m.list)
              (closed_respects_where S K (up_to K.width B) B family_b closed_b)

          pub visit_below : (C : Set) (agrees : Bool) → (agrees ≡ true → IsClosedBefore G.list.members H.buckets from A B C)
              → (agrees ≡ false → Differs G.list.members from A B) → IsBelow S K B from H
          visit_below C agrees closed differs = record {
            at = record {
              holds = v.at.holds;
              family = family_b;
              inside = v.at.inside;
              filed = m.filed;
              good = subst (λ (M : RuleList). IsGood M.members H.buckets B) (sym m.list)
                  (closed_good G.list.members H.buckets from A B C agrees closed differs respecting agree);
            };
            least = subst (λ X. IsLeastBehind S K X from) (sym closure_is)
                (tree.grows_behind S K A v.at.family from v.at.inside v.least open_set agree_closure);
            found = grown;
          }

          pub visit_done : {I : Watched} → HasFound S K B from (IsPart B) H I → HasFound S K A from (IsPartBefore A from) F I
          visit_done x = record {
            found = x.found ∙ ap (λ X. found_where S K (up_to from X)) closure_is
                ∙ tree.grows_done S K A v.at.family from v.at.inside v.least open_set agree_closure;
            filed = x.filed;
            kept = λ X h good. x.kept X (within_trans X A B h.part closure_up)
                (subst (λ (M : RuleList). IsGood M.members H.buckets X) (sym m.list)
                (kept_good G.list.members G.buckets H.buckets X (m.kept X h.part) (good_pushed X h good)));
          }

-- what is found grows
pub longer_push : (L M : RuleList) (i : Rule) → M ≡ record { width = L.width; members = L.members ++ i ∷ [] } → IsLonger L.members M.members
longer_push L M i e T r = (and_parts (list_all (respects T) L.members) (list_all (respects T) (i ∷ []))
    (sym (list_all-append (respects T) L.members (i ∷ [])) ∙ subst (λ (N : RuleList). respects_all N.members T ≡ true) e r)).0

pub found_longer : {S : List Rule} {K : Context} {A : Set} {j i : ℕ} {F G H : Watched} → HasFound S K A j (IsPart A) F G
    → HasFound S K A i (IsPart A) G H → i ≤ j → IsLonger G.list.members H.list.members
found_longer {S = S} {K = K} {A = A} {j = j} {i = i} x y le T r =
    let r' : respects_all (members_where S K (up_to i A)) T ≡ true = subst (λ (M : RuleList). respects_all M.members T ≡ true) y.found r in
    subst (λ (M : RuleList). respects_all M.members T ≡ true) (sym x.found)
    (where_all S K (up_to j A) (respects T) (where_known S K (up_to i A) (respects T) r')
    (λ P e t first. where_at S K (up_to i A) (respects T) r' P e t (up_to_less i j A P le first)))

-- what respects the list has the conclusion of its last member with the premise
pub bounded_push : (L M : RuleList) (i : Rule) → M ≡ record { width = L.width; members = L.members ++ i ∷ [] }
    → IsBounded M.members i.premise i.conclusion
bounded_push L M i e T has r =
    let last : list_all (respects T) (i ∷ []) ≡ true = (and_parts (list_all (respects T) L.members) (list_all (respects T) (i ∷ []))
    (sym (list_all-append (respects T) L.members (i ∷ [])) ∙ subst (λ (N : RuleList). respects_all N.members T ≡ true) e r)).1 in
    respects_at T i (and_parts (respects T i) true last).0 has

-- ---- what is told

-- what is forced below holds behind the intent that is told
pub told_forced : (M : List Rule) (A C : Set) (ws : List ℕ) (told : Option Set) → AreForced M A ws → within A C ≡ true
    → IfSome told (λ b. within C b ≡ true) → IfSome told (λ b. AreForced M b ws)
told_forced M A C ws None f up larger = larger
told_forced M A C ws (Some b) f up larger = forced_larger M A b ws (within_trans A C b up larger) f

-- ---- below an intent

-- all behind attribute j - 1 were visited
pub trying : {S : List Rule} {K : Context} {A : Set} {from j i : ℕ} {F G : Watched} → IsBelow S K A from F → j ≤ K.width
    → HasFound S K A j (IsPart A) F G → j ≡ suc i → from ≤ i → IsTrying S K A i G
trying {S = S} {K = K} {A = A} {from = from} {i = i} {F = F} {G = G} b le g e on =
    record {
      at = record {
        holds = b.at.holds;
        family = b.at.family;
        inside = omega (arith, le, e);
        filed = g.filed;
        good = g.kept A (within_refl A) b.at.good;
      };
      least = λ X x agree. b.least X x (agree_less from i A X on agree);
      inside = omega (arith, le, e);
      found = subst (λ k. G.list ≡ found_where S K (up_to k A)) e g.found;
    }

pub below_start : {S : List Rule} {K : Context} {A : Set} {from : ℕ} {F : Watched} → IsBelow S K A from F
    → HasFound S K A K.width (IsPart A) F F
below_start b = record { found = b.found; filed = b.at.filed; kept = λ X h good. good }

-- one attribute after the other
pub found_then : {S : List Rule} {K : Context} {A : Set} {j i : ℕ} {F G H : Watched} → HasFound S K A j (IsPart A) F G
    → HasFound S K A i (IsPart A) G H → HasFound S K A i (IsPart A) F H
found_then x y = record { found = y.found; filed = y.filed; kept = λ X h good. y.kept X h (x.kept X h good) }

module _ {S : List Rule} {K : Context} {A : Set} {i : ℕ} {G : Watched} (t : IsTrying S K A i G) where
  abbrev inside : i < K.width
  inside = t.inside

  on : i ≤ i
  on = omega arith

  next : suc i ≡ i + 1
  next = omega arith

  -- an attribute that A has
  pub below_member : get_or A i false ≡ true → HasFound S K A i (IsPart A) G G
  below_member has = record {
    found = t.found ∙ same_where S K (up_to (suc i) A) (up_to i A) (λ P w e. up_to_member i A P has);
    filed = t.at.filed;
    kept = λ X h good. good;
  }

  -- one that A lacks
  module _ (lacks : get_or A i false ≡ false) {X : Set} (x : X ≡ set A i true) where
    up : within A X ≡ true
    up = subst (λ Y. within A Y ≡ true) (sym x) (within_set A i)

    width_g : G.list.width ≡ K.width
    width_g = ap (λ (M : RuleList). M.width) t.found

    pub below_can_close : CanClose G i A X
    below_can_close = record {
      done_wide = t.at.family.wide ∙ sym width_g;
      wide = ap length x ∙ length-set A i true ∙ t.at.family.wide ∙ sym width_g;
      above = up;
      agree = subst (λ Y. agree_before i A Y ≡ true) (sym x) (agree_with i A);
      filed = t.at.filed;
      covers = good_covers G.list.members G.buckets A X up t.at.good;
    }

    module _ {H : Watched} (m : HasMoved A G H) where
      good_moved : (Y : Set) → within Y A ≡ true → IsGood G.list.members G.buckets Y → IsGood H.list.members H.buckets Y
      good_moved Y h good = subst (λ (M : RuleList). IsGood M.members H.buckets Y) (sym m.list)
          (kept_good G.list.members G.buckets H.buckets Y (m.kept Y h) good)

      pub below_none : Differs G.list.members i A X → HasFound S K A i (IsPart A) G H
      below_none differs = record {
        found = m.list ∙ t.found ∙ tree.none_below S K A t.at.family.wide i i on inside t.least lacks
            (λ T h r. differs T (subst (λ Y. within Y T ≡ true) (sym x) h)
            (subst (λ (M : RuleList). respects_all M.members T ≡ true) (sym t.found) r));
        filed = m.filed;
        kept = good_moved;
      }

      module _ {C : Set} (c : IsClosedBefore G.list.members H.buckets i A X C) where
        closed : IsClosure (members_where S K (up_to (suc i) A)) (set A i true) C
        closed = subst (λ (M : RuleList). IsClosure M.members (set A i true) C) t.found
            (subst (λ Y. IsClosure G.list.members Y C) x c.closure)

        up_c : within A C ≡ true
        up_c = tree.child_up S K A t.at.family.wide i i on inside t.least lacks C closed

        pub below_visit : IsVisit S K C (i + 1) H
        below_visit = subst (λ k. IsVisit S K C k H) next (record {
          at = record {
            holds = t.at.holds;
            family = tree.child_family S K A t.at.family.wide i i on inside t.least lacks C closed c.agree;
            inside = omega (arith, inside);
            filed = m.filed;
            good = subst (λ (M : RuleList). IsGood M.members H.buckets C) (sym m.list) c.good;
          };
          least = tree.child_least S K A t.at.family.wide i i on inside t.least lacks C closed c.agree;
          found = m.list ∙ t.found ∙ tree.child_found S K A t.at.family.wide i i on inside t.least lacks C closed c.agree;
          entered = λ k e. let one : i ≡ k = omega (arith, e) in
              subst (λ j. get_or C j false ≡ true) one (tree.child_has S K A t.at.family.wide i i on inside t.least lacks C closed);
        })

        pub below_visited : {I : Watched} → HasFound S K C (i + 1) (IsPartBefore C (i + 1)) H I → HasFound S K A i (IsPart A) G I
        below_visited done = record {
          found = done.found ∙ ap (λ k. found_where S K (up_to k C)) (sym next)
              ∙ tree.child_done S K A t.at.family.wide i i on inside t.least lacks C closed c.agree;
          filed = done.filed;
          kept = λ Y h good. done.kept Y (record {
            part = within_trans Y A C h up_c;
            attribute = i;
            entered = sym next;
            lacks = false_from_ne_true (get_or Y i false) (λ t. false≢true (sym lacks ∙ within_at_place Y A h i t));
          }) (good_moved Y h good);
        }

        -- the same of what is left behind an intent
        pub below_told : (I : Watched) (told : Option Set) → MatchOption told (HasFound S K C (i + 1) (IsPartBefore C (i + 1)) H I)
            (λ b. (J : Watched) → HasFound S K b (i + 1) (IsPart b) I J → HasFound S K C (i + 1) (IsPartBefore C (i + 1)) H J)
            → MatchOption told (HasFound S K A i (IsPart A) G I)
            (λ b. (J : Watched) → HasFound S K b (i + 1) (IsPart b) I J → HasFound S K A i (IsPart A) G J)
        below_told I None done = below_visited done
        below_told I (Some b) done = λ J h. below_visited (done J h)

        -- it lies within the closure of A with i, so both have the same rows
        pub below_shared : within C (closure K (set A i true)) ≡ true
        below_shared =
            let wide : length (set A i true) ≡ K.width = length-set A i true ∙ t.at.family.wide in
            let T = closure K (set A i true) in
            let intent = closed_closure S K (set A i true) wide in
            closed.least T (closure_extensive K (set A i true) wide)
            (closed_respects_where S K (up_to (suc i) A) T
            (family_of_closed S K t.at.holds T (length-closure K (set A i true)) intent) intent)

        pub below_extent : (Ps : List NumberedBlock) → IsExtent K A Ps → IsExtentWith K C i Ps
        below_extent Ps extent = extent_larger K A C i Ps extent (omega (arith, inside, t.at.family.wide))
            (within_set A i) closed.above below_shared

        pub below_wide : length C ≡ K.width
        below_wide = closed.wide ∙ length-set A i true ∙ t.at.family.wide

-- what is told lies within the closure
pub told_extent : (K : Context) (C : Set) (i : ℕ) (Ps : List NumberedBlock) (told : Option Set) → IsExtentWith K C i Ps
    → IfSome told (λ b. within C b ≡ true) → IfSome told (λ b. within b (closure K C) ≡ true) → IfSome told (λ b. IsExtentWith K b i Ps)
told_extent K C i Ps None extent larger shared = larger
told_extent K C i Ps (Some b) extent larger shared = extent_shared K C b i Ps extent larger shared

-- where i is seen to force an attribute before it that A lacks, no member is left out
pub below_forced : {S : List Rule} {K : Context} {A : Set} {i : ℕ} {G : Watched} (w : ℕ) (ws : List ℕ) → IsTrying S K A i G
    → get_or A i false ≡ false → AreForced G.list.members A ws → get_or ws i i ≡ w → w < i → get_or A w false ≡ false
    → HasFound S K A i (IsPart A) G G
below_forced {A = A} {i = i} {G = G} w ws t lacks f is lt missing =
    below_none t lacks refl (record { list = refl; filed = t.at.filed; kept = λ Y h p o. o })
    (forced_differs G.list.members A ws i w (omega (arith, t.inside, t.at.family.wide)) f is lt missing)

tried_parts : (a l b : Bool) → (not a && (l || b)) ≡ false → (a ≡ true) ⊎ ((a ≡ false) × (l ≡ false) × (b ≡ false))
tried_parts true l b e = inl refl
tried_parts false false false e = inr (refl, refl, refl)
tried_parts false true b e = absurd (false≢true (sym e))
tried_parts false false true e = absurd (false≢true (sym e))

-- where none of some attributes is tried, no member is left out
pub none_found : {S : List Rule} {K : Context} {A : Set} {from : ℕ} {F G : Watched} (ws : List ℕ) → IsBelow S K A from F
    → AreForced G.list.members A ws → (d j i : ℕ) → j ≡ d + i → from ≤ i → j ≤ K.width
    → HasFound S K A j (IsPart A) F G → NoneToTry A ws i j → HasFound S K A i (IsPart A) F G
none_found {S = S} {K = K} {A = A} {F = F} {G = G} ws b f zero j i e least le h none = let same : j ≡ i = omega (arith, e) in
    subst (λ k. HasFound S K A k (IsPart A) F G) same h
none_found {S = S} {K = K} {A = A} {F = F} {G = G} ws b f (suc d) j i e least le h none =
    let k : ℕ = d + i in
    let t : IsTrying S K A k G = trying b le h (omega (arith, e)) (omega (arith, least)) in
    let step : HasFound S K A k (IsPart A) G G = elim (tried_parts (get_or A k false) (leb k (get_or ws k k))
    (get_or A (get_or ws k k) false) (none k (omega arith) (omega (arith, e)))) [
      | inl has ↦ below_member t has
      | inr (lacks, less, missing) ↦ below_forced (get_or ws k k) ws t lacks f refl (leb-false k (get_or ws k k) less) missing
    ] in
    none_found ws b f d k i refl least (omega (arith, le, e)) (found_then h step) (λ m l u. none m l (omega (arith, u, e)))

-- the last attribute that is tried
pub last_found : {S : List Rule} {K : Context} {A : Set} {from end i : ℕ} {F G : Watched} (ws : List ℕ) → IsBelow S K A from F
    → AreForced G.list.members A ws → end ≤ K.width
    → HasFound S K A end (IsPart A) F G → IsLastToTry A ws from end i → HasFound S K A (i + 1) (IsPart A) F G
last_found {end = end} {i = i} ws b f le h t =
    let inside : i < end = t.in_range in
    let least = t.at_least in
    none_found ws b f (end - (i + 1)) end (i + 1) (omega (arith, inside)) (omega (arith, least)) le h t.last

pub tried_lacks : (A : Set) (ws : List ℕ) (i : ℕ) → is_to_try A ws i ≡ true → get_or A i false ≡ false
tried_lacks A ws i t = lacking (get_or A i false)
    (and_parts (not (get_or A i false)) (leb i (get_or ws i i) || get_or A (get_or ws i i) false) t).0
  where
    lacking : (a : Bool) → not a ≡ true → a ≡ false
    lacking true e = absurd (false≢true e)
    lacking false e = refl

pub below_up : (A X C : Set) (i : ℕ) (J : List Rule) → X ≡ set A i true → IsClosure J X C → within A C ≡ true
below_up A X C i J x c = within_trans A (set A i true) C (within_set A i) (subst (λ Y. within Y C ≡ true) x c.above)
