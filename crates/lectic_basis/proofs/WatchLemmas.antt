-- The closure under members that wait. A member of the bucket of an attribute z of the set has either an attribute of its premise outside
-- the set, and waits for that from now on; or its premise lies within the set, and its conclusion is joined. Once each attribute of the
-- set was looked through, the premise of each member that still waits for an attribute outside does not lie within the set.
use Rattle.std.proofs.Common.{◌≡◌, ℕ, ◌+◌, ◌-◌, ◌<◌, ◌≤◌, Bool, true, false, not, ◌&&◌, ◌||◌, Some, None, List, [], ◌∷◌, ◌++◌, length}
use Rattle.std.proofs.Common.{get_or, set, take, refl, sym, ap, ◌∙◌, subst, arith, inl, inr, get_or-set_other, length-set, eqb, eqb-true}
use Rattle.std.proofs.lemmas.Bool.{false≢true, and_parts, and_from, cases_Bool, cases_eq, or_left, or_right, false_from_ne_true}
use Rattle.std.proofs.lemmas.List.{take_more, get_or_default}
use Rattle.std.proofs.lemmas.List.Sums.{AllPass-from_list_all}
use Rattle.std.proofs.lemmas.List.Folds.{list_all-append}
use Rattle.std.specs.List.{list_all}
use Rattle.fca_model.specs.Sets.{Set, within, join, size, agree_before}
use Rattle.fca_model.specs.Implications.{Rule, rule, respects, respects_all}
use Rattle.fca_model.specs.Exploration.{first_missing}
use Rattle.fca_model.proofs.SetLemmas.{within_refl, within_trans, within_antisymm, within_set, within_at_place, not_within_at, set_within}
use Rattle.fca_model.proofs.SetLemmas.{length-join, within-join, within-join_right, join_within, size-set, size_le, agree_at, agree_from}
use Rattle.fca_model.proofs.ClosureLemmas.{respects_at}
use Rattle.fca_model.proofs.StepLemmas.{first_missing_none}
use Rattle.fca_model.proofs.ListLemmas.{list_all-mono, bool_iff}
use Rattle.attr_bits.proofs.DifferenceLemmas.{first_missing-parts}
use Rattle.attr_bits.proofs.PlaceLemmas.{member_below}
use Rattle.implication_closure.specs.Closing.{RuleList, has_width, HaveWidth}
use Rattle.lectic_basis.proofs.BucketLemmas.{moved_all}
use Rattle.lectic_basis.specs.Watches.{Watched, CanClose, HasMoved, bucket, waiting_at, Outside, WaitOrConclude, IsGood, HasKept, IsSorted, IsFiled}
use Rattle.lectic_basis.specs.Watches.{IsMoved, IsSettling, IsClosedBefore, Differs, IsBounded}

-- a set between two that agree
pub agree_between : (k : ℕ) (A D T : Set) → within A D ≡ true → within D T ≡ true → agree_before k A T ≡ true → agree_before k A D ≡ true
agree_between k A D T a d h = agree_from k A D
    (λ j l. bool_iff (get_or A j false) (get_or D j false) (within_at_place A D a j)
    (λ t. agree_at k A T h j l ∙ within_at_place D T d j t))

-- ---- one bucket

pub settle_start : {z : ℕ} {C : Set} {old : List (List Rule)} → IsSorted old → IsSettling z 0 C C old old
settle_start {C = C} sorted = record {
  wide = refl;
  up = within_refl C;
  room = refl;
  sorted = sorted;
  sound = λ p h. h;
  kept = λ X h l p o. o;
  bounded = λ T h r. h;
  taken = refl;
}

pub settle_any : {z k : ℕ} {C D : Set} {old new : List (List Rule)} → IsSettling z k C D old new → IsSettling z 0 C D old new
settle_any s = record {
  wide = s.wide;
  up = s.up;
  room = s.room;
  sorted = s.sorted;
  sound = s.sound;
  kept = s.kept;
  bounded = s.bounded;
  taken = refl;
}

module _ {z k : ℕ} {C D : Set} {old mid : List (List Rule)} (s : IsSettling z k C D old mid) (there : k < length (bucket z mid)) where
  abbrev i : Rule
  i = waiting_at z k mid

  is : i ≡ get_or (bucket z mid) k i
  is = get_or_default (bucket z mid) k (rule [] []) i there

  passes : (p : Rule → Bool) → list_all p (bucket z mid) ≡ true → p i ≡ true
  passes p h = ap p is ∙ AllPass-from_list_all p (bucket z mid) h k i there

  -- i is moved to the bucket of an attribute outside
  module _ {new : List (List Rule)} {o : ℕ} (m : IsMoved mid new z k o i) (has : get_or i.premise o false ≡ true)
      (lacks : get_or D o false ≡ false) where
    all_z : (p : Rule → Bool) → list_all p (bucket z mid) ≡ (p i && list_all p (bucket z new))
    all_z p = m.out p

    all_o : (p : Rule → Bool) → list_all p (bucket o new) ≡ (list_all p (bucket o mid) && (p i && true))
    all_o p = ap (list_all p) m.into ∙ list_all-append p (bucket o mid) (i ∷ [])

    sorted_move : IsSorted new
    sorted_move w = elim (cases_eq w z) [
      | inl e ↦ subst (λ v. list_all (λ j. get_or j.premise v false) (bucket v new) ≡ true) (sym e)
          (and_parts (get_or i.premise z false) (list_all (λ j. get_or j.premise z false) (bucket z new))
          (sym (all_z (λ j. get_or j.premise z false)) ∙ s.sorted z)).1
      | inr not_z ↦ elim (cases_eq w o) [
        | inl e ↦ subst (λ v. list_all (λ j. get_or j.premise v false) (bucket v new) ≡ true) (sym e)
            (all_o (λ j. get_or j.premise o false) ∙ and_from (list_all (λ j. get_or j.premise o false) (bucket o mid))
            (get_or i.premise o false && true) (s.sorted o) (and_from (get_or i.premise o false) true has refl))
        | inr not_o ↦ ap (list_all (λ j. get_or j.premise w false)) (m.elsewhere w not_z not_o) ∙ s.sorted w
      ]
    ]

    -- both buckets are outside a part of the set that lacks z
    kept_move : (X : Set) → get_or X z false ≡ false → get_or X o false ≡ false → HasKept X mid new
    kept_move X not_has_z not_has_o p out w l = elim (cases_eq w z) [
      | inl e ↦ subst (λ v. list_all p (bucket v mid) ≡ true) (sym e)
          (all_z p ∙ and_from (p i) (list_all p (bucket z new))
          (and_parts (p i) true (and_parts (list_all p (bucket o mid)) (p i && true) (sym (all_o p) ∙ out o not_has_o)).1).0
          (out z not_has_z))
      | inr not_z ↦ elim (cases_eq w o) [
        | inl e ↦ subst (λ v. list_all p (bucket v mid) ≡ true) (sym e)
            (and_parts (list_all p (bucket o mid)) (p i && true) (sym (all_o p) ∙ out o not_has_o)).0
        | inr not_o ↦ ap (list_all p) (sym (m.elsewhere w not_z not_o)) ∙ out w l
      ]
    ]

    outside : (X : Set) → within X C ≡ true → get_or X o false ≡ false
    outside X h = false_from_ne_true (get_or X o false)
        (λ t. false≢true (sym lacks ∙ within_at_place C D s.up o (within_at_place X C h o t)))

    pub settle_move : IsSettling z k C D old new
    settle_move = record {
      wide = s.wide;
      up = s.up;
      room = m.room ∙ s.room;
      sorted = sorted_move;
      sound = λ p h. moved_all p m (s.sound p h);
      kept = λ X h l p out. s.kept X h l p (kept_move X l (outside X h) p out);
      bounded = s.bounded;
      taken = ap (list_all (λ j. within j.conclusion D)) m.front ∙ s.taken;
    }

  -- its conclusion is joined
  module _ (wide : (w : ℕ) → HaveWidth (length C) (bucket w old)) where
    i_wide : length i.conclusion ≡ length D
    i_wide = eqb-true (length i.conclusion) (length C)
        (and_parts (eqb (length i.premise) (length C)) (eqb (length i.conclusion) (length C))
        (passes (has_width (length C)) (s.sound (has_width (length C)) wide z))).1 ∙ sym s.wide

    pub premise_wide : length i.premise ≡ length C
    premise_wide = eqb-true (length i.premise) (length C)
        (and_parts (eqb (length i.premise) (length C)) (eqb (length i.conclusion) (length C))
        (passes (has_width (length C)) (s.sound (has_width (length C)) wide z))).0

    pub join_fits : length i.conclusion ≤ length D
    join_fits = omega (arith, i_wide)

    pub settle_join : within i.premise D ≡ true → {E : Set} → E ≡ join D i.conclusion → IsSettling z (k + 1) C E old mid
    settle_join inside {E = E} e =
        let more : within D E ≡ true = ap (within D) e ∙ within-join D i.conclusion in
        let mine : within i.conclusion E ≡ true = ap (within i.conclusion) e ∙ within-join_right D i.conclusion (sym i_wide) in
        record {
          wide = ap length e ∙ length-join D i.conclusion ∙ s.wide;
          up = within_trans C D E s.up more;
          room = s.room;
          sorted = s.sorted;
          sound = s.sound;
          kept = s.kept;
          bounded = λ T h r.
              let d : within D T ≡ true = s.bounded T h r in
              ap (λ X. within X T) e ∙ join_within D i.conclusion T d
              (respects_at T i (passes (respects T) (s.sound (respects T) r z)) (within_trans i.premise D T inside d));
          taken = ap (list_all (λ j. within j.conclusion E))
              (take_more (bucket z mid) k i there ∙ ap (λ x. take k (bucket z mid) ++ x ∷ []) (sym is))
              ∙ list_all-append (λ j. within j.conclusion E) (take k (bucket z mid)) (i ∷ [])
              ∙ and_from (list_all (λ j. within j.conclusion E) (take k (bucket z mid))) (within i.conclusion E && true)
              (list_all-mono (λ j. within j.conclusion D) (λ j. within j.conclusion E) (λ j h. within_trans j.conclusion D E h more)
              (take k (bucket z mid)) s.taken)
              (and_from (within i.conclusion E) true mine refl);
        }

-- ---- all buckets

-- on the way from X to its closure: P are the attributes that were looked through, and D is what came in so far
pub record IsClosing (n : ℕ) (J : List Rule) (limit : ℕ) (A X P D : Set) (old new : List (List Rule)) : Type 0 where
  pub p_wide : length P ≡ n
  pub d_wide : length D ≡ n
  pub begun : within A P ≡ true
  pub part : within P D ≡ true
  pub above : within X D ≡ true
  pub filed : IsFiled n J new
  pub covers : WaitOrConclude J new P D
  pub kept : (Y : Set) → within Y A ≡ true → HasKept Y old new
  pub bounded : (T : Set) → within X T ≡ true → respects_all J T ≡ true → within D T ≡ true
  pub agree : agree_before limit A D ≡ true

pub closing_start : {F : Watched} {limit : ℕ} {A X : Set} → CanClose F limit A X
    → IsClosing F.list.width F.list.members limit A X A X F.buckets F.buckets
closing_start {A = A} {X = X} can = record {
  p_wide = can.done_wide;
  d_wide = can.wide;
  begun = within_refl A;
  part = can.above;
  above = within_refl X;
  filed = can.filed;
  covers = can.covers;
  kept = λ Y h p o. o;
  bounded = λ T h r. h;
  agree = can.agree;
}

-- the list stays the same
pub closing_moved : {F G : Watched} {A : Set} → G.list ≡ F.list → IsFiled F.list.width F.list.members G.buckets
    → ((Y : Set) → within Y A ≡ true → HasKept Y F.buckets G.buckets) → HasMoved A F G
closing_moved {G = G} list filed kept = record {
  list = list;
  filed = subst (λ (L : RuleList). IsFiled L.width L.members G.buckets) (sym list) filed;
  kept = kept;
}

module _ {n : ℕ} {J : List Rule} {limit : ℕ} {A X : Set} {old : List (List Rule)} where
  module _ {P D : Set} {mid : List (List Rule)} (c : IsClosing n J limit A X P D old mid) where
    pub closing_wide : HaveWidth n J → (w : ℕ) → HaveWidth (length D) (bucket w mid)
    closing_wide even w = ap (λ m. list_all (has_width m) (bucket w mid)) c.d_wide ∙ c.filed.sound (has_width n) even w

    pub begun_within : within A D ≡ true
    begun_within = within_trans A P D c.begun c.part

    module _ {z : ℕ} (missing : first_missing 0 D P ≡ Some z) {E : Set} {new : List (List Rule)} (s : IsSettling z 0 D E mid new) where
      z_has : get_or D z false ≡ true
      z_has = (first_missing-parts D P z missing).0

      z_lacks : get_or P z false ≡ false
      z_lacks = (first_missing-parts D P z missing).1

      lacks_z : (Y : Set) → within Y P ≡ true → get_or Y z false ≡ false
      lacks_z Y h = false_from_ne_true (get_or Y z false) (λ t. false≢true (sym z_lacks ∙ within_at_place Y P h z t))

      filed_next : IsFiled n J new
      filed_next = record { room = s.room ∙ c.filed.room; sorted = s.sorted; sound = λ p h. s.sound p (c.filed.sound p h) }

      kept_next : (Y : Set) → within Y A ≡ true → HasKept Y old new
      kept_next Y h p out =
          let inside : within Y P ≡ true = within_trans Y A P h c.begun in
          c.kept Y h p (s.kept Y (within_trans Y P D inside c.part) (lacks_z Y inside) p out)

      bounded_next : (T : Set) → within X T ≡ true → respects_all J T ≡ true → within E T ≡ true
      bounded_next T h r = s.bounded T (c.bounded T h r) (c.filed.sound (respects T) r)

      pub closing_bounded : IsBounded J X E
      closing_bounded = bounded_next

      -- what is kept where the closure differs
      pub closing_differs : agree_before limit A E ≡ false → Differs J limit A X
      closing_differs f T h r = false_from_ne_true (agree_before limit A T) (λ t.
          false≢true (sym f ∙ agree_between limit A E T (within_trans A D E begun_within s.up) (bounded_next T h r) t))

      pub closing_filed : IsFiled n J new
      closing_filed = filed_next

      pub closing_kept : (Y : Set) → within Y A ≡ true → HasKept Y old new
      closing_kept = kept_next

      -- one attribute more
      module _ (all : list_all (λ i. within i.conclusion E) (bucket z new) ≡ true) (agree : agree_before limit A E ≡ true) {Q : Set}
          (q : Q ≡ set P z true) where
        z_inside : z < length P
        z_inside = omega (arith, member_below D z z_has, c.d_wide, c.p_wide)

        wider : within P (set P z true) ≡ true
        wider = within_set P z

        covers_next : WaitOrConclude J new (set P z true) E
        covers_next p out =
            let all_mid : Outside P (λ i. within i.conclusion E || p i) mid =
            s.kept P c.part z_lacks (λ i. within i.conclusion E || p i) (λ w l. elim (cases_eq w z) [
              | inl e ↦ subst (λ v. list_all (λ i. within i.conclusion E || p i) (bucket v new) ≡ true) (sym e)
                  (list_all-mono (λ i. within i.conclusion E) (λ i. within i.conclusion E || p i)
                  (λ i h. or_left (within i.conclusion E) (p i) h) (bucket z new) all)
              | inr other ↦ list_all-mono p (λ i. within i.conclusion E || p i) (λ i h. or_right (within i.conclusion E) (p i) h)
                  (bucket w new) (out w (get_or-set_other P z w true false other ∙ l))
            ]) in
            list_all-mono (λ i. within i.conclusion D || (within i.conclusion E || p i)) (λ i. within i.conclusion E || p i)
            (λ i h. elim (cases_Bool (within i.conclusion D)) [
              | inl t ↦ or_left (within i.conclusion E) (p i) (within_trans i.conclusion D E t s.up)
              | inr f ↦ subst (λ b. (b || (within i.conclusion E || p i)) ≡ true) f h
            ]) J (c.covers (λ i. within i.conclusion E || p i) all_mid)

        pub closing_next : IsClosing n J limit A X Q E old new
        closing_next = subst (λ R. IsClosing n J limit A X R E old new) (sym q) (record {
          p_wide = length-set P z true ∙ c.p_wide;
          d_wide = s.wide ∙ c.d_wide;
          begun = within_trans A P (set P z true) c.begun wider;
          part = set_within P E z (within_trans P D E c.part s.up) (within_at_place D E s.up z z_has);
          above = within_trans X D E c.above s.up;
          filed = filed_next;
          covers = covers_next;
          kept = kept_next;
          bounded = bounded_next;
          agree = agree;
        })

        pub closing_smaller : n - size Q < n - size P
        closing_smaller =
            let grown : size (set P z true) ≡ size P + 1 = size-set P z z_inside z_lacks in
            let same_size : size Q ≡ size (set P z true) = ap size q in
            let bound : size (set P z true) ≤ length (set P z true) = size_le (set P z true) in
            let w : length (set P z true) ≡ n = length-set P z true ∙ c.p_wide in
            omega (arith, grown, same_size, bound, w)

    -- all attributes of the set were looked through
    pub closing_end : length X ≡ n → first_missing 0 D P ≡ None → IsClosedBefore J mid limit A X D
    closing_end x_wide none =
        let one : P ≡ D = within_antisymm P D (c.p_wide ∙ sym c.d_wide) c.part (first_missing_none 0 D P none) in
        let good : IsGood J mid D = subst (λ R. WaitOrConclude J mid R D) one c.covers in
        record {
          closure = record {
            wide = c.d_wide ∙ sym x_wide;
            above = c.above;
            respecting = list_all-mono (λ i. within i.conclusion D || not (within i.premise D)) (respects D)
                (λ i h. turned (within i.conclusion D) (not (within i.premise D)) h) J
                (good (λ i. not (within i.premise D)) (λ w l. list_all-mono (λ i. get_or i.premise w false) (λ i. not (within i.premise D))
                (λ i h. ap not (not_within_at i.premise D w h l)) (bucket w mid) (c.filed.sorted w)));
            least = c.bounded;
          };
          agree = c.agree;
          good = good;
        }
      where
        turned : (a b : Bool) → (a || b) ≡ true → (b || a) ≡ true
        turned true true h = refl
        turned true false h = refl
        turned false b h = or_left b false h
