-- A member more that waits, and what the tree needs of a closure.
use Rattle.std.proofs.Common.{◌≡◌, ℕ, zero, suc, ◌+◌, ◌<◌, Bool, true, false, ◌&&◌, ◌||◌, Some, None, List, [], ◌∷◌, ◌++◌, length, get_or}
use Rattle.std.proofs.Common.{Option, IfSome, take, refl, sym, ap, ◌∙◌, subst, arith, inl, inr}
use Rattle.std.proofs.lemmas.Bool.{false≢true, and_parts, and_from, cases_eq, or_left, or_right}
use Rattle.std.proofs.lemmas.List.{take_more}
use Rattle.std.proofs.lemmas.List.Sums.{AllPass-from_list_all}
use Rattle.std.proofs.lemmas.List.Folds.{list_all-append}
use Rattle.std.specs.List.{list_all}
use Rattle.fca_model.specs.Sets.{Set, within, agree_before}
use Rattle.fca_model.specs.Implications.{Rule, respects, respects_all}
use Rattle.fca_model.specs.Exploration.{first_missing}
use Rattle.fca_model.proofs.SetLemmas.{within_refl, within_trans, within_antisymm}
use Rattle.fca_model.proofs.ClosureLemmas.{respects_at}
use Rattle.fca_model.proofs.StepLemmas.{first_missing_none}
use Rattle.fca_model.proofs.ListLemmas.{list_all-mono}
use Rattle.attr_bits.proofs.DifferenceLemmas.{first_missing-parts}
use Rattle.attr_bits.proofs.PlaceLemmas.{member_below}
use Rattle.lectic_basis.proofs.BucketLemmas.{put_all}
use Rattle.lectic_basis.specs.Watches.{bucket, Outside, WaitOrConclude, IsGood, HasKept, IsFiled, IsPut, IsPutBefore, IsClosedBefore}
use Rattle.lectic_basis.specs.Watches.{Differs}

-- ---- one member more

module _ (n : ℕ) (J : List Rule) (old new : List (List Rule)) (w : ℕ) (i : Rule) (put : IsPut old new w i) where
  at_w : (p : Rule → Bool) → list_all p (bucket w new) ≡ (list_all p (bucket w old) && (p i && true))
  at_w p = ap (list_all p) put.here ∙ list_all-append p (bucket w old) (i ∷ [])

  pub put_filed : IsFiled n J old → get_or i.premise w false ≡ true → IsFiled n (J ++ i ∷ []) new
  put_filed filed has = record {
    room = put.room ∙ filed.room;
    sorted = λ v. elim (cases_eq v w) [
      | inl e ↦ subst (λ u. list_all (λ j. get_or j.premise u false) (bucket u new) ≡ true) (sym e)
          (at_w (λ j. get_or j.premise w false) ∙ and_from (list_all (λ j. get_or j.premise w false) (bucket w old))
          (get_or i.premise w false && true) (filed.sorted w) (and_from (get_or i.premise w false) true has refl))
      | inr other ↦ ap (list_all (λ j. get_or j.premise v false)) (put.elsewhere v other) ∙ filed.sorted v
    ];
    sound = λ p h.
        let parts = and_parts (list_all p J) (p i && true) (sym (list_all-append p J (i ∷ [])) ∙ h) in
        put_all p put (and_parts (p i) true parts.1).0 (filed.sound p parts.0);
  }

  pub put_kept : (X : Set) → HasKept X old new
  put_kept X p out v l = elim (cases_eq v w) [
    | inl e ↦ subst (λ u. list_all p (bucket u old) ≡ true) (sym e)
        (and_parts (list_all p (bucket w old)) (p i && true) (sym (at_w p) ∙ out w (subst (λ u. get_or X u false ≡ false) e l))).0
    | inr other ↦ ap (list_all p) (sym (put.elsewhere v other)) ∙ out v l
  ]

  pub put_good : (X : Set) → get_or X w false ≡ false → IsGood J old X → IsGood (J ++ i ∷ []) new X
  put_good X l good p out =
      let mine : p i ≡ true = (and_parts (p i) true (and_parts (list_all p (bucket w old)) (p i && true) (sym (at_w p) ∙ out w l)).1).0 in
      list_all-append (λ j. within j.conclusion X || p j) J (i ∷ [])
      ∙ and_from (list_all (λ j. within j.conclusion X || p j) J) ((within i.conclusion X || p i) && true) (good p (put_kept X p out))
      (and_from (within i.conclusion X || p i) true (or_right (within i.conclusion X) (p i) mine) refl)

-- what is kept of J, with a member more whose conclusion is within B
covers_more : (J : List Rule) (old new : List (List Rule)) (i : Rule) (A B : Set) → HasKept A old new → IsGood J old A → within A B ≡ true
    → within i.conclusion B ≡ true → WaitOrConclude (J ++ i ∷ []) new A B
covers_more J old new i A B kept good up mine p out =
    list_all-append (λ j. within j.conclusion B || p j) J (i ∷ [])
    ∙ and_from (list_all (λ j. within j.conclusion B || p j) J) ((within i.conclusion B || p i) && true)
    (list_all-mono (λ j. within j.conclusion A || p j) (λ j. within j.conclusion B || p j)
    (λ j h. wider (within j.conclusion A) (within j.conclusion B) (p j) (λ t. within_trans j.conclusion A B t up) h) J
    (good p (kept p out)))
    (and_from (within i.conclusion B || p i) true (or_left (within i.conclusion B) (p i) mine) refl)
  where
    wider : (a b c : Bool) → (a ≡ true → b ≡ true) → (a || c) ≡ true → (b || c) ≡ true
    wider true b c t h = or_left b c (t refl)
    wider false b c t h = or_right b c h

none_filed : (n : ℕ) (J : List Rule) (Bs : List (List Rule)) (i : Rule) → IsFiled n J Bs → IsFiled n (J ++ i ∷ []) Bs
none_filed n J Bs i filed = record {
  room = filed.room;
  sorted = filed.sorted;
  sound = λ p h. filed.sound p (and_parts (list_all p J) (p i && true) (sym (list_all-append p J (i ∷ [])) ∙ h)).0;
}

pub push_filed : (n : ℕ) (J : List Rule) (old new : List (List Rule)) (from : ℕ) (i : Rule) → IsPutBefore from old new i → IsFiled n J old
    → ((k : ℕ) → from ≡ suc k → get_or i.premise k false ≡ true) → IsFiled n (J ++ i ∷ []) new
push_filed n J old new zero i put filed has = subst (λ Bs. IsFiled n (J ++ i ∷ []) Bs) (sym put) (none_filed n J old i filed)
push_filed n J old new (suc k) i put filed has = put_filed n J old new k i put filed (has k refl)

pub push_good : (n : ℕ) (J : List Rule) (old new : List (List Rule)) (from : ℕ) (i : Rule) → IsPutBefore from old new i → (X : Set) (k : ℕ)
    → from ≡ suc k → get_or X k false ≡ false → IsGood J old X → IsGood (J ++ i ∷ []) new X
push_good n J old new zero i put X k e l good = absurd (omega (arith, e))
push_good n J old new (suc m) i put X k e l good = let same : k ≡ m = omega (arith, e) in
    put_good n J old new m i put X (subst (λ u. get_or X u false ≡ false) same l) good

pub push_covers : (n : ℕ) (J : List Rule) (old new : List (List Rule)) (from : ℕ) (i : Rule) → IsPutBefore from old new i → (A B : Set)
    → IsGood J old A → within A B ≡ true → within i.conclusion B ≡ true → WaitOrConclude (J ++ i ∷ []) new A B
push_covers n J old new zero i put A B good up mine =
    covers_more J old new i A B (λ p out. subst (λ Bs. Outside A p Bs) put out) good up mine
push_covers n J old new (suc k) i put A B good up mine = covers_more J old new i A B (put_kept n J old new k i put A) good up mine

-- ---- closures

-- what was good for a part stays good
pub kept_good : (J : List Rule) (old new : List (List Rule)) (X : Set) → HasKept X old new → IsGood J old X → IsGood J new X
kept_good J old new X kept good p out = good p (kept p out)

-- a good set covers what is larger
pub good_covers : (J : List Rule) (Bs : List (List Rule)) (A B : Set) → within A B ≡ true → IsGood J Bs A → WaitOrConclude J Bs A B
good_covers J Bs A B up good p out =
    list_all-mono (λ j. within j.conclusion A || p j) (λ j. within j.conclusion B || p j)
    (λ j h. wider (within j.conclusion A) (within j.conclusion B) (p j) (λ t. within_trans j.conclusion A B t up) h) J (good p out)
  where
    wider : (a b c : Bool) → (a ≡ true → b ≡ true) → (a || c) ≡ true → (b || c) ≡ true
    wider true b c t h = or_left b c (t refl)
    wider false b c t h = or_right b c h

-- the closure of a set that respects all members is the set
pub closed_good : (J : List Rule) (Bs : List (List Rule)) (limit : ℕ) (A B C : Set) (agrees : Bool)
    → (agrees ≡ true → IsClosedBefore J Bs limit A B C) → (agrees ≡ false → Differs J limit A B)
    → respects_all J B ≡ true → agree_before limit A B ≡ true → IsGood J Bs B
closed_good J Bs limit A B C false closed differs respecting agree =
    absurd (false≢true (sym (differs refl B (within_refl B) respecting) ∙ agree))
closed_good J Bs limit A B C true closed differs respecting agree =
    let h = closed refl in
    subst (λ X. IsGood J Bs X) (within_antisymm C B h.closure.wide (h.closure.least B (within_refl B) respecting) h.closure.above) h.good

-- ---- all members at the start

-- the first k members wait for an attribute outside X
pub record IsWaiting (n : ℕ) (J : List Rule) (X : Set) (k : ℕ) (Bs : List (List Rule)) : Type 0 where
  pub filed : IsFiled n (take k J) Bs
  pub good : IsGood (take k J) Bs X

pub waiting_none : {n : ℕ} {J : List Rule} {X : Set} {Bs : List (List Rule)} → length Bs ≡ n → ((w : ℕ) → bucket w Bs ≡ [])
    → IsWaiting n J X 0 Bs
waiting_none room empty = record {
  filed = record {
    room = room;
    sorted = λ w. ap (list_all (λ j. get_or j.premise w false)) (empty w);
    sound = λ p h w. ap (list_all p) (empty w);
  };
  good = λ p out. refl;
}

module _ {n : ℕ} {J : List Rule} {X : Set} {k : ℕ} {old : List (List Rule)} (w : IsWaiting n J X k old) (i : Rule) (lt : k < length J)
    (is : i ≡ get_or J k i) where
  next : take (k + 1) J ≡ take k J ++ i ∷ []
  next = take_more J k i lt ∙ ap (λ y. take k J ++ y ∷ []) (sym is)

  pub waiting_more : (new : List (List Rule)) (o : ℕ) → first_missing 0 i.premise X ≡ Some o → IsPut old new o i
      → IsWaiting n J X (k + 1) new
  waiting_more new o missing put =
      let parts = first_missing-parts i.premise X o missing in
      record {
        filed = subst (λ Zs. IsFiled n Zs new) (sym next) (put_filed n (take k J) old new o i put w.filed parts.0);
        good = subst (λ Zs. IsGood Zs new X) (sym next) (put_good n (take k J) old new o i put X parts.1 w.good);
      }

  pub waiting_same : first_missing 0 i.premise X ≡ None → respects_all J X ≡ true → IsWaiting n J X (k + 1) old
  waiting_same none r =
      let mine : respects X i ≡ true = ap (respects X) is ∙ AllPass-from_list_all (respects X) J r k i lt in
      let inside : within i.conclusion X ≡ true = respects_at X i mine (first_missing_none 0 i.premise X none) in
      record {
        filed = subst (λ Zs. IsFiled n Zs old) (sym next) (none_filed n (take k J) old i w.filed);
        good = subst (λ Zs. IsGood Zs old X) (sym next) (covers_more (take k J) old old i X X (λ p out. out) w.good (within_refl X) inside);
      }

-- what a set lacks of a premise is one of its attributes
pub missing_inside : (P X : Set) (n : ℕ) → length P ≡ n → (o : Option ℕ) → o ≡ first_missing 0 P X → IfSome o (λ z. z < n)
missing_inside P X n wide None e = tt
missing_inside P X n wide (Some z) e = omega (arith, member_below P z (first_missing-parts P X z (sym e)).0, wide)
