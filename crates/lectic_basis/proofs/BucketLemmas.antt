-- Buckets after one was put into a bucket or moved to another, and buckets of images.
use Rattle.std.proofs.Common.{◌≡◌, ◌≢◌, ℕ, zero, suc, ◌-◌, ◌<◌, Bool, true, false, not, ◌&&◌, ◌||◌, List, [], ◌∷◌, ◌++◌, length, map}
use Rattle.std.proofs.Common.{get_or, set, take, refl, sym, ap, ap₂, ◌∙◌, subst, arith, inl, inr, get_or-set_same, get_or-set_other}
use Rattle.std.proofs.Common.{length-set}
use Rattle.std.proofs.lemmas.Bool.{and_parts, and_from, cases_eq}
use Rattle.std.proofs.lemmas.List.{map-append, map-set, length-map, get_or-map, get_or_default, take-map, take-take, take-set}
use Rattle.std.proofs.lemmas.List.{length-take-le}
use Rattle.std.proofs.lemmas.List.Folds.{list_all-append, list_all-map}
use Rattle.std.proofs.lemmas.List.Sorted.{IsPermutation-swap_remove, list_any-IsPermutation}
use Rattle.std.specs.List.{list_all, list_any, swap_remove}
use Rattle.lectic_basis.specs.Watches.{bucket, InBuckets, IsPut, IsMoved}

-- ---- one taken out

module _ {X : Type 0} (p : X → Bool) where
  all_by_any : (xs : List X) → list_all p xs ≡ not (list_any (λ x. not (p x)) xs)
  all_by_any [] = refl
  all_by_any (x ∷ xs) = ap (λ b. p x && b) (all_by_any xs) ∙ go (p x) (list_any (λ x. not (p x)) xs)
    where
      go : (a b : Bool) → (a && not b) ≡ not (not a || b)
      go true b = refl
      go false b = refl

  swap_all : (xs : List X) (k : ℕ) (x : X) → k < length xs → x ≡ get_or xs k x → list_all p xs ≡ (p x && list_all p (swap_remove xs k x))
  swap_all xs k x lt is =
      all_by_any xs
      ∙ ap not (list_any-IsPermutation (λ x. not (p x)) xs (x ∷ swap_remove xs k x) (IsPermutation-swap_remove xs k x lt is))
      ∙ sym (all_by_any (x ∷ swap_remove xs k x))

swap_front : {X : Type 0} (xs : List X) (k : ℕ) (x : X) → k < length xs → take k (swap_remove xs k x) ≡ take k xs
swap_front {X = X} xs k x lt =
    let y : X = get_or xs (length xs - 1) x in
    take-take k (length xs - 1) (set xs k y) (omega arith) ∙ take-set xs k y

swap_fewer : {X : Type 0} (xs : List X) (k : ℕ) (x : X) → k < length xs → length (swap_remove xs k x) < length xs
swap_fewer {X = X} xs k x lt =
    let y : X = get_or xs (length xs - 1) x in
    let same : length (set xs k y) ≡ length xs = length-set xs k y in
    let e : length (take (length xs - 1) (set xs k y)) ≡ length xs - 1 =
    length-take-le (length xs - 1) (set xs k y) (omega (arith, same)) in
    omega (arith, e, lt)

-- ---- one empty bucket more

empty_more : {X : Type 0} (Es : List (List X)) (E : List X) → E ≡ [] → ((w : ℕ) → bucket w Es ≡ []) → (w : ℕ) → bucket w (Es ++ E ∷ []) ≡ []
empty_more [] E none empty zero = none
empty_more [] E none empty (suc w) = refl
empty_more (F ∷ Es) E none empty zero = empty 0
empty_more (F ∷ Es) E none empty (suc w) = empty_more Es E none (λ v. empty (suc v)) w

-- ---- the code's buckets

module _ {V X : Type 0} (f : V → List X) where
  pub bucket_is : (vs : List V) (n : ℕ) (v : V) → n < length vs → v ≡ get_or vs n v → f v ≡ bucket n (map f vs)
  bucket_is vs n v lt at = ap f at ∙ sym (get_or-map f vs n v [] lt)

  bucket_set_same : (vs : List V) (n : ℕ) (w : V) → n < length vs → bucket n (map f (set vs n w)) ≡ f w
  bucket_set_same vs n w lt = ap (bucket n) (map-set f vs n w) ∙ get_or-set_same (map f vs) n (f w) [] (omega (arith, lt, length-map vs f))

  bucket_set_other : (vs : List V) (n m : ℕ) (w : V) → m ≢ n → bucket m (map f (set vs n w)) ≡ bucket m (map f vs)
  bucket_set_other vs n m w other = ap (bucket m) (map-set f vs n w) ∙ get_or-set_other (map f vs) n m (f w) [] other

  length_set : (vs : List V) (n : ℕ) (w : V) → length (map f (set vs n w)) ≡ length (map f vs)
  length_set vs n w = length-map (set vs n w) f ∙ length-set vs n w ∙ sym (length-map vs f)

  pub put_is : (vs : List V) (w : ℕ) (v u : V) (i : X) → w < length vs → v ≡ get_or vs w v → f u ≡ f v ++ i ∷ []
      → IsPut (map f vs) (map f (set vs w u)) w i
  put_is vs w v u i lt at more = record {
    room = length_set vs w u;
    here = bucket_set_same vs w u lt ∙ more ∙ ap (λ is. is ++ i ∷ []) (bucket_is vs w v lt at);
    elsewhere = λ n other. bucket_set_other vs w n u other;
  }

  pub emptied_more : (vs us : List V) (v : V) → us ≡ vs ++ v ∷ [] → f v ≡ [] → ((w : ℕ) → bucket w (map f vs) ≡ []) → (w : ℕ)
      → bucket w (map f us) ≡ []
  emptied_more vs us v pushed none empty w = ap (λ (xs : List V). bucket w (map f xs)) pushed ∙ ap (bucket w) (map-append f vs (v ∷ []))
      ∙ empty_more (map f vs) (f v) none empty w

  pub still_is : (vs : List V) (z o : ℕ) (w v : V) → z < length vs → o ≢ z → v ≡ get_or (set vs o w) z v → f v ≡ bucket z (map f vs)
  still_is vs z o w v lt other at = bucket_is (set vs o w) z v (omega (arith, lt, length-set vs o w)) at
      ∙ bucket_set_other vs o z w (λ e. other (sym e))

  -- i was read, put last into bucket o, and then taken out of bucket z as r
  module _ (vs : List V) (z k o : ℕ) (u vo wo vz wz : V) (i r : X)
      (inside : z < length vs) (o_inside : o < length vs) (there : k < length (bucket z (map f vs))) (other : o ≢ z)
      (u_is : u ≡ get_or vs z u) (i_is : i ≡ get_or (f u) k i) (vo_is : vo ≡ get_or vs o vo) (wo_is : f wo ≡ f vo ++ i ∷ [])
      (vz_is : vz ≡ get_or (set vs o wo) z vz) (r_is : r ≡ get_or (f vz) k r) (wz_is : f wz ≡ swap_remove (f vz) k r) where
    abbrev old : List X
    old = bucket z (map f vs)

    fz : f vz ≡ old
    fz = still_is vs z o wo vz inside other vz_is

    r_at : r ≡ get_or old k r
    r_at = r_is ∙ ap (λ is. get_or is k r) fz

    i_at : i ≡ get_or old k i
    i_at = i_is ∙ ap (λ is. get_or is k i) (bucket_is vs z u inside u_is)

    one : r ≡ i
    one = r_at ∙ get_or_default old k r i there ∙ sym i_at

    new_z : bucket z (map f (set (set vs o wo) z wz)) ≡ swap_remove old k i
    new_z = bucket_set_same (set vs o wo) z wz (omega (arith, inside, length-set vs o wo)) ∙ wz_is ∙ ap₂ (λ is x. swap_remove is k x) fz one

    pub moved_is : IsMoved (map f vs) (map f (set (set vs o wo) z wz)) z k o i
    moved_is = record {
      room = length_set (set vs o wo) z wz ∙ length_set vs o wo;
      out = λ p. swap_all p old k i there i_at ∙ ap (λ is. p i && list_all p is) (sym new_z);
      into = bucket_set_other (set vs o wo) z o wz other ∙ bucket_set_same vs o wo o_inside ∙ wo_is
          ∙ ap (λ is. is ++ i ∷ []) (bucket_is vs o vo o_inside vo_is);
      elsewhere = λ w not_z not_o. bucket_set_other (set vs o wo) z w wz not_z ∙ bucket_set_other vs o w wo not_o;
      front = ap (take k) new_z ∙ swap_front old k i there;
      fewer = subst (λ is. length is < length old) (sym new_z) (swap_fewer old k i there);
    }

-- ---- what all in buckets pass

module _ {X : Type 0} (p : X → Bool) {old new : List (List X)} where
  pub put_all : {w : ℕ} {i : X} → IsPut old new w i → p i ≡ true → InBuckets p old → InBuckets p new
  put_all {w = w} {i = i} put mine h v = elim (cases_eq v w) [
    | inl e ↦ subst (λ u. list_all p (bucket u new) ≡ true) (sym e)
        (ap (list_all p) put.here ∙ list_all-append p (bucket w old) (i ∷ [])
        ∙ and_from (list_all p (bucket w old)) (p i && true) (h w) (and_from (p i) true mine refl))
    | inr other ↦ ap (list_all p) (put.elsewhere v other) ∙ h v
  ]

  pub moved_all : {z k o : ℕ} {i : X} → IsMoved old new z k o i → InBuckets p old → InBuckets p new
  moved_all {z = z} {o = o} {i = i} m h v =
      let parts = and_parts (p i) (list_all p (bucket z new)) (sym (m.out p) ∙ h z) in
      elim (cases_eq v z) [
        | inl e ↦ subst (λ u. list_all p (bucket u new) ≡ true) (sym e) parts.1
        | inr not_z ↦ elim (cases_eq v o) [
          | inl e ↦ subst (λ u. list_all p (bucket u new) ≡ true) (sym e)
              (ap (list_all p) m.into ∙ list_all-append p (bucket o old) (i ∷ [])
              ∙ and_from (list_all p (bucket o old)) (p i && true) (h o) (and_from (p i) true parts.0 refl))
          | inr not_o ↦ ap (list_all p) (m.elsewhere v not_z not_o) ∙ h v
        ]
      ]

-- ---- images

module _ {X Y : Type 0} (g : X → Y) where
  pub bucket_map : (w : ℕ) (Es : List (List X)) → bucket w (map (map g) Es) ≡ map g (bucket w Es)
  bucket_map w [] = refl
  bucket_map zero (E ∷ Es) = refl
  bucket_map (suc w) (E ∷ Es) = bucket_map w Es

  room_map : (old new : List (List X)) → length new ≡ length old → length (map (map g) new) ≡ length (map (map g) old)
  room_map old new e = length-map new (map g) ∙ e ∙ sym (length-map old (map g))

  last_map : (old new : List (List X)) (w : ℕ) (i : X) → bucket w new ≡ bucket w old ++ i ∷ []
      → bucket w (map (map g) new) ≡ bucket w (map (map g) old) ++ g i ∷ []
  last_map old new w i e = bucket_map w new ∙ ap (map g) e ∙ map-append g (bucket w old) (i ∷ [])
      ∙ ap (λ xs. xs ++ g i ∷ []) (sym (bucket_map w old))

  other_map : (old new : List (List X)) (w : ℕ) → bucket w new ≡ bucket w old → bucket w (map (map g) new) ≡ bucket w (map (map g) old)
  other_map old new w e = bucket_map w new ∙ ap (map g) e ∙ sym (bucket_map w old)

  module _ {old new : List (List X)} where
    pub put_map : {w : ℕ} {i : X} → IsPut old new w i → IsPut (map (map g) old) (map (map g) new) w (g i)
    put_map {w = w} {i = i} put = record {
      room = room_map old new put.room;
      here = last_map old new w i put.here;
      elsewhere = λ v other. other_map old new v (put.elsewhere v other);
    }

    pub moved_map : {z k o : ℕ} {i : X} → IsMoved old new z k o i → IsMoved (map (map g) old) (map (map g) new) z k o (g i)
    moved_map {z = z} {k = k} {o = o} {i = i} m = record {
      room = room_map old new m.room;
      out = λ p. ap (list_all p) (bucket_map z old) ∙ list_all-map p g (bucket z old) ∙ m.out (λ x. p (g x))
          ∙ ap (λ b. p (g i) && b) (sym (ap (list_all p) (bucket_map z new) ∙ list_all-map p g (bucket z new)));
      into = last_map old new o i m.into;
      elsewhere = λ v not_z not_o. other_map old new v (m.elsewhere v not_z not_o);
      front = ap (take k) (bucket_map z new) ∙ take-map g k (bucket z new) ∙ ap (map g) m.front ∙ sym (take-map g k (bucket z old))
          ∙ ap (take k) (sym (bucket_map z old));
      fewer = subst (λ Ys. length Ys < length (bucket z (map (map g) old))) (sym (bucket_map z new))
          (subst (λ Ys. length (map g (bucket z new)) < length Ys) (sym (bucket_map z old))
          (omega (arith, m.fewer, length-map (bucket z new) g, length-map (bucket z old) g)));
    }
