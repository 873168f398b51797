-- Entries stand for the members at those places, also when the list has become longer.
use Rattle.std.proofs.Common.{◌≡◌, ℕ, suc, ◌<◌, Bool, true, List, [], ◌∷◌, ◌++◌, length, map, get_or, set, refl, sym, ap, ap₂, ◌∙◌, subst}
use Rattle.std.proofs.Common.{arith}
use Rattle.std.proofs.lemmas.Bool.{and_parts, ltb-true, lt-ltb}
use Rattle.std.proofs.lemmas.List.{get_or_append_left, get_or-map, length-map, length-append, map-set, set-get_or}
use Rattle.std.proofs.lemmas.List.Sums.{AllPass-from_list_all}
use Rattle.std.specs.List.{list_all}
use Rattle.fca_model.specs.Implications.{Rule, rule}
use Rattle.fca_model.proofs.ListLemmas.{list_all-mono}
use Rattle.implication_closure.specs.Closing.{RuleList}
use Rattle.lectic_basis.specs.Watches.{Watched, bucket, member_at, waiting_at, InBuckets, IsPut, IsMoved}
use Rattle.lectic_basis.specs.Entries.{is_entry, HaveEntries}
use Rattle.lectic_basis.proofs.BucketLemmas.{bucket_map, bucket_is, put_is, put_all, put_map, moved_map}

module _ {X : Type 0} {Y : Type 0} (passes : X → Bool) (g h : X → Y) (agree : (x : X) → passes x ≡ true → g x ≡ h x) where
  same_map : (xs : List X) → list_all passes xs ≡ true → map g xs ≡ map h xs
  same_map [] t = refl
  same_map (x ∷ xs) t = let parts = and_parts (passes x) (list_all passes xs) t in
      ap₂ (λ y ys. y ∷ ys) (agree x parts.0) (same_map xs parts.1)

  same_maps : (Es : List (List X)) → InBuckets passes Es → map (map g) Es ≡ map (map h) Es
  same_maps [] t = refl
  same_maps (E ∷ Es) t = ap₂ (λ ys Ys. ys ∷ Ys) (same_map E (t 0)) (same_maps Es (λ w. t (suc w)))

pub length_bucket_map : {X Y : Type 0} (g : X → Y) (w : ℕ) (Es : List (List X)) → length (bucket w (map (map g) Es)) ≡ length (bucket w Es)
length_bucket_map g w Es = ap length (bucket_map g w Es) ∙ length-map (bucket w Es) g

-- ---- one entry

module _ (J : List Rule) (Es : List (List ℕ)) (entries : HaveEntries J Es) (w k e : ℕ) (there : k < length (bucket w Es))
    (is : e ≡ get_or (bucket w Es) k e) where
  pub entry_inside : e < length J
  entry_inside = ltb-true e (length J) (ap (is_entry J) is ∙ AllPass-from_list_all (is_entry J) (bucket w Es) (entries w) k e there)

  pub entry_waits : waiting_at w k (map (map (member_at J)) Es) ≡ member_at J e
  entry_waits = ap (λ B. member_at B k) (bucket_map (member_at J) w Es) ∙ get_or-map (member_at J) (bucket w Es) k e (rule [] []) there
      ∙ ap (member_at J) (sym is)

-- ---- a longer list

module _ (J : List Rule) (i : Rule) (Es : List (List ℕ)) (entries : HaveEntries J Es) where
  still_at : (e : ℕ) → is_entry J e ≡ true → member_at (J ++ i ∷ []) e ≡ member_at J e
  still_at e h = get_or_append_left J (i ∷ []) (rule [] []) e (ltb-true e (length J) h)

  pub longer_entries : HaveEntries (J ++ i ∷ []) Es
  longer_entries w = list_all-mono (is_entry J) (is_entry (J ++ i ∷ []))
      (λ e h. lt-ltb e (length (J ++ i ∷ [])) (omega (arith, ltb-true e (length J) h, length-append J (i ∷ []))))
      (bucket w Es) (entries w)

  pub longer_view : map (map (member_at (J ++ i ∷ []))) Es ≡ map (map (member_at J)) Es
  longer_view = same_maps (is_entry J) (member_at (J ++ i ∷ [])) (member_at J) still_at Es entries

-- ---- as the code has it

same_set : {V X : Type 0} (f : V → List X) (vs : List V) (n : ℕ) (v u : V) → n < length vs → v ≡ get_or vs n v → f u ≡ f v
    → map f (set vs n u) ≡ map f vs
same_set f vs n v u lt is same = map-set f vs n u ∙ ap (set (map f vs) n) (same ∙ bucket_is f vs n v lt is) ∙ set-get_or (map f vs) n []

module _ {V : Type 0} (f : V → List ℕ) (L : RuleList) (vs : List V) (W : Watched) where
  abbrev pub Stored : Type 0
  Stored = (record { list = L; buckets = map (map (member_at L.members)) (map f vs) } ≡ W) × HaveEntries L.members (map f vs)

  module _ (s : Stored) where
    list_is : W.list ≡ L
    list_is = ap (λ (F : Watched). F.list) (sym s.0)

    buckets_is : W.buckets ≡ map (map (member_at L.members)) (map f vs)
    buckets_is = ap (λ (F : Watched). F.buckets) (sym s.0)

    pub stored_room : length W.buckets ≡ length vs
    stored_room = ap length buckets_is ∙ length-map (map f vs) (map (member_at L.members)) ∙ length-map vs f

    pub stored_inside : (n : ℕ) → n < length W.list.members → n < length L.members
    stored_inside n lt = subst (λ (M : RuleList). n < length M.members) list_is lt

    -- one bucket
    module _ (w : ℕ) (v : V) (inside : w < length W.buckets) (is : v ≡ get_or vs w v) where
      raw : f v ≡ bucket w (map f vs)
      raw = bucket_is f vs w v (omega (arith, inside, stored_room)) is

      pub stored_count : length (bucket w W.buckets) ≡ length (f v)
      stored_count = ap (λ Bs. length (bucket w Bs)) buckets_is ∙ length_bucket_map (member_at L.members) w (map f vs) ∙ ap length (sym raw)

      -- one entry
      module _ (k e : ℕ) (there : k < length (bucket w W.buckets)) (at_k : e ≡ get_or (f v) k e) where
        pub stored_there : k < length (bucket w (map f vs))
        stored_there = omega (arith, there, stored_count, ap length raw)

        e_is : e ≡ get_or (bucket w (map f vs)) k e
        e_is = at_k ∙ ap (λ es. get_or es k e) raw

        pub stored_place : e < length L.members
        stored_place = entry_inside L.members (map f vs) s.1 w k e stored_there e_is

        pub stored_waits : waiting_at w k W.buckets ≡ member_at L.members e
        stored_waits = ap (waiting_at w k) buckets_is ∙ entry_waits L.members (map f vs) s.1 w k e stored_there e_is

        pub stored_moved : {o : ℕ} {new : List (List ℕ)} → IsMoved (map f vs) new w k o e
            → IsMoved W.buckets (map (map (member_at L.members)) new) w k o (waiting_at w k W.buckets)
        stored_moved {o = o} {new = new} m =
            subst (λ Bs. IsMoved Bs (map (map (member_at L.members)) new) w k o (waiting_at w k W.buckets)) (sym buckets_is)
            (subst (λ j. IsMoved (map (map (member_at L.members)) (map f vs)) (map (map (member_at L.members)) new) w k o j)
            (sym stored_waits) (moved_map (member_at L.members) m))

      pub stored_put : (e : ℕ) (u : V) → f u ≡ f v ++ e ∷ []
          → IsPut W.buckets (map (map (member_at L.members)) (map f (set vs w u))) w (member_at W.list.members e)
      stored_put e u more =
          let new : List (List Rule) = map (map (member_at L.members)) (map f (set vs w u)) in
          subst (λ (M : RuleList). IsPut W.buckets new w (member_at M.members e)) (sym list_is)
          (subst (λ Bs. IsPut Bs new w (member_at L.members e)) (sym buckets_is)
          (put_map (member_at L.members) (put_is f vs w v u e (omega (arith, inside, stored_room)) is more)))

      pub stored_put_entries : (e : ℕ) (u : V) → f u ≡ f v ++ e ∷ [] → e < length W.list.members
          → HaveEntries L.members (map f (set vs w u))
      stored_put_entries e u more lt = put_all (is_entry L.members) (put_is f vs w v u e (omega (arith, inside, stored_room)) is more)
          (lt-ltb e (length L.members) (stored_inside e lt)) s.1

      pub stored_same_entries : {u : V} → f u ≡ f v → HaveEntries L.members (map f (set vs w u))
      stored_same_entries {u = u} same = subst (λ Es. HaveEntries L.members Es)
          (sym (same_set f vs w v u (omega (arith, inside, stored_room)) is same)) s.1
