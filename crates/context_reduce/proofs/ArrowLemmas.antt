-- Arrows, as the loops find them, and what they show: an arrow that is there is written, since it lies where the object lacks the
-- attribute.
use Rattle.std.proofs.Common.{◌≡◌, ◌∙◌, ◌<◌, ◌+◌, ◌++◌, ◌∷◌, ◌&&◌, [], List, ℕ, Bool, true, false, not, ◌||◌, All, subst, Vec, Global}
use Rattle.std.proofs.Common.{length, map, get_or, refl, sym, ap, ap₂, arith, append_assoc}
use Rattle.std.proofs.lemmas.List.FromFn.{map-range_with_len_more, length-map-range_with_len, get_or-map-range_with_len}
use Rattle.std.proofs.lemmas.List.Elements.{All-get_or, All-from_get_or}
use Rattle.fca_model.proofs.ListLemmas.{list_any-map}
use Rattle.std.specs.List.{list_any, range_with_len, flat_map}
use Rattle.fca_model.specs.Sets.{Set, within}
use Rattle.fca_model.specs.Context.{Context}
use Rattle.fca_model.proofs.RangeLemmas.{range_more}
use Rattle.context_reduce.specs.declared.arrow.Arrow.{Arrow}
use Rattle.context_reduce.specs.Reduce.{row_at, attributes_above, meet_of_strictly_larger, up_arrow, down_arrow}
use Rattle.context_reduce.specs.Arrows.{arrow_of, arrow_at, arrow_table, points_up, points_down, TellIrreducibles}
use Rattle.context_reduce.specs.declared.arrow.Arrow.TheVariants.{Plain}
use Rattle.context_reduce.proofs.RangeLemmas.{append_nil}
use Rattle.context_reduce.proofs.ColumnLemmas.{larger_at, up_arrow_there, down_arrow_there}

-- by what the larger rows share, and by the attributes above
pub arrow_by_sets : (K : Context) (g m : ℕ) → m < K.width
    → arrow_of (get_or (row_at K g) m false) (get_or (meet_of_strictly_larger K (row_at K g)) m false) (within (attributes_above K m) (row_at K g))
    ≡ arrow_at K g m
arrow_by_sets K g m l =
    let r = row_at K g in
    ap (λ b. arrow_of (get_or r m false) b (within (attributes_above K m) r)) (larger_at K r m l)
    ∙ guarded (get_or r m false) _ (within (attributes_above K m) r)
  where
    guarded : (x d u : Bool) → arrow_of x d u ≡ arrow_of x (not x && d) (not x && u)
    guarded true d u = refl
    guarded false d u = refl

pub lists_more : (f : ℕ → List Arrow) (k : ℕ) (old new : List (Vec Arrow Global)) (made : Vec Arrow Global)
    → map (λ (v : Vec Arrow Global). v.items) old ≡ map f (range_with_len 0 k) → made.items ≡ f k → new ≡ old ++ made ∷ []
    → map (λ (v : Vec Arrow Global). v.items) new ≡ map f (range_with_len 0 (k + 1))
lists_more f k old new made o at n =
    ap (map (λ (v : Vec Arrow Global). v.items)) n ∙ map_push old ∙ ap₂ (λ Zs Z. Zs ++ Z ∷ []) o at
    ∙ sym (map-range_with_len_more f 0 k k (omega arith))
  where
    map_push : (vs : List (Vec Arrow Global)) → map (λ (v : Vec Arrow Global). v.items) (vs ++ made ∷ []) ≡ map
        (λ (v : Vec Arrow Global). v.items) vs ++ made.items ∷ []
    map_push [] = refl
    map_push (v ∷ vs) = ap (λ ys. v.items ∷ ys) (map_push vs)

pub arrows_is : (K : Context) (k : ℕ) (lists : List (List Arrow))
    → lists ≡ map (λ g. map (arrow_at K g) (range_with_len 0 K.width)) (range_with_len 0 k) → k ≡ length K.rows → lists ≡ arrow_table K
unfolding arrow_table
arrows_is K k lists e w = e ∙ ap (λ n. map (λ g. map (arrow_at K g) (range_with_len 0 K.width)) (range_with_len 0 n)) w

pub length-arrow_table : (K : Context) (lists : List (List Arrow)) → lists ≡ arrow_table K → length lists ≡ length K.rows
unfolding arrow_table
length-arrow_table K lists e = ap length e ∙ length-map-range_with_len (λ g. map (arrow_at K g) (range_with_len 0 K.width)) 0
    (length K.rows)

-- ---- what the arrows tell

any_agree : {X : Type 0} (p q : X → Bool) → ((x : X) → p x ≡ q x) → (xs : List X) → list_any p xs ≡ list_any q xs
any_agree p q h [] = refl
any_agree p q h (x ∷ xs) = ap₂ (λ a b. a || b) (h x) (any_agree p q h xs)

module _ (K : Context) where
  -- the arrows of object g
  row_arrows : ℕ → List Arrow
  row_arrows g = map (arrow_at K g) (range_with_len 0 K.width)

  up_is_written : (g m : ℕ) → up_arrow K g m ≡ points_up (arrow_at K g m)
  up_is_written g m = go (get_or (row_at K g) m false) (down_arrow K g m) (within (attributes_above K m) (row_at K g))
    where
      go : (x d u : Bool) → (not x && u) ≡ points_up (arrow_of x d (not x && u))
      go true d u = refl
      go false true true = refl
      go false true false = refl
      go false false true = refl
      go false false false = refl

  down_is_written : (g m : ℕ) → down_arrow K g m ≡ points_down (arrow_at K g m)
  down_is_written g m = go (get_or (row_at K g) m false) _ (up_arrow K g m)
    where
      go : (x d u : Bool) → (not x && d) ≡ points_down (arrow_of x (not x && d) u)
      go true d u = refl
      go false true true = refl
      go false true false = refl
      go false false true = refl
      go false false false = refl

  pub arrows_wide : (lists : List (List Arrow)) → lists ≡ arrow_table K → All (λ list. length list ≡ K.width) lists
  unfolding arrow_table row_arrows
  arrows_wide lists e = All-from_get_or (λ (list : List Arrow). length list ≡ K.width) lists [] (λ g l.
      let at : get_or lists g [] ≡ row_arrows g = ap (λ (Ls : List (List Arrow)). get_or Ls g []) e
      ∙ get_or-map-range_with_len row_arrows 0 (length K.rows) g g [] (subst (λ n. g < n) (length-arrow_table K lists e) l)
      (omega arith) in
      ap length at ∙ length-map-range_with_len (arrow_at K g) 0 K.width)

  pub arrows_tell : (lists : List (List Arrow)) → lists ≡ arrow_table K → All (λ (row : Set). length row ≡ K.width) K.rows
      → TellIrreducibles K lists
  unfolding arrow_table row_arrows
  arrows_tell lists e even = record {
    attributes = λ m l.
        up_arrow_there K m
        ∙ any_agree (λ g. up_arrow K g m) (λ g. points_up (get_or (row_arrows g) m Plain)) (λ g. up_is_written g m
        ∙ ap points_up (sym (get_or-map-range_with_len (arrow_at K g) 0 K.width m m Plain l (omega arith))))
        (range_with_len 0 (length K.rows))
        ∙ sym (ap (list_any (λ list. points_up (get_or list m Plain))) e
        ∙ list_any-map (λ list. points_up (get_or list m Plain)) row_arrows (range_with_len 0 (length K.rows)));
    objects = λ g l.
        down_arrow_there K g (All-get_or (λ (row : Set). length row ≡ K.width) K.rows g [] l even)
        ∙ any_agree (down_arrow K g) (λ m. points_down (arrow_at K g m)) (down_is_written g) (range_with_len 0 K.width)
        ∙ sym (ap (λ (Ls : List (List Arrow)). list_any points_down (get_or Ls g [])) e
        ∙ ap (list_any points_down) (get_or-map-range_with_len row_arrows 0 (length K.rows) g g [] l (omega arith))
        ∙ list_any-map points_down (arrow_at K g) (range_with_len 0 K.width));
  }

-- one line more
pub text_more : (head : List ℕ) (f : ℕ → List ℕ) (k : ℕ) (old new : List ℕ) → old ≡ head ++ flat_map f (range_with_len 0 k)
    → new ≡ old ++ f k → new ≡ head ++ flat_map f (range_with_len 0 (k + 1))
text_more head f k old new o n =
    n ∙ ap (λ xs. xs ++ f k) o ∙ append_assoc head (flat_map f (range_with_len 0 k)) (f k)
    ∙ ap (λ xs. head ++ xs) (sym (ap (flat_map f) (range_more 0 k k (omega arith)) ∙ push (range_with_len 0 k)))
  where
    push : (xs : List ℕ) → flat_map f (xs ++ k ∷ []) ≡ flat_map f xs ++ f k
    push [] = append_nil (f k)
    push (x ∷ xs) = ap (λ ys. f x ++ ys) (push xs) ∙ sym (append_assoc (f x) (flat_map f xs) (f k))
