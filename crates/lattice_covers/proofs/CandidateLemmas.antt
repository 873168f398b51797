-- How the next larger intents of A are found. An intent B above A has a least attribute k that A lacks, and the closure of A with k lies
-- within B. The attributes are tried, the last first, and L has the members of A and the attributes that gave nothing. If the closure D of
-- A with i has no new attributes but i and some of L, it is put into the list: no other set of the list lies within D, and D lies within
-- none. Otherwise D has another new attribute j. If j is still to be tried, no intent above A has i as its least new attribute. If j gave
-- a set, that set lies within D. So nothing is missed without D.
use Rattle.std.proofs.Common.{◌≡◌, ◌≢◌, ℕ, suc, ◌<◌, ◌≤◌, Bool, true, false, List, [], ◌∷◌, ◌++◌, length, get_or, set, refl, sym, ap, ◌∙◌}
use Rattle.std.proofs.Common.{subst, arith, inl, inr, get_or-set_same, get_or-set_other, length-set}
use Rattle.std.proofs.lemmas.Bool.{cases_eq, cases_lt, false≢true}
use Rattle.std.specs.List.{list_any}
use Rattle.std.specs.Ordering.{is_lt}
use Rattle.fca_model.specs.Sets.{Set, within, strictly_within, increasing}
use Rattle.fca_model.specs.Context.{Context, closure}
use Rattle.fca_model.specs.Pseudo.{intents}
use Rattle.fca_model.proofs.SetLemmas.{within_at_place, lectic_first, strictly-parts, strictly_from, lacks as missing}
use Rattle.attr_bits.proofs.PlaceLemmas.{member_below}
use Rattle.lectic_concepts.proofs.AboveLemmas.{IsAbove, above_from_strictly}
use Rattle.lectic_concepts.proofs.IntentLemmas.{IsIntent, In, in_intents, of_intents, intent_with, has_with, within_with, with_least}
use Rattle.lattice_covers.proofs.MemberLemmas.{of_push, any_old, any_new, increasing-push}

-- intents that contain A strictly, in lectic order, of which each intent that contains A strictly contains one, and none of which lies
-- strictly within another
pub record LeadUp (K : Context) (A : Set) (Cs : List Set) : Type 0 where
  pub ordered : increasing Cs ≡ true
  pub sound : (X : Set) → In X Cs → In X (intents K) × (strictly_within A X ≡ true)
  pub complete : (B : Set) → In B (intents K) → strictly_within A B ≡ true → list_any (λ C. within C B) Cs ≡ true
  pub alone : (X Y : Set) → In X Cs → In Y Cs → strictly_within X Y ≡ true → ⊥

-- X is an intent that contains A and has its least new attribute from place i on
pub record IsUpper (K : Context) (A : Set) (i : ℕ) (X : Set) : Type 0 where
  pub intent : IsIntent K X
  pub larger : within A X ≡ true
  pub new : ℕ
  pub from : i ≤ new
  pub above : IsAbove A X new

-- and this attribute is no member of L
pub record IsFound (K : Context) (A : Set) (i : ℕ) (L X : Set) : Type 0 where
  pub upper : IsUpper K A i X
  pub free : get_or L upper.new false ≡ false

-- a set of the list lies within B
abbrev pub Leads : List Set → Set → Type 0
Leads Cs B = list_any (λ C. within C B) Cs ≡ true

-- the sets Cs were found and L is settled, for the attributes from place i on
pub record IsReached (K : Context) (A : Set) (i : ℕ) (L : Set) (Cs : List Set) : Type 0 where
  pub wide : length L ≡ K.width
  pub larger : (j : ℕ) → get_or A j false ≡ true → get_or L j false ≡ true
  pub kept : (j : ℕ) → j < i → get_or L j false ≡ get_or A j false
  pub ordered : increasing Cs ≡ true
  pub sound : (X : Set) → In X Cs → IsFound K A i L X
  pub alone : (X Y : Set) → In X Cs → In Y Cs → strictly_within X Y ≡ true → ⊥
  pub free : (j : ℕ) → i ≤ j → get_or L j false ≡ false → (B : Set) → IsIntent K B → within A B ≡ true → get_or B j false ≡ true
      → Leads Cs B
  pub complete : (B : Set) → IsUpper K A i B → Leads Cs B

pub reached_start : (K : Context) (A : Set) → length A ≡ K.width → IsReached K A K.width A []
reached_start K A wide = record {
  wide = wide;
  larger = λ j h. h;
  kept = λ j l. refl;
  ordered = refl;
  sound = λ X h. absurd (false≢true h);
  alone = λ X Y h k s. absurd (false≢true h);
  free = λ j l f B b w h. absurd (omega (arith, member_below B j h, b.wide, l));
  complete = λ B u. absurd (omega (arith, member_below B u.new u.above.has, u.intent.wide, u.from));
}

module _ (K : Context) (A : Set) (i k : ℕ) (e : k ≡ suc i) (wide : length A ≡ K.width) (inside : k ≤ K.width) (L : Set) (Cs : List Set)
    (r : IsReached K A k L Cs) where
  abbrev earlier : (X : Set) → IsUpper K A k X → IsUpper K A i X
  earlier X u = record { intent = u.intent; larger = u.larger; new = u.new; from = omega (arith, u.from); above = u.above }

  later : (X : Set) (u : IsUpper K A i X) → u.new ≢ i → IsUpper K A k X
  later X u other = record { intent = u.intent; larger = u.larger; new = u.new; from = omega (arith, u.from); above = u.above }

  pub reached_at_member : get_or A i false ≡ true → IsReached K A i L Cs
  reached_at_member h = record {
    wide = r.wide;
    larger = r.larger;
    kept = λ j l. r.kept j (omega arith);
    ordered = r.ordered;
    sound = λ X m. let f = r.sound X m in record { upper = earlier X f.upper; free = f.free };
    alone = r.alone;
    free = λ j l f. r.free j (omega (arith, at_other j l f)) f;
    complete = λ B u. r.complete B (later B u (λ here. false≢true (sym u.above.lacks ∙ ap (λ n. get_or A n false) here ∙ h)));
  }
    where
      at_other : (j : ℕ) → i ≤ j → get_or L j false ≡ false → j ≢ i
      at_other j l f here = false≢true (sym f ∙ r.larger j (ap (λ n. get_or A n false) here ∙ h))

  -- D is the closure of A with i
  module _ (lacks : get_or A i false ≡ false) (D : Set) (is : D ≡ closure K (set A i true)) where
    has : get_or D i false ≡ true
    has = has_with K A i wide (omega arith) D is

    larger : within A D ≡ true
    larger = within_with K A i wide (omega arith) D is

    least : (B : Set) → IsIntent K B → within A B ≡ true → get_or B i false ≡ true → within D B ≡ true
    least B b w h = with_least K A i wide (omega arith) D is B b w h

    -- a new attribute of D is i or settled
    settled : within D (set L i true) ≡ true → (j : ℕ) → get_or D j false ≡ true → j ≢ i → get_or L j false ≡ true
    settled t j d other = sym (get_or-set_other L i j true false other) ∙ within_at_place D (set L i true) t j d

    free_here : get_or L i false ≡ false
    free_here = r.kept i (omega arith) ∙ lacks

    above : within D (set L i true) ≡ true → IsAbove A D i
    above t = record { before = λ j l. before j l (get_or A j false) (get_or D j false) refl refl; lacks = lacks; has = has }
      where
        before : (j : ℕ) → j < i → (a d : Bool) → get_or A j false ≡ a → get_or D j false ≡ d → get_or A j false ≡ get_or D j false
        before j l true d ea ed = ea ∙ sym (within_at_place A D larger j ea)
        before j l false false ea ed = ea ∙ sym ed
        before j l false true ea ed = absurd (false≢true (sym ea ∙ sym (r.kept j (omega arith)) ∙ settled t j ed (omega arith)))

    pub reached_with : within D (set L i true) ≡ true → IsReached K A i L (Cs ++ D ∷ [])
    reached_with t = record {
      wide = r.wide;
      larger = r.larger;
      kept = λ j l. r.kept j (omega arith);
      ordered = increasing-push Cs D r.ordered (λ X m.
          let u = (r.sound X m).upper in
          ap is_lt (lectic_first X D i (λ j l. sym (u.above.before j (omega (arith, u.from))) ∙ (above t).before j l)
          (sym (u.above.before i (omega (arith, u.from))) ∙ lacks) has));
      sound = λ X m. elim (of_push X D Cs m) [
        | inl old ↦ let f = r.sound X old in record { upper = earlier X f.upper; free = f.free }
        | inr same_set ↦ subst (λ X. IsFound K A i L X) (sym same_set)
            (record {
              upper = record {
                intent = intent_with K A i wide (omega arith) D is;
                larger = larger;
                new = i;
                from = omega arith;
                above = above t;
              };
              free = free_here;
            })
      ];
      alone = λ X Y m n s. elim (of_push X D Cs m) [
        | inl x ↦ elim (of_push Y D Cs n) [
          | inl y ↦ r.alone X Y x y s
          | inr y ↦ old_within X x (subst (λ Z. within X Z ≡ true) y (strictly-parts X Y s).0)
        ]
        | inr x ↦ elim (of_push Y D Cs n) [
          | inl y ↦ within_old Y y (subst (λ Z. within Z Y ≡ true) x (strictly-parts X Y s).0)
          | inr y ↦ (strictly-parts X Y s).1 (x ∙ sym y)
        ]
      ];
      free = λ j l f B b w h. elim (cases_eq j i) [
        | inl here ↦ any_new (λ C. within C B) D Cs (least B b w (ap (λ n. get_or B n false) (sym here) ∙ h))
        | inr other ↦ any_old (λ C. within C B) D Cs (r.free j (omega arith) f B b w h)
      ];
      complete = λ B u. elim (cases_eq u.new i) [
        | inl here ↦ any_new (λ C. within C B) D Cs (least B u.intent u.larger (ap (λ n. get_or B n false) (sym here) ∙ u.above.has))
        | inr other ↦ any_old (λ C. within C B) D Cs (r.complete B (later B u other))
      ];
    }
      where
        old_within : (X : Set) → In X Cs → within X D ≡ true → ⊥
        old_within X m w =
            let f = r.sound X m in
            false≢true (sym f.free ∙ settled t f.upper.new (within_at_place X D w f.upper.new f.upper.above.has)
            (omega (arith, f.upper.from)))

        within_old : (Y : Set) → In Y Cs → within D Y ≡ true → ⊥
        within_old Y m w =
            let f = r.sound Y m in
            false≢true (sym lacks ∙ f.upper.above.before i (omega (arith, f.upper.from)) ∙ within_at_place D Y w i has)

    pub reached_without : within D (set L i true) ≡ false → IsReached K A i (set L i true) Cs
    reached_without t = record {
      wide = length-set L i true ∙ r.wide;
      larger = λ j h. elim (cases_eq j i) [
        | inl here ↦ absurd (false≢true (sym lacks ∙ ap (λ n. get_or A n false) (sym here) ∙ h))
        | inr other ↦ get_or-set_other L i j true false other ∙ r.larger j h
      ];
      kept = λ j l. get_or-set_other L i j true false (omega arith) ∙ r.kept j (omega arith);
      ordered = r.ordered;
      sound = λ X m.
          let f = r.sound X m in
          record { upper = earlier X f.upper; free = get_or-set_other L i f.upper.new true false (omega (arith, f.upper.from)) ∙ f.free };
      alone = r.alone;
      free = λ j l f. r.free j (omega (arith, not_here j f)) (sym (get_or-set_other L i j true false (not_here j f)) ∙ f);
      complete = λ B u. elim (cases_eq u.new i) [
        | inl here ↦ led B u here
        | inr other ↦ r.complete B (later B u other)
      ];
    }
      where
        not_here : (j : ℕ) → get_or (set L i true) j false ≡ false → j ≢ i
        not_here j f here = false≢true (sym f ∙ ap (λ n. get_or (set L i true) n false) here
            ∙ get_or-set_same L i true false (omega (arith, r.wide)))

        led : (B : Set) (u : IsUpper K A i B) → u.new ≡ i → Leads Cs B
        led B u here =
            let m = missing (set L i true) D (length-set L i true ∙ r.wide ∙ sym (intent_with K A i wide (omega arith) D is).wide) t in
            let other : m.0 ≢ i = not_here m.0 m.2 in
            let free : get_or L m.0 false ≡ false = sym (get_or-set_other L i m.0 true false other) ∙ m.2 in
            let in_B : get_or B m.0 false ≡ true = within_at_place D B
            (least B u.intent u.larger (ap (λ n. get_or B n false) (sym here) ∙ u.above.has)) m.0 m.3 in
            elim (cases_lt m.0 i) [
              | inl before ↦ absurd (false≢true (sym free ∙ r.kept m.0 (omega arith) ∙ u.above.before m.0 (omega (arith, before, here))
                  ∙ in_B))
              | inr behind ↦ r.free m.0 (omega (arith, behind, other)) free B u.intent u.larger in_B
            ]

-- ---- all places

pub lead_up : (K : Context) (A L : Set) (Cs : List Set) → length A ≡ K.width → IsReached K A 0 L Cs → LeadUp K A Cs
lead_up K A L Cs wide r = record {
  ordered = r.ordered;
  sound = λ X h.
      let u = (r.sound X h).upper in (
        in_intents K X u.intent,
        strictly_from A X u.larger (λ same_set. false≢true
            (sym u.above.lacks ∙ ap (λ Y. get_or Y u.new false) same_set ∙ u.above.has)),
      );
  complete = λ B h s.
      let b = of_intents K B h in
      let w = above_from_strictly A B (wide ∙ sym b.wide) s in
      r.complete B (record { intent = b; larger = (strictly-parts A B s).0; new = w.0; from = omega arith; above = w.1 });
  alone = r.alone;
}
