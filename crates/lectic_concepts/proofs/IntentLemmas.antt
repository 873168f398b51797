-- Intents: members of their list, and the least intent that contains a set and one attribute more.
use Rattle.std.proofs.Common.{◌≡◌, All, ℕ, ◌<◌, true, false, length, get_or, set, sym, ap, ◌∙◌, subst, arith, inl, inr, eqb, eqb-true}
use Rattle.std.proofs.Common.{ne_eqb, get_or-set_same, get_or-set_other, length-set, List}
use Rattle.std.proofs.lemmas.Bool.{cases_eq, false≢true}
use Rattle.std.proofs.lemmas.List.Elements.{All-filter}
use Rattle.std.proofs.lemmas.List.Folds.{list_all_at}
use Rattle.std.specs.List.{list_all, list_any}
use Rattle.fca_model.specs.Sets.{Set, same, within, all_sets, increasing}
use Rattle.fca_model.specs.Context.{Context, closure, is_closed}
use Rattle.fca_model.specs.Pseudo.{intents}
use Rattle.fca_model.proofs.SetLemmas.{same-true, same_from, within_from_places, within_at_place, set_within, all_sets_increasing}
use Rattle.fca_model.proofs.SetLemmas.{all_sets_widths}
use Rattle.fca_model.proofs.SortedLemmas.{at_member, increasing-filter, in_filter, of_filter, in_all_sets}
use Rattle.fca_model.proofs.ClosureLemmas.{length-closure, closure_extensive, closure_monotone, closure_idempotent}

-- a closed set of the context's width
pub record IsIntent (K : Context) (C : Set) : Type 0 where
  pub wide : length C ≡ K.width
  pub closed : is_closed K C ≡ true

-- X is in the list
abbrev pub In : Set → List Set → Type 0
In X Xs = list_any (same X) Xs ≡ true

pub in_intents : (K : Context) (X : Set) → IsIntent K X → In X (intents K)
unfolding intents
in_intents K X h = in_filter (is_closed K) X (all_sets K.width) (in_all_sets K.width X h.wide) h.closed

pub of_intents : (K : Context) (X : Set) → In X (intents K) → IsIntent K X
unfolding intents
of_intents K X h =
    let parts = of_filter (is_closed K) X (all_sets K.width) h in
    record {
      wide = eqb-true (length X) K.width (at_member (λ A. eqb (length A) K.width) X (all_sets K.width) parts.0
          (all_sets_widths K.width));
      closed = parts.1;
    }

pub intents_increasing : (K : Context) → increasing (intents K) ≡ true
unfolding intents
intents_increasing K = increasing-filter (is_closed K) (all_sets K.width) (all_sets_increasing K.width)

wide_at : (n : ℕ) (Xs : List Set) → list_all (λ A. eqb (length A) n) Xs ≡ true → (i : ℕ) (d : Set) → i < length Xs
    → length (get_or Xs i d) ≡ n
wide_at n Xs h i d l = elim (cases_eq (length (get_or Xs i d)) n) [
  | inl e ↦ e
  | inr other ↦ absurd (false≢true (sym (list_all_at (λ A. eqb (length A) n) Xs i d l (ne_eqb _ n other)) ∙ h))
]

-- all intents are as wide as the context
pub intents_wide : (K : Context) → All (λ A. length A ≡ K.width) (intents K)
unfolding intents
intents_wide K = All-filter (is_closed K) (λ A. length A ≡ K.width) (all_sets K.width)
    (wide_at K.width (all_sets K.width) (all_sets_widths K.width))

-- ---- closures

pub closed-closure : (K : Context) (A : Set) → length A ≡ K.width → IsIntent K (closure K A)
closed-closure K A e = record {
  wide = length-closure K A;
  closed = same_from (closure K A) (closure K (closure K A)) (sym (closure_idempotent K A e));
}

-- the closure of A lies within each intent that contains A
pub closure_least : (K : Context) (A C : Set) → IsIntent K C → within A C ≡ true → within (closure K A) C ≡ true
closure_least K A C c h = subst (λ X. within (closure K A) X ≡ true) (sym (same-true C (closure K C) c.closed)) (closure_monotone K A C h)

-- D is the closure of P with attribute i
module _ (K : Context) (P : Set) (i : ℕ) (wide : length P ≡ K.width) (inside : i < K.width) (D : Set)
    (is : D ≡ closure K (set P i true)) where
  long : length (set P i true) ≡ K.width
  long = length-set P i true ∙ wide

  bigger : within (set P i true) D ≡ true
  bigger = subst (λ X. within (set P i true) X ≡ true) (sym is) (closure_extensive K (set P i true) long)

  pub intent_with : IsIntent K D
  intent_with = subst (λ X. IsIntent K X) (sym is) (closed-closure K (set P i true) long)

  pub has_with : get_or D i false ≡ true
  has_with = within_at_place (set P i true) D bigger i (get_or-set_same P i true false (omega arith))

  pub within_with : within P D ≡ true
  within_with = within_from_places P D (λ j l t. elim (cases_eq j i) [
    | inl here ↦ ap (λ x. get_or D x false) here ∙ has_with
    | inr other ↦ within_at_place (set P i true) D bigger j (get_or-set_other P i j true false other ∙ t)
  ])

  -- it is the least intent that contains P and i
  pub with_least : (C : Set) → IsIntent K C → within P C ≡ true → get_or C i false ≡ true → within D C ≡ true
  with_least C c h has = subst (λ X. within X C ≡ true) (sym is) (closure_least K (set P i true) C c (set_within P C i h has))
