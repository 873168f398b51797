-- What the closure of an intent with one attribute more says of its branch.
use Rattle.std.proofs.Common.{◌≡◌, ◌≢◌, ℕ, suc, ◌+◌, ◌<◌, Bool, true, false, nat_eq, Option, None, Some, refl, List, ◌++◌, length, get_or}
use Rattle.std.proofs.Common.{set, sym, ap, ◌∙◌}
use Rattle.std.proofs.lemmas.List.{append-nil}
use Rattle.std.proofs.lemmas.Bool.{false≢true, eqb-true, eq-eqb}
use Rattle.std.specs.Option.{option_eq}
use Rattle.std.specs.Bool.{MatchBool}
use Rattle.fca_model.specs.Sets.{Set}
use Rattle.fca_model.specs.Context.{Context, closure}
use Rattle.fca_model.specs.Exploration.{first_missing}
use Rattle.lectic_concepts.specs.Branches.{branch, AreWitnesses}
use Rattle.lectic_concepts.proofs.BranchLemmas.{branch_member, branch_splits, with_found, with_none}
use Rattle.lectic_concepts.proofs.WitnessLemmas.{seen_fails}
use Rattle.std.proofs.Common.{add-one}

-- a has i
pub at_member : (K : Context) (A : Set) (i : ℕ) → get_or A i false ≡ true → branch K A i ≡ branch K A (i + 1)
at_member K A i has = branch_member K A i has ∙ ap (branch K A) (sym (add-one i))

module _ (K : Context) (A : Set) (i : ℕ) (lacks : get_or A i false ≡ false) (wide : length A ≡ K.width) (inside : i < K.width) (D : Set)
    (is : D ≡ closure K (set A i true)) where
  at_child : first_missing 0 D A ≡ Some i → branch K A i ≡ branch K A (i + 1) ++ branch K D (i + 1)
  at_child first = branch_splits K A i lacks ∙ ap (λ Zs. branch K A (suc i) ++ Zs) (with_found K A i lacks wide inside D is first)
      ∙ ap (λ k. branch K A k ++ branch K D k) (sym (add-one i))

  pub at_none : first_missing 0 D A ≢ Some i → branch K A i ≡ branch K A (i + 1)
  at_none other =
      branch_splits K A i lacks ∙ ap (λ Zs. branch K A (suc i) ++ Zs) (with_none K A i lacks wide inside D is other)
      ∙ append-nil (branch K A (suc i)) ∙ ap (branch K A) (sym (add-one i))

is_first : (o : Option ℕ) (i : ℕ) → option_eq nat_eq o (Some i) ≡ true → o ≡ Some i
is_first None i e = absurd (false≢true e)
is_first (Some k) i e = ap (λ n. Some n) (eqb-true k i e)

is_other : (o : Option ℕ) (i : ℕ) → option_eq nat_eq o (Some i) ≡ false → o ≢ Some i
is_other o i e h = false≢true (sym e ∙ ap (λ p. option_eq nat_eq p (Some i)) h ∙ eq-eqb i i refl)

-- whether i is the first attribute that the closure adds
pub child_if : (K : Context) (A : Set) (i : ℕ) → get_or A i false ≡ false → length A ≡ K.width → i < K.width → (D : Set)
    → D ≡ closure K (set A i true)
    → (b : Bool) → b ≡ option_eq nat_eq (first_missing 0 D A) (Some i)
    → MatchBool b (branch K A i ≡ branch K A (i + 1) ++ branch K D (i + 1)) (branch K A i ≡ branch K A (i + 1))
child_if K A i lacks wide inside D is true e = at_child K A i lacks wide inside D is (is_first (first_missing 0 D A) i (sym e))
child_if K A i lacks wide inside D is false e = at_none K A i lacks wide inside D is (is_other (first_missing 0 D A) i (sym e))

-- a member of the closure before i was seen: either A has it, or the closure adds it
pub open_or_seen : (K : Context) (A : Set) (ws : List ℕ) (i w : ℕ) (b : Bool) → get_or A i false ≡ false → length A ≡ K.width → i < K.width
    → AreWitnesses K A ws → get_or ws i i ≡ w → w < i → b ≡ get_or A w false
    → MatchBool b (get_or A i false ≡ false) (branch K A i ≡ branch K A (i + 1))
open_or_seen K A ws i w true lacks wide inside seen is before e = lacks
open_or_seen K A ws i w false lacks wide inside seen is before e =
    at_none K A i lacks wide inside (closure K (set A i true)) refl
    (seen_fails K A ws i w seen is before (sym e) (closure K (set A i true)) refl)
