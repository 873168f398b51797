-- Where an implication holds in all rows, none is a counterexample.
use Rattle.std.proofs.Common.{◌≡◌, ℕ, ◌+◌, ◌<◌, Bool, true, false, not, ◌&&◌, ◌||◌, List, [], ◌∷◌, Option, None, Some, length, get_or, set}
use Rattle.std.proofs.Common.{length-set, cond, refl, sym, ap, ◌∙◌, subst}
use Rattle.std.proofs.lemmas.Bool.{and_parts}
use Rattle.std.proofs.lemmas.Iterator.Adapters.{position_from-zero}
use Rattle.std.specs.Prelude.{position}
use Rattle.std.specs.List.{zip, list_all, position_from}
use Rattle.std.specs.Option.{is_none}
use Rattle.fca_model.specs.Sets.{Set, within}
use Rattle.fca_model.specs.Context.{Context, closure}
use Rattle.fca_model.specs.Implications.{Rule, respects, holds}
use Rattle.fca_model.proofs.SetLemmas.{within_set, within_refl, within_trans, set_within}
use Rattle.fca_model.proofs.ClosureLemmas.{within-closure, closure_extensive}
use Rattle.attr_bits.proofs.PlaceLemmas.{member_below}
use Rattle.extent_blocks.specs.Blocks.{NumberedBlock, IsExtent, IsExtentWith}
use Rattle.extent_blocks.proofs.ExtentLemmas.{extent_larger}
use Rattle.oracle_expert.specs.Oracles.{is_counterexample}

respecting_none : (i : Rule) (rows : List Set) (cs : List (Option ℕ)) → list_all (λ row. respects row i) rows ≡ true → (k : ℕ)
    → position_from (is_counterexample i) k (zip rows cs) ≡ None
respecting_none i [] cs h k = refl
respecting_none i (row ∷ rows) [] h k = refl
respecting_none i (row ∷ rows) (c ∷ cs) h k =
    let both = and_parts (respects row i) (list_all (λ row. respects row i) rows) h in
    ap (λ b. cond b (Some k) (position_from (is_counterexample i) (k + 1) (zip rows cs)))
    (no (within i.premise row) (within i.conclusion row) (is_none c) both.0)
    ∙ respecting_none i rows cs both.1 (k + 1)
  where
    no : (p q n : Bool) → (not p || q) ≡ true → ((p && not q) && n) ≡ false
    no true true n e = refl
    no true false n e = absurd (cc)
    no false q n e = refl

pub no_counterexample : (K : Context) (i : Rule) (cs : List (Option ℕ)) → length i.conclusion ≡ K.width → holds K i ≡ true
    → position (is_counterexample i) (zip K.rows cs) ≡ None
no_counterexample K i cs wide h = position_from-zero (is_counterexample i) (zip K.rows cs)
    ∙ respecting_none i K.rows cs (sym (within-closure K i.premise i.conclusion wide) ∙ h) 0

-- of the rows that contain a set each has each of its attributes
pub extent_with_own : (K : Context) (P : Set) (i : ℕ) (Ps : List NumberedBlock) → length P ≡ K.width → get_or P i false ≡ true → IsExtent K P Ps
    → IsExtentWith K P i Ps
extent_with_own K P i Ps wide has extent =
    let up : within P (set P i true) ≡ true = within_set P i in
    extent_larger K P P i Ps extent (member_below P i has) up (set_within P P i (within_refl P) has)
    (within_trans P (set P i true) (closure K (set P i true)) up (closure_extensive K (set P i true) (length-set P i true ∙ wide)))
