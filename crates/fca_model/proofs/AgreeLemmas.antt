-- A context that has only rows of another, and whose basis holds in the other, has the same closures: fewer rows can only make a closure
-- larger; and what is
-- closed by all rows respects the basis of the few, so it is closed by the few. With the closures the pseudo-intents and the bases are the
-- same.
use Rattle.std.proofs.Common.{◌≡◌, ℕ, zero, suc, Bool, true, not, ◌&&◌, ◌||◌, List, [], ◌∷◌, map, length, filter, refl, sym, ap, ap₂, ◌∙◌}
use Rattle.std.proofs.Common.{subst, eqb, eqb-true}
use Rattle.std.proofs.lemmas.Bool.{and_parts}
use Rattle.std.specs.List.{list_all, list_any}
use Rattle.fca_model.specs.Sets.{Set, within, size, same, strictly_within, all_sets}
use Rattle.fca_model.specs.Context.{Context, closure, is_closed}
use Rattle.fca_model.specs.Implications.{Rule, rule, respects, respects_all, holds}
use Rattle.fca_model.specs.Pseudo.{pseudo_known, pseudo_below, basis_known}
use Rattle.fca_model.proofs.ListLemmas.{list_all-mono, filter_agree_on, list_all-filter_kept}
use Rattle.fca_model.proofs.SetLemmas.{within_antisymm, same-true, same_from, all_sets_agree, all_sets_widths}
use Rattle.fca_model.proofs.SortedLemmas.{at_member}
use Rattle.fca_model.proofs.ClosureLemmas.{within-closure, length-closure, closure_extensive, closure_monotone, closure_idempotent}
use Rattle.fca_model.proofs.ClosureLemmas.{closure_in_rows}
use Rattle.fca_model.proofs.PseudoLemmas.{holds_respected, respecting_closed}

module _ (n : ℕ) (few all : List Set) (S : List Rule) (part : list_all (λ row. list_any (same row) all) few ≡ true) where
  abbrev K : Context
  K = record { width = n; rows = few }

  abbrev D : Context
  D = record { width = n; rows = all }

  module _ (known : list_all (holds D) S ≡ true) (true_of_all : list_all (holds D) (basis_known S K) ≡ true) where
    -- what all rows pass, the few pass
    few_pass : (p : Set → Bool) → list_all p all ≡ true → list_all p few ≡ true
    few_pass p h = list_all-mono (λ row. list_any (same row) all) p (λ row t. at_member p row all t h) few part

    pub same_closure : (A : Set) → length A ≡ n → closure K A ≡ closure D A
    same_closure A e =
        let T = closure D A in
        let closed : is_closed D T ≡ true = same_from T (closure D T) (sym (closure_idempotent D A e)) in
        let in_S : respects_all S T ≡ true = list_all-mono (holds D) (respects T) (λ i. holds_respected D T i closed) S known in
        let in_B : respects_all (basis_known S K) T ≡ true =
        list_all-mono (holds D) (respects T) (λ i. holds_respected D T i closed) (basis_known S K) true_of_all in
        let closed_too = same-true T (closure K T) (respecting_closed S K T (length-closure D A) in_S in_B) in
        within_antisymm (closure K A) T (length-closure K A ∙ sym (length-closure D A))
        (subst (λ X. within (closure K A) X ≡ true) (sym closed_too) (closure_monotone K A T (closure_extensive D A e)))
        (within-closure K A T (length-closure D A) ∙ few_pass (λ row. respects row (rule A T)) (closure_in_rows D A))

    pseudo_same : (k : ℕ) (P : Set) → length P ≡ n → pseudo_below k S K P ≡ pseudo_below k S D P
    unfolding pseudo_below
    pseudo_same zero P e = refl
    pseudo_same (suc k) P e =
        ap₂ (λ (b c : Bool). respects_all S P && not b && c) (ap (same P) (same_closure P e))
        (all_sets_agree (λ Q. not (strictly_within Q P && pseudo_below k S K Q) || within (closure K Q) P)
        (λ Q. not (strictly_within Q P && pseudo_below k S D Q) || within (closure D Q) P) n
        (λ Q w. ap₂ (λ (b : Bool) C. not (strictly_within Q P && b) || within C P) (pseudo_same k Q w) (same_closure Q w)))

    -- and so the same basis
    pub same_basis : basis_known S K ≡ basis_known S D
    unfolding basis_known pseudo_known
    same_basis =
        let wide : Set → Bool = λ P. eqb (length P) n in
        let members = filter_agree_on wide (λ P. pseudo_below (suc (size P)) S K P) (λ P. pseudo_below (suc (size P)) S D P)
        (λ P w. pseudo_same (suc (size P)) P (eqb-true (length P) n w)) (all_sets n) (all_sets_widths n) in
        rules_same (filter (λ P. pseudo_below (suc (size P)) S K P) (all_sets n))
        (list_all-filter_kept wide (λ P. pseudo_below (suc (size P)) S K P) (all_sets n) (all_sets_widths n))
        ∙ ap (map (λ P. rule P (closure D P))) members
      where
        rules_same : (Xs : List Set) → list_all (λ P. eqb (length P) n) Xs ≡ true
            → map (λ P. rule P (closure K P)) Xs ≡ map (λ P. rule P (closure D P)) Xs
        rules_same [] w = refl
        rules_same (X ∷ Xs) w =
            let ws = and_parts (eqb (length X) n) (list_all (λ P. eqb (length P) n) Xs) w in
            ap₂ (λ C rest. rule X C ∷ rest) (same_closure X (eqb-true (length X) n ws.0)) (rules_same Xs ws.1)

pub agreeing_basis : (S : List Rule) (K D : Context) → D.width ≡ K.width → list_all (λ row. list_any (same row) D.rows) K.rows ≡ true
    → list_all (holds D) S ≡ true → list_all (holds D) (basis_known S K) ≡ true → basis_known S K ≡ basis_known S D
agreeing_basis S K D w part known h =
    let D' : Context = record { width = K.width; rows = D.rows } in
    let e : D ≡ D' = ap (λ n. record { width = n; rows = D.rows }) w in
    same_basis K.width K.rows D.rows S part (subst (λ C. list_all (holds C) S ≡ true) e known)
    (subst (λ C. list_all (holds C) (basis_known S K) ≡ true) e h)
    ∙ ap (basis_known S) (sym e)
