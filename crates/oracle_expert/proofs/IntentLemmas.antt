-- A context and the context of all its intents have the same closures: a closure is an intent, and an intent contains the closure of each
-- set that it contains.
-- So they have one basis, and what holds in the one holds in the other.
use Rattle.std.proofs.Common.{◌≡◌, ◌∙◌, ℕ, zero, suc, Bool, true, not, ◌&&◌, ◌||◌, List, [], ◌∷◌, All, map, length, filter, eqb, eq-eqb}
use Rattle.std.proofs.Common.{eqb-true, refl, sym, ap, ap₂, subst}
use Rattle.std.proofs.lemmas.Bool.{and_parts, and_from}
use Rattle.std.proofs.lemmas.List.Elements.{All-head, All-tail}
use Rattle.std.specs.List.{list_all, list_any}
use Rattle.fca_model.specs.Sets.{Set, within, size, same, strictly_within, all_sets}
use Rattle.fca_model.specs.Context.{Context, closure, is_closed}
use Rattle.fca_model.specs.Implications.{Rule, rule, respects, respects_all, holds}
use Rattle.fca_model.specs.Pseudo.{pseudo_known, pseudo_below, basis_known, intents}
use Rattle.fca_model.proofs.ListLemmas.{list_all-mono, list_all-filter_kept, filter_agree_on, filter_passes}
use Rattle.fca_model.proofs.SetLemmas.{within_refl, within_trans, within_antisymm, same-true, same_from, all_sets_agree, all_sets_widths}
use Rattle.fca_model.proofs.SortedLemmas.{at_member, in_filter, in_all_sets}
use Rattle.fca_model.proofs.ClosureLemmas.{within-closure, length-closure, closure_extensive, closure_monotone, closure_idempotent}
use Rattle.fca_model.proofs.ClosureLemmas.{closure_in_rows, respects_at, respects_from}
use Rattle.fca_model.proofs.InvariantLemmas.{each}
use Rattle.oracle_expert.specs.Intents.{HasIntentsOf, are_intents}

-- ---- closures decide the basis

module _ (S : List Rule) (n : ℕ) (few all : List Set) where
  abbrev K : Context
  K = record { width = n; rows = few }

  abbrev D : Context
  D = record { width = n; rows = all }

  module _ (one : (A : Set) → length A ≡ n → closure K A ≡ closure D A) where
    pseudo_alike : (k : ℕ) (P : Set) → length P ≡ n → pseudo_below k S K P ≡ pseudo_below k S D P
    unfolding pseudo_below
    pseudo_alike zero P e = refl
    pseudo_alike (suc k) P e =
        ap₂ (λ (b c : Bool). respects_all S P && not b && c) (ap (same P) (one P e))
        (all_sets_agree (λ Q. not (strictly_within Q P && pseudo_below k S K Q) || within (closure K Q) P)
        (λ Q. not (strictly_within Q P && pseudo_below k S D Q) || within (closure D Q) P) n
        (λ Q w. ap₂ (λ (b : Bool) C. not (strictly_within Q P && b) || within C P) (pseudo_alike k Q w) (one Q w)))

    rules_alike : (Xs : List Set) → list_all (λ P. eqb (length P) n) Xs ≡ true
        → map (λ P. rule P (closure K P)) Xs ≡ map (λ P. rule P (closure D P)) Xs
    rules_alike [] w = refl
    rules_alike (X ∷ Xs) w =
        let ws = and_parts (eqb (length X) n) (list_all (λ P. eqb (length P) n) Xs) w in
        ap₂ (λ C rest. rule X C ∷ rest) (one X (eqb-true (length X) n ws.0)) (rules_alike Xs ws.1)

    basis_alike : basis_known S K ≡ basis_known S D
    unfolding basis_known pseudo_known
    basis_alike =
        let wide : Set → Bool = λ P. eqb (length P) n in
        let members = filter_agree_on wide (λ P. pseudo_below (suc (size P)) S K P) (λ P. pseudo_below (suc (size P)) S D P)
        (λ P w. pseudo_alike (suc (size P)) P (eqb-true (length P) n w)) (all_sets n) (all_sets_widths n) in
        rules_alike (filter (λ P. pseudo_below (suc (size P)) S K P) (all_sets n))
        (list_all-filter_kept wide (λ P. pseudo_below (suc (size P)) S K P) (all_sets n) (all_sets_widths n))
        ∙ ap (map (λ P. rule P (closure D P))) members

-- ---- the context of all intents

-- its rows are the intents of K
abbrev pub of_intents : Context → Context
of_intents K = record { width = K.width; rows = intents K }

pub of_intents-same : (C D : Context) → HasIntentsOf C D → of_intents D ≡ of_intents C
of_intents-same C D like = let w = like.width in let i = like.alike in cc

closed_wide : (K : Context) (X : Set) → is_closed K X ≡ true → length X ≡ K.width
closed_wide K X c = ap length (same-true X (closure K X) c) ∙ length-closure K X

intents_closed : (K : Context) → list_all (is_closed K) (intents K) ≡ true
unfolding intents
intents_closed K = filter_passes (is_closed K) (all_sets K.width)

-- a closed set is among the intents
among_intents : (K : Context) (X : Set) → is_closed K X ≡ true → list_any (same X) (intents K) ≡ true
unfolding intents
among_intents K X c = in_filter (is_closed K) X (all_sets K.width) (in_all_sets K.width X (closed_wide K X c)) c

pub intents_among : (K : Context) (sets : List Set) → are_intents K sets ≡ true
    → list_all (λ row. list_any (same row) (of_intents K).rows) sets ≡ true
intents_among K sets h = list_all-mono (is_closed K) (λ row. list_any (same row) (intents K)) (λ X c. among_intents K X c) sets h

-- where all rows of D are intents of C, closures in D contain those in C
closure_within : (C D : Context) → D.width ≡ C.width → are_intents C D.rows ≡ true → (A : Set) → within (closure C A) (closure D A) ≡ true
closure_within C D width h A =
    within-closure D A (closure C A) (length-closure C A ∙ sym width)
    ∙ list_all-mono (is_closed C) (λ row. respects row (rule A (closure C A)))
    (λ X c. respects_from X (rule A (closure C A))
    (λ inside. subst (λ (Z : Set). within (closure C A) Z ≡ true) (sym (same-true X (closure C X) c)) (closure_monotone C A X inside)))
    D.rows h

one_closure : (K : Context) (A : Set) → length A ≡ K.width → closure K A ≡ closure (of_intents K) A
one_closure K A e =
    let T = closure K A in
    let closed : is_closed K T ≡ true = same_from T (closure K T) (sym (closure_idempotent K A e)) in
    within_antisymm T (closure (of_intents K) A) (length-closure K A ∙ sym (length-closure (of_intents K) A))
    (closure_within K (of_intents K) refl (intents_closed K) A)
    (respects_at T (rule A (closure (of_intents K) A))
    (at_member (λ row. respects row (rule A (closure (of_intents K) A))) T (intents K) (among_intents K T closed)
    (closure_in_rows (of_intents K) A)) (closure_extensive K A e))

pub one_basis-intents : (S : List Rule) (K : Context) → basis_known S (of_intents K) ≡ basis_known S K
one_basis-intents S K = sym (basis_alike S K.width K.rows (intents K) (one_closure K))

-- what holds in the one holds in the other
pub holds-intents : (K : Context) (i : Rule) → holds K i ≡ true → holds (of_intents K) i ≡ true
holds-intents K i h = within_trans i.conclusion (closure K i.premise) (closure (of_intents K) i.premise) h
    (closure_within K (of_intents K) refl (intents_closed K) i.premise)

pub known-intents : (K : Context) (S : List Rule) → list_all (holds K) S ≡ true → list_all (holds (of_intents K)) S ≡ true
known-intents K S h = list_all-mono (holds K) (holds (of_intents K)) (λ i here. holds-intents K i here) S h

-- ---- contexts with the same intents

pub basis-intents : (S : List Rule) (C D : Context) → HasIntentsOf C D → basis_known S D ≡ basis_known S C
basis-intents S C D like = sym (one_basis-intents S D) ∙ ap (basis_known S) (of_intents-same C D like) ∙ one_basis-intents S C

pub intents-itself : (C D : Context) → D ≡ C → HasIntentsOf C D
intents-itself C D e = record { width = ap (λ (K : Context). K.width) e; alike = ap intents e }

-- where the rows of each are intents of the other
pub intents-mutual : (C D : Context) → D.width ≡ C.width → are_intents C D.rows ≡ true → are_intents D C.rows ≡ true → HasIntentsOf C D
unfolding intents
intents-mutual C D width there back = record { width = width; alike = same_intents }
  where
    closed_alike : (X : Set) → length X ≡ D.width → is_closed D X ≡ is_closed C X
    closed_alike X e =
        ap (same X) (within_antisymm (closure D X) (closure C X) (length-closure D X ∙ width ∙ sym (length-closure C X))
        (closure_within D C (sym width) back X) (closure_within C D width there X))

    same_intents : intents D ≡ intents C
    same_intents =
        filter_agree_on (λ X. eqb (length X) D.width) (is_closed D) (is_closed C) (λ X w. closed_alike X (eqb-true (length X) D.width w))
        (all_sets D.width) (all_sets_widths D.width)
        ∙ ap (λ n. filter (is_closed C) (all_sets n)) width

-- ---- rows are intents

wide_rows : (n : ℕ) (rows : List Set) → All (λ (row : Set). length row ≡ n) rows → list_all (λ row. eqb (length row) n) rows ≡ true
wide_rows n [] wide = refl
wide_rows n (row ∷ rows) wide =
    let Wide : Set → Type 0 = λ r. length r ≡ n in
    and_from (eqb (length row) n) (list_all (λ r. eqb (length r) n) rows) (eq-eqb (length row) n (All-head Wide row rows wide))
    (wide_rows n rows (All-tail Wide row rows wide))

pub rows_closed : (K : Context) → All (λ (row : Set). length row ≡ K.width) K.rows → are_intents K K.rows ≡ true
rows_closed K even =
    each (is_closed K) K.rows (λ r inside.
    let wide : length r ≡ K.width = eqb-true (length r) K.width
    (inside (λ row. eqb (length row) K.width) (wide_rows K.width K.rows even)) in
    let up : within (closure K r) r ≡ true = respects_at r (rule r (closure K r))
    (inside (λ row. respects row (rule r (closure K r))) (closure_in_rows K r)) (within_refl r) in
    same_from r (closure K r) (within_antisymm r (closure K r) (wide ∙ sym (length-closure K r)) (closure_extensive K r wide) up))

-- rows of a context are intents of it
pub part_closed : (C : Context) (rows : List Set) → All (λ (row : Set). length row ≡ C.width) C.rows
    → list_all (λ row. list_any (same row) C.rows) rows ≡ true → are_intents C rows ≡ true
part_closed C rows even part = list_all-mono (λ row. list_any (same row) C.rows) (is_closed C)
    (λ row there. at_member (is_closed C) row C.rows there (rows_closed C even)) rows part
