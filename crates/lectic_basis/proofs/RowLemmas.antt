-- Rows that are the same but for repetitions give the same closures, and with them the same pseudo-intents and the same basis.
use Rattle.std.proofs.Common.{◌≡◌, ◌<◌, ◌&&◌, ℕ, Bool, true, List, [], length, get_or, sym, ap, ◌∙◌, subst}
use Rattle.std.proofs.lemmas.List.Folds.{list_any_at}
use Rattle.std.proofs.lemmas.List.Sums.{AllPass-from_list_all}
use Rattle.std.specs.List.{list_all, list_any}
use Rattle.fca_model.specs.Sets.{Set, within, same}
use Rattle.fca_model.specs.Context.{Context, closure}
use Rattle.fca_model.specs.Implications.{Rule, rule, respects, holds}
use Rattle.fca_model.specs.Pseudo.{basis_known}
use Rattle.fca_model.proofs.ListLemmas.{list_all-mono, all_by_place, and-implied}
use Rattle.fca_model.proofs.SetLemmas.{within_antisymm, same_refl}
use Rattle.fca_model.proofs.ClosureLemmas.{length-closure, within-closure, closure_in_rows}
use Rattle.fca_model.proofs.PseudoLemmas.{basis_holds}
use Rattle.fca_model.proofs.AgreeLemmas.{agreeing_basis}
use Rattle.lectic_basis.specs.Rows.{HaveSameRows}

-- a set that stands in the list passes what all pass
pub all_with_repeated : (p : Set → Bool) (Xs : List Set) (k : ℕ) (E X : Set) → k < length Xs → E ≡ get_or Xs k E → E ≡ X
    → list_all p Xs ≡ (list_all p Xs && p X)
all_with_repeated p Xs k E X there at one =
    and-implied (list_all p Xs) (p X) (λ h. ap p (sym one ∙ at) ∙ AllPass-from_list_all p Xs h k E there)

-- each set is in the list
all_in_list : (Xs : List Set) → list_all (λ X. list_any (same X) Xs) Xs ≡ true
all_in_list Xs = all_by_place (λ X. list_any (same X) Xs) [] Xs
    (λ k l. list_any_at (same (get_or Xs k [])) Xs k [] l (same_refl (get_or Xs k [])))

pub same_rows_turned : (K D : Context) → HaveSameRows K D → HaveSameRows D K
same_rows_turned K D h = record { width = sym h.width; rows = λ p. sym (h.rows p) }

-- one closure lies within the other
closure_part : (K D : Context) → HaveSameRows K D → (A : Set) → within (closure K A) (closure D A) ≡ true
closure_part K D h A =
    let C = closure K A in
    within-closure D A C (length-closure K A ∙ h.width) ∙ sym (h.rows (λ row. respects row (rule A C))) ∙ closure_in_rows K A

pub same_rows_closure : (K D : Context) → HaveSameRows K D → (A : Set) → closure K A ≡ closure D A
same_rows_closure K D h A =
    within_antisymm (closure K A) (closure D A) (length-closure K A ∙ h.width ∙ sym (length-closure D A))
    (closure_part K D h A) (closure_part D K (same_rows_turned K D h) A)

-- what holds in one holds in the other
pub same_rows_hold : (K D : Context) → HaveSameRows K D → (S : List Rule) → list_all (holds K) S ≡ true → list_all (holds D) S ≡ true
same_rows_hold K D h S t = list_all-mono (holds K) (holds D)
    (λ i. subst (λ C. within i.conclusion C ≡ true) (same_rows_closure K D h i.premise)) S t

pub same_rows_basis : (K D : Context) → HaveSameRows K D → (S : List Rule) → list_all (holds D) S ≡ true
    → basis_known S K ≡ basis_known S D
same_rows_basis K D h S known =
    agreeing_basis S K D (sym h.width) (h.rows (λ row. list_any (same row) D.rows) ∙ all_in_list D.rows) known
    (same_rows_hold K D h (basis_known S K) (basis_holds S K))
