-- Rows that were seen.
use Rattle.std.proofs.Common.{◌≡◌, ℕ, ◌+◌, ◌<◌, Bool, true, false, ◌||◌, List, [], ◌∷◌, cond, take, length, get_or, refl, sym, ap, ap₂, ◌∙◌}
use Rattle.std.proofs.lemmas.List.{take_more}
use Rattle.std.proofs.lemmas.List.Folds.{list_any-append}
use Rattle.std.specs.BTreeSet.{BTreeSet, contains, Updates}
use Rattle.std.specs.List.{list_any}
use Rattle.fca_model.specs.Sets.{Set, same, lectic_cmp}
use Rattle.fca_model.specs.SetLaws.{lectic_ties}
use Rattle.fca_model.proofs.ListLemmas.{bool_iff}
use Rattle.fca_model.proofs.SetLemmas.{same_from, same-true}

same_sym : (A B : Set) → same A B ≡ same B A
same_sym A B = bool_iff (same A B) (same B A) (λ t. same_from B A (sym (same-true A B t))) (λ t. same_from A B (sym (same-true B A t)))

-- one row more
pub seen_more : (rows : List Set) (g : ℕ) (row A : Set) (old new : BTreeSet Set) → g < length rows → row ≡ get_or rows g []
    → Updates lectic_cmp old new row true
    → contains lectic_cmp old A ≡ list_any (same A) (take g rows) → contains lectic_cmp new A ≡ list_any (same A) (take (g + 1) rows)
seen_more rows g row A old new l is updates before =
    updates.0 A
    ∙ ap₂ (λ a b. cond a true b) (sym (lectic_ties row A) ∙ same_sym row A ∙ ap (same A) is) before
    ∙ either (same A (get_or rows g [])) (list_any (same A) (take g rows))
    ∙ sym (ap (list_any (same A)) (take_more rows g [] l) ∙ list_any-append (same A) (take g rows) (get_or rows g [] ∷ []))
  where
    either : (a b : Bool) → cond a true b ≡ (b || (a || false))
    either true true = refl
    either true false = refl
    either false true = refl
    either false false = refl
