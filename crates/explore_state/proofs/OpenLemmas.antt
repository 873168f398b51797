-- Why an exploration is opened: where no cause of a refusal is found, there are so many experts and holders as there may be, and each
-- row respects what is known. With nothing known a row breaks nothing.
use Rattle.std.proofs.Common.{◌≡◌, ◌+◌, ◌⊎◌, ℕ, Bool, true, false, not, cond, Option, Some, None, List, [], ◌∷◌, Result, Ok, Err, refl, ap}
use Rattle.std.proofs.Common.{◌∙◌, inl}
use Rattle.std.proofs.Common.{inr, eqb, eqb-true, get_or, drop, length, All, ◌<◌}
use Rattle.std.specs.Prelude.{IfErr}
use Rattle.std.proofs.lemmas.Bool.{and_from, and_parts}
use Rattle.std.proofs.lemmas.List.{drop_more}
use Rattle.std.proofs.lemmas.List.Sums.{AllPass-from_list_all}
use Rattle.std.specs.List.{list_all}
use Rattle.fca_model.specs.Sets.{Set}
use Rattle.fca_model.specs.Context.{Context}
use Rattle.fca_model.specs.Implications.{Rule, respects, respects_all}
use Rattle.fca_model.specs.Invariant.{rows_respect}
use Rattle.fca_model.specs.Widths.{IsWide}
use Rattle.fca_model.specs.Exploration.{Settings, plain, is_expert}
use Rattle.fca_model.proofs.ListLemmas.{list_all-mono, not_not}
use Rattle.implication_closure.proofs.ClosingLemmas.{position_none}
use Rattle.implication_closure.specs.Closing.{has_width, HaveWidth}
use Rattle.explore_state.specs.declared.fault.OpenFault.{OpenFault}
use Rattle.explore_state.specs.declared.fault.OpenFault.TheVariants.{BadExperts, BadHolders, Memory}
use Rattle.explore_state.specs.Faults.{broken_by, break_at, first_break, settings_fault, open_fault}

-- ---- rows that break nothing

unbroken_row : (S : List Rule) (row : Set) → broken_by S row ≡ None → respects_all S row ≡ true
unbroken_row S row e = list_all-mono (λ i. not (not (respects row i))) (respects row) (λ i t. not_not (respects row i) t) S
    (position_none (λ i. not (respects row i)) S e)

first_break-unbroken : (S : List Rule) (k : ℕ) (row : Set) (rows : List Set) → broken_by S row ≡ None
    → first_break S k (row ∷ rows) ≡ first_break S (k + 1) rows
first_break-unbroken S k row rows e = ap (λ m. break_at k m (first_break S (k + 1) rows)) e

-- one row further
pub first_break-next : (S : List Rule) (rows : List Set) (k : ℕ) (d : Set) → k < length rows → broken_by S (get_or rows k d) ≡ None
    → first_break S k (drop k rows) ≡ first_break S (k + 1) (drop (k + 1) rows)
first_break-next S rows k d lt e = ap (first_break S k) (drop_more rows k d lt)
    ∙ first_break-unbroken S k (get_or rows k d) (drop (k + 1) rows) e

-- the row breaks something here
pub first_break-here : (S : List Rule) (rows : List Set) (k i : ℕ) (d : Set) → k < length rows → broken_by S (get_or rows k d) ≡ Some i
    → first_break S k (drop k rows) ≡ Some (k, i)
first_break-here S rows k i d lt e = ap (first_break S k) (drop_more rows k d lt)
    ∙ ap (λ m. break_at k m (first_break S (k + 1) (drop (k + 1) rows))) e

unbroken_by : (S : List Rule) (k : ℕ) (row : Set) (rows : List Set) → (m : Option ℕ) → broken_by S row ≡ m
    → break_at k m (first_break S (k + 1) rows) ≡ None
    → (first_break S (k + 1) rows ≡ None → list_all (respects_all S) rows ≡ true) → list_all (respects_all S) (row ∷ rows) ≡ true
unbroken_by S k row rows None is none later = and_from (respects_all S row) (list_all (respects_all S) rows) (unbroken_row S row is)
    (later none)
unbroken_by S k row rows (Some i) is none later = absurd (cc)

pub unbroken_rows : (S : List Rule) (k : ℕ) (rows : List Set) → first_break S k rows ≡ None → list_all (respects_all S) rows ≡ true
unbroken_rows S k [] e = refl
unbroken_rows S k (row ∷ rows) e = unbroken_by S k row rows (broken_by S row) refl e (λ none. unbroken_rows S (k + 1) rows none)

pub first_break-nothing : (k : ℕ) (rows : List Set) → first_break [] k rows ≡ None
first_break-nothing k [] = refl
first_break-nothing k (row ∷ rows) = first_break-nothing (k + 1) rows

-- ---- no cause

pub no_fault : (K : Context) (e : ℕ) (s : Settings) → open_fault K e s ≡ None
    → (is_expert e ≡ true) × (rows_respect s.known K ≡ true) × (is_expert s.holders ≡ true)
no_fault K e s none = few (is_expert e) refl none
  where
    holding : (b : Bool) → is_expert s.holders ≡ b → cond b None (Some (BadHolders s.holders)) ≡ None → is_expert s.holders ≡ true
    holding true is none = is
    holding false is none = absurd (cc)

    unbroken : (m : Option (ℕ × ℕ)) → first_break s.known 0 K.rows ≡ m → settings_fault s m ≡ None
        → (rows_respect s.known K ≡ true) × (is_expert s.holders ≡ true)
    unbroken None is none = (unbroken_rows s.known 0 K.rows is, holding (is_expert s.holders) refl none)
    unbroken (Some found) is none = absurd (cc)

    few : (b : Bool) → is_expert e ≡ b → cond b (settings_fault s (first_break s.known 0 K.rows)) (Some (BadExperts e)) ≡ None
        → (is_expert e ≡ true) × (rows_respect s.known K ≡ true) × (is_expert s.holders ≡ true)
    few true is none = let rest = unbroken (first_break s.known 0 K.rows) refl none in (is, rest.0, rest.1)
    few false is none = absurd (cc)

pub open_fault-plain : (K : Context) (e : ℕ) → is_expert e ≡ true → open_fault K e plain ≡ None
open_fault-plain K e few = ap (λ b. cond b (settings_fault plain (first_break [] 0 K.rows)) (Some (BadExperts e))) few
    ∙ ap (settings_fault plain) (first_break-nothing 0 K.rows)

-- ---- widths of what is known

pub wide_rules : (n : ℕ) (S : List Rule) → HaveWidth n S → All (IsWide n) S
wide_rules n S h k d lt =
    let i = get_or S k d in
    let parts = and_parts (eqb (length i.premise) n) (eqb (length i.conclusion) n) (AllPass-from_list_all (has_width n) S h k d lt) in
    (eqb-true (length i.premise) n parts.0, eqb-true (length i.conclusion) n parts.1)

pub wide_conclusions : (n : ℕ) (S : List Rule) → HaveWidth n S → list_all (λ i. eqb (length i.conclusion) n) S ≡ true
wide_conclusions n S h = list_all-mono (has_width n) (λ i. eqb (length i.conclusion) n)
    (λ i t. (and_parts (eqb (length i.premise) n) (eqb (length i.conclusion) n) t).1) S h

-- ---- plain settings

pub only_memory : {X : Type 0} (r : Result X OpenFault) (K : Context) (e : ℕ) (s : Settings) → s ≡ plain → is_expert e ≡ true
    → IfErr r (λ f. (f ≡ Memory) ⊎ (open_fault K e s ≡ Some f)) → IfErr r (λ f. f ≡ Memory)
only_memory (Ok x) K e s p few h = h
only_memory (Err f) K e s p few (inl is) = is
only_memory (Err f) K e s p few (inr is) = let none = ap (open_fault K e) p ∙ open_fault-plain K e few in absurd (cc)
