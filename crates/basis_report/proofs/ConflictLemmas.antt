-- The dropped rows that are still to come: those from a place of a table on, and those of the oracles from one on. One step further, the
-- rows dropped at the place, or by the oracle, are gone from the front. After the last there is none.
use Rattle.std.proofs.Common.{◌≡◌, ℕ, ◌+◌, ◌<◌, ◌≤◌, Option, Some, None, true, false, is_some, List, [], ◌∷◌, ◌++◌, length, map, drop}
use Rattle.std.proofs.Common.{get_or, refl, sym, ap, ◌∙◌, append_assoc, append-nil, length-append, arith}
use Rattle.std.specs.Prelude.{slice_get}
use Rattle.std.specs.List.{flat_map, enumerate_from}
use Rattle.std.proofs.Math.ListN.{drop_of_length-le}
use Rattle.std.proofs.lemmas.Bool.{false≢true}
use Rattle.std.proofs.lemmas.List.{drop_more}
use Rattle.std.proofs.lemmas.Grind.{flat_map-append}
use Rattle.std.proofs.lemmas.Option.{slice_get_within, get_or_from_slice_get}
use Rattle.fca_model.specs.Tables.{Text, NamedContext}
use Rattle.oracle_expert.specs.Oracles.{Conflicts, Recall}
use Rattle.basis_report.specs.Conflicts.{DroppedRow, dropped_rows_at, dropped_rows_of, dropped_rows_from}

-- the rows dropped at this place and after it
abbrev pub dropped_behind : ℕ → NamedContext → ℕ → Conflicts → List DroppedRow
dropped_behind e D place conflicts = flat_map (λ x. dropped_rows_at e D x.0 x.1) (enumerate_from place (drop place conflicts))

-- the rows dropped by the oracle at this place and by those after it
abbrev pub dropped_later : ℕ → List Recall → List DroppedRow
dropped_later k oracles = dropped_rows_from k (map (λ o. (o.table, o.conflicts)) (drop k oracles))

pub place_step : (e : ℕ) (D : NamedContext) (place : ℕ) (conflicts : Conflicts) (o : Option ℕ) → slice_get conflicts place ≡ Some o
    → dropped_behind e D place conflicts ≡ dropped_rows_at e D place o ++ dropped_behind e D (place + 1) conflicts
place_step e D place conflicts o h =
    ap (λ cs. flat_map (λ x. dropped_rows_at e D x.0 x.1) (enumerate_from place cs))
    (drop_more conflicts place o (slice_get_within conflicts place o h)
    ∙ ap (λ x. x ∷ drop (place + 1) conflicts) (get_or_from_slice_get conflicts place o o h))

pub place_end : (e : ℕ) (D : NamedContext) (place : ℕ) (conflicts : Conflicts) → length conflicts ≤ place
    → dropped_behind e D place conflicts ≡ []
place_end e D place conflicts h = ap (λ cs. flat_map (λ x. dropped_rows_at e D x.0 x.1) (enumerate_from place cs))
    (drop_of_length-le conflicts h)

pub oracle_step : (k : ℕ) (oracles : List Recall) (o : Recall) → k < length oracles → o ≡ get_or oracles k o
    → dropped_later k oracles ≡ dropped_rows_of k o.table o.conflicts ++ dropped_later (k + 1) oracles
oracle_step k oracles o h e =
    ap (λ os. dropped_rows_from k (map (λ (r : Recall). (r.table, r.conflicts)) os))
    (drop_more oracles k o h ∙ ap (λ x. x ∷ drop (k + 1) oracles) (sym e))

pub oracle_end : (k : ℕ) (oracles : List Recall) → length oracles ≤ k → dropped_later k oracles ≡ []
oracle_end k oracles h = ap (λ os. dropped_rows_from k (map (λ (r : Recall). (r.table, r.conflicts)) os)) (drop_of_length-le oracles h)

-- ---- what was written or counted, and the rest

pub written_step : (f : DroppedRow → Text) (d d' all : Text) (ds here rest : List DroppedRow) → ds ≡ here ++ rest
    → d' ≡ d ++ flat_map f here → d ++ flat_map f ds ≡ all → d' ++ flat_map f rest ≡ all
written_step f d d' all ds here rest e grown h =
    ap (λ z. z ++ flat_map f rest) grown ∙ append_assoc d (flat_map f here) (flat_map f rest)
    ∙ ap (λ z. d ++ z) (sym (flat_map-append f here rest) ∙ ap (flat_map f) (sym e)) ∙ h

pub written_end : (f : DroppedRow → Text) (d all : Text) (ds : List DroppedRow) → ds ≡ [] → d ++ flat_map f ds ≡ all → d ≡ all
written_end f d all ds e h = sym (append-nil d) ∙ ap (λ z. d ++ flat_map f z) (sym e) ∙ h

pub counted_step : (n n' all : ℕ) (ds here rest : List DroppedRow) → ds ≡ here ++ rest → n' ≡ n + length here → n + length ds ≡ all
    → n' + length rest ≡ all
counted_step n n' all ds here rest e grown h = omega (arith, ap length e, length-append here rest)

pub counted_end : (n all : ℕ) (ds : List DroppedRow) → ds ≡ [] → n + length ds ≡ all → n ≡ all
counted_end n all ds e h = omega (arith, ap length e)

-- ---- one place

pub length-dropped : (e : ℕ) (D : NamedContext) (place : ℕ) (o : Option ℕ) → is_some o ≡ true → length (dropped_rows_at e D place o) ≡ 1
length-dropped e D place (Some k) h = refl
length-dropped e D place None h = absurd (false≢true h)

pub length-kept : (e : ℕ) (D : NamedContext) (place : ℕ) (o : Option ℕ) → is_some o ≡ false → length (dropped_rows_at e D place o) ≡ 0
length-kept e D place None h = refl
length-kept e D place (Some k) h = absurd (false≢true (sym h))
