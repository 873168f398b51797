-- The sets among which later questions are looked for. What is open once there is one row or one rule more was open before, so they serve
-- for all levels to come.
use Rattle.std.proofs.Common.{ℕ, ◌+◌, Bool, List, [], ◌∷◌, ◌++◌, refl, sym, ◌∙◌, arith}
use Rattle.std.proofs.lemmas.Bool.{false≢true, and_parts, and_from, false_from_ne_true}
use Rattle.std.proofs.lemmas.List.Folds.{list_all-append}
use Rattle.fca_model.specs.Sets.{Set}
use Rattle.fca_model.specs.Context.{Context, is_closed, with_row}
use Rattle.fca_model.specs.Implications.{Rule, respects, respects_all}
use Rattle.fca_model.specs.Levels.{HasBelow}
use Rattle.fca_model.proofs.SurvivalLemmas.{closed_stays}
use Rattle.next_level.specs.Among.{AllAmong, IsAhead}
use Rattle.next_level.proofs.NextLevelLemmas.{open_reached}

-- one row more
pub row_ahead : (J : List Rule) (K : Context) (k : ℕ) (whole : Bool) (sets : List Set) (r : Set) → IsAhead J K k whole sets
    → IsAhead J (with_row K r) k whole sets
row_ahead J K k whole sets r a X x lt = a X (record {
  wide = x.wide;
  respecting = x.respecting;
  not_closed = false_from_ne_true (is_closed K X) (λ t. false≢true (sym x.not_closed ∙ closed_stays K r X x.wide t));
  passes = refl;
}) lt

-- one accepted implication more
pub rule_ahead : (S acc : List Rule) (K : Context) (k : ℕ) (whole : Bool) (sets : List Set) (q : Rule) → IsAhead (S ++ acc) K k whole sets
    → IsAhead (S ++ (acc ++ q ∷ [])) K k whole sets
rule_ahead S acc K k whole sets q a X x lt =
    let known = and_parts (respects_all S X) (respects_all (acc ++ q ∷ []) X)
    (sym (list_all-append (respects X) S (acc ++ q ∷ [])) ∙ x.respecting) in
    let before = and_parts (respects_all acc X) (respects_all (q ∷ []) X) (sym (list_all-append (respects X) acc (q ∷ [])) ∙ known.1) in
    a X (record {
      wide = x.wide;
      respecting = list_all-append (respects X) S acc ∙ and_from (respects_all S X) (respects_all acc X) known.0 before.0;
      not_closed = x.not_closed;
      passes = refl;
    }) lt

-- once the level is done, all that is open is larger
pub ahead_all : (S acc : List Rule) (K : Context) (k : ℕ) (whole : Bool) (sets : List Set) → HasBelow S K (k + 1) acc
    → IsAhead (S ++ acc) K k whole sets → AllAmong (S ++ acc) K whole sets
ahead_all S acc K k whole sets below a X x = a X x (let le = open_reached S K (k + 1) acc (S ++ acc) refl below X x in omega (arith, le))
