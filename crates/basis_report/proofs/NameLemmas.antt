-- Names that are looked at one by one: all are valid exactly if those that are left are.
use Rattle.std.proofs.Common.{◌≡◌, ◌≤◌, ℕ, ◌+◌, true, ◌&&◌, Some, List, [], length, drop, get_or, sym, ap, ◌∙◌, subst}
use Rattle.std.specs.Prelude.{slice_get, is_none}
use Rattle.std.specs.List.{list_all}
use Rattle.std.proofs.lemmas.List.{drop_more}
use Rattle.std.proofs.Math.ListN.{drop_of_length-le}
use Rattle.std.proofs.lemmas.Option.{slice_get_within, get_or_from_slice_get}
use Rattle.fca_model.specs.Names.{IsName}
use Rattle.fca_model.specs.Tables.{Text}
use Rattle.expert_wire.specs.Patterns.{is_name}
use Rattle.text_pieces.specs.Lists.{EachName}

-- one more name is valid
pub name_more : (names : List Text) (i : ℕ) (name : Text) → Some name ≡ slice_get names i → IsName name
    → list_all is_name (drop i names) ≡ list_all is_name names
    → list_all is_name (drop (i + 1) names) ≡ list_all is_name names
name_more names i name named h before =
    let here : is_name (get_or names i []) ≡ true = ap is_name (get_or_from_slice_get names i name [] (sym named))
    ∙ ap is_none h.faultless in
    sym (ap (list_all is_name) (drop_more names i [] (slice_get_within names i name (sym named)))
    ∙ ap (λ b. b && list_all is_name (drop (i + 1) names)) here) ∙ before

-- if those after this one are valid, so are all from this one on
pub names_more : (names : List Text) (i : ℕ) (name : Text) → Some name ≡ slice_get names i → IsName name
    → (EachName (drop i names) → EachName names) → EachName (drop (i + 1) names) → EachName names
names_more names i name named h before later =
    let here : IsName (get_or names i []) = subst IsName (sym (get_or_from_slice_get names i name [] (sym named))) h in
    before (subst EachName (sym (drop_more names i [] (slice_get_within names i name (sym named)))) (here, later))

pub names_past : (names : List Text) (i : ℕ) → length names ≤ i → (EachName (drop i names) → EachName names) → EachName names
names_past names i h before = before (subst EachName (sym (drop_of_length-le names h)) tt)
