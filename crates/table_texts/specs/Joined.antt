-- Names one behind the other in one text.
use Rattle.std.specs.Prelude.{◌≡◌, ◌+◌, ◌*◌, ◌≤◌, ℕ, List, length, map, take, slice_index_or}
use Rattle.std.specs.List.{concat}
use Rattle.fca_model.specs.Tables.{Text}
use Rattle.packed_concepts.specs.Listing.{with_comma}

-- the names, each with a comma and a space behind it
abbrev pub joined : List Text → Text
joined names = concat (map with_comma names)

-- the text has the names, each of which begins where those before it end, and none of which is long
pub record AreJoined (names : List Text) (text : Text) (starts : List ℕ) : Type 0 where
  pub whole : text ≡ joined names
  pub even : length starts ≡ length names + 1
  pub begin : (i d : ℕ) → i ≤ length names → slice_index_or starts i d ≡ length (joined (take i names))
  pub short : length text ≤ 257 * length names
