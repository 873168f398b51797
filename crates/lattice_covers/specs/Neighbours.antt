-- The links of a chain of intents, and the places of their next larger intents.
use Rattle.std.specs.Prelude.{◌≡◌, ◌≤◌, ℕ, true, List, length, map, All}
use Rattle.std.specs.List.{prefix_len}
use Rattle.std.specs.Ordering.{is_lt}
use Rattle.fca_model.specs.Sets.{Set, within, lectic_cmp}
use Rattle.fca_model.specs.Context.{Context}
use Rattle.lectic_concepts.specs.Branches.{AreWitnesses}
use Rattle.extent_places.specs.Objects.{HasObjects, AreColumns, rows_above}
use Rattle.lattice_covers.specs.declared.chain.FewRows.{FewRows}
use Rattle.lattice_covers.specs.declared.chain.RowsAbove.{RowsAbove}
use Rattle.lattice_covers.specs.declared.chain.RowsAbove.TheVariants.{Many, Few}
use Rattle.lattice_covers.specs.declared.chain.Link.{Link}

-- the rows that contain a part of A are few and are kept, and S has those of them that contain A
pub record AreKept (K : Context) (A : Set) {W : ℕ} (kept : FewRows W) (S : Set) : Type 0 where
  pub least : Set
  pub part : within least A ≡ true
  pub rows : kept.rows ≡ rows_above K least
  pub few : length kept.rows.rows ≤ 64
  pub columns : AreColumns kept.rows kept.columns.items
  pub objects : HasObjects kept.rows A S

-- the rows that contain A, or few rows and those of them that contain A
abbrev pub AreRowsAbove : Context → Set → {W : ℕ} → RowsAbove W → Type 0
AreRowsAbove K A (Many above) = above ≡ rows_above K A
AreRowsAbove K A (Few kept objects) = AreKept K A kept.value objects

-- the link has the rows that contain its intent, and each witness that it has is one
pub record IsLink (K : Context) {W : ℕ} (link : Link W) : Type 0 where
  pub wide : length link.intent ≡ K.width
  pub above : AreRowsAbove K link.intent link.above
  pub witnesses : AreWitnesses K link.intent link.witnesses.items

abbrev pub AreLinks : Context → {W : ℕ} → List (Link W) → Type 0
AreLinks K links = All (IsLink K) links

-- how many sets of a list in lectic order come before X: the place of X, if it is in the list
abbrev pub place_in : List Set → Set → ℕ
place_in Xs X = prefix_len (λ Y. is_lt (lectic_cmp Y X)) Xs

-- i with the place of each of the sets Cs in the list Xs
abbrev pub pairs_with : List Set → ℕ → List Set → List (ℕ × ℕ)
pairs_with Xs i Cs = map (λ X. (i, place_in Xs X)) Cs
