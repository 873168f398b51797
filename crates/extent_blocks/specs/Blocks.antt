-- The places of rows, in blocks of 256.
--
-- Place g is the one of number g % 256 in block g / 256. Of the rows {a, b}, {b} the column of a is the set with place 0 alone, and the
-- extent of {b} has both places: those of it that have a are the extent of {a, b}.
use Rattle.std.specs.Prelude.{◌≡◌, ◌==◌, ◌<◌, ◌&&◌, ◌/◌, ◌%◌, ℕ, Bool, true, false, List, [], length, nat_lt, slice_index_or}
use Rattle.std.specs.Int.{div_ceil}
use Rattle.std.specs.List.{list_any}
use Rattle.fca_model.specs.Sets.{Set, within}
use Rattle.fca_model.specs.Context.{Context, closure}

-- row g, and no members where there is none
abbrev pub row_at : Context → ℕ → Set
row_at K g = slice_index_or K.rows g []

-- there is a row g, and it contains A
abbrev pub contains_at : Context → Set → ℕ → Bool
contains_at K A g = nat_lt g (length K.rows) && within A (row_at K g)

-- row g has attribute i
abbrev pub has_at : Context → ℕ → ℕ → Bool
has_at K i g = slice_index_or (row_at K g) i false

-- place g is a member of its block
abbrev pub in_column : List Set → ℕ → Bool
in_column Cs g = slice_index_or (slice_index_or Cs (g / 256) []) (g % 256) false

-- the column of attribute i, block by block
pub record IsColumn (K : Context) (i : ℕ) (Cs : List Set) : Type 0 where
  pub count : length Cs ≡ div_ceil (length K.rows) 256
  pub places : (g : ℕ) → in_column Cs g ≡ has_at K i g

-- the columns of the attributes
abbrev pub AreColumns : Context → List (List Set) → Type 0
AreColumns K Cs = (i : ℕ) → i < K.width → IsColumn K i (slice_index_or Cs i [])

-- some places of a block, with its number
pub record NumberedBlock : Type 0 where
  pub number : ℕ
  pub objects : Set

-- place g is in the block of number n with these places
abbrev pub in_block : ℕ → Set → ℕ → Bool
in_block n O g = (n == g / 256) && slice_index_or O (g % 256) false

-- place g is in one of the blocks
abbrev pub in_blocks : List NumberedBlock → ℕ → Bool
in_blocks Ps g = list_any (λ x. in_block x.number x.objects g) Ps

-- these are the places of the rows that contain A
abbrev pub IsExtent : Context → Set → List NumberedBlock → Type 0
IsExtent K A Ps = (g : ℕ) → in_blocks Ps g ≡ contains_at K A g

-- those of these whose rows have attribute i are the places of the rows that contain A
abbrev pub IsExtentWith : Context → Set → ℕ → List NumberedBlock → Type 0
IsExtentWith K A i Ps = (g : ℕ) → (in_blocks Ps g && has_at K i g) ≡ contains_at K A g

-- M is a set on the way from all attributes down to the closure of A
pub record IsMeeting (K : Context) (A M : Set) : Type 0 where
  pub wide : length M ≡ K.width
  pub above : within (closure K A) M ≡ true

-- the rows at the places that pass the test are met: M lies within each of them
abbrev pub IsMet : Context → (ℕ → Bool) → Set → Type 0
IsMet K p M = (g : ℕ) → p g ≡ true → within M (row_at K g) ≡ true
