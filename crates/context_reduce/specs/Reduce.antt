-- Clarifying and reducing, and arrows.
--
-- An object whose row is the intersection of all rows that strictly contain it adds nothing to the lattice of intents, and neither does one
-- whose row an earlier object has; attributes likewise, by columns. The column of an attribute is the set of the objects that have it. So
-- what is said of objects in the context is said of attributes in the transposed context, where objects and attributes are exchanged.
-- (Ganter and Wille, "Formal Concept Analysis", reduced contexts and the arrow relations.)
--
-- Of the rows {a, b}, {a, c}, {a} over a, b, c the row {a} is the intersection of the other two, so the third object is reducible; the
-- column of a, all objects, is the intersection of no columns, so a is reducible. What is left are the first two objects with b and c.
use Rattle.std.specs.Prelude.{◌≡◌, ℕ, Bool, true, false, not, ◌&&◌, ◌||◌, List, [], length, map, filter, fold, slice_index_or, take, ◌∷◌}
use Rattle.std.specs.Prelude.{◌+◌, nat_le, nat_lt}
use Rattle.std.specs.List.{list_all, list_any, range_with_len}
use Rattle.fca_model.specs.Sets.{Set, within, meet, full, same, strictly_within}
use Rattle.fca_model.specs.Context.{Context, is_closed}
use Rattle.fca_model.specs.Tables.{Text, NamedContext}

-- the objects that have attribute m
abbrev pub column : Context → ℕ → Set
column K m = map (λ row. slice_index_or row m false) K.rows

-- objects and attributes exchanged: its rows are the columns
abbrev pub transpose : Context → Context
transpose K = record { width = length K.rows; rows = map (column K) (range_with_len 0 K.width) }

-- row g
abbrev pub row_at : Context → ℕ → Set
row_at K g = slice_index_or K.rows g []

-- ---- what is kept

-- no earlier row is the same as row g
abbrev pub is_first : Context → ℕ → Bool
is_first K g = not (list_any (same (row_at K g)) (take g K.rows))

-- the intersection of all rows that strictly contain X, or the full set if there is none
abbrev pub meet_of_strictly_larger : Context → Set → Set
meet_of_strictly_larger K X = fold meet (full K.width) (filter (strictly_within X) K.rows)

-- X is the intersection of all rows that strictly contain it
abbrev pub reducible : Context → Set → Bool
reducible K X = same X (meet_of_strictly_larger K X)

-- the objects whose row no earlier one has
unfoldable pub distinct_objects : Context → List ℕ
distinct_objects K = filter (is_first K) (range_with_len 0 (length K.rows))

-- the distinct objects whose row is not reducible
unfoldable pub irreducible_objects : Context → List ℕ
irreducible_objects K = filter (λ g. not (reducible K (row_at K g))) (distinct_objects K)

-- the attributes whose column no earlier one has
abbrev pub distinct_attributes : Context → List ℕ
distinct_attributes K = distinct_objects (transpose K)

-- the distinct attributes whose column is not reducible
abbrev pub irreducible_attributes : Context → List ℕ
irreducible_attributes K = irreducible_objects (transpose K)

-- ---- parts

-- the members of A among the attributes N, read as places in N
abbrev pub restrict_to : List ℕ → Set → Set
restrict_to N A = map (λ i. slice_index_or A i false) N

-- the rows of the objects H
abbrev pub rows_at : Context → List ℕ → List Set
rows_at K H = map (row_at K) H

-- the objects H and the attributes N alone
abbrev pub context_part : Context → List ℕ → List ℕ → Context
context_part K H N = record { width = length N; rows = map (restrict_to N) (rows_at K H) }

-- f is one to one from the intents of K onto those of P, and keeps inclusion both ways
pub record IsIsomorphism (K P : Context) (f : Set → Set) : Type 0 where
  pub into : (B : Set) → length B ≡ K.width → is_closed K B ≡ true → (length (f B) ≡ P.width) × (is_closed P (f B) ≡ true)
  pub onto : (D : Set) → length D ≡ P.width → is_closed P D ≡ true → (B : Set) × (length B ≡ K.width) × (is_closed K B ≡ true) × (f B ≡ D)
  pub once : (B C : Set) → length B ≡ K.width → length C ≡ K.width → is_closed K B ≡ true → is_closed K C ≡ true → f B ≡ f C → B ≡ C
  pub order : (B C : Set) → length B ≡ K.width → length C ≡ K.width → is_closed K B ≡ true → is_closed K C ≡ true
      → within B C ≡ within (f B) (f C)

-- the intents of the part of the objects H and the attributes N are those of K, read at N
abbrev pub KeepsIntents : Context → List ℕ → List ℕ → Type 0
KeepsIntents K H N = IsIsomorphism K (context_part K H N) (restrict_to N)

-- ---- arrows

-- object g has a down arrow to attribute m: it lacks m, and each object whose row strictly contains its row has m
abbrev pub down_arrow : Context → ℕ → ℕ → Bool
down_arrow K g m = not (slice_index_or (row_at K g) m false) && list_all
    (λ row. not (strictly_within (row_at K g) row) || slice_index_or row m false) K.rows

-- the attributes whose column strictly contains that of m
abbrev pub attributes_above : Context → ℕ → Set
attributes_above K m = map (λ p. strictly_within (column K m) (column K p)) (range_with_len 0 K.width)

-- object g has an up arrow to attribute m: it lacks m, and has each attribute whose column strictly contains the column of m
abbrev pub up_arrow : Context → ℕ → ℕ → Bool
up_arrow K g m = not (slice_index_or (row_at K g) m false) && within (attributes_above K m) (row_at K g)

-- ---- columns by closures, as the code has them

-- the attributes whose column contains that of m: the closure of m alone
abbrev pub attributes_at_least : Context → ℕ → Set
attributes_at_least K m = map (λ p. within (column K m) (column K p)) (range_with_len 0 K.width)

-- for each attribute, those whose column contains its column
unfoldable pub column_order : Context → List Set
column_order K = map (attributes_at_least K) (range_with_len 0 K.width)

-- ---- tables

-- the names at the places
abbrev pub names_at : List Text → List ℕ → List Text
names_at names places = map (λ i. slice_index_or names i []) places

-- the table of the objects H and the attributes N, with the title
abbrev pub table_part : NamedContext → List ℕ → List ℕ → NamedContext
table_part t H N = record {
  title = t.title;
  objects = names_at t.objects H;
  attributes = names_at t.attributes N;
  context = context_part t.context H N;
}

-- the numbers ascend strictly from at least a and are below n
abbrev pub ascend : ℕ → List ℕ → ℕ → Bool
ascend a [] n = true
ascend a (i ∷ places) n = nat_le a i && (nat_lt i n && ascend (i + 1) places n)

-- places of a table's objects and attributes, ascending
pub record AreItsPlaces (t : NamedContext) (H N : List ℕ) : Type 0 where
  pub objects : ascend 0 H (length t.context.rows) ≡ true
  pub attributes : ascend 0 N t.context.width ≡ true
