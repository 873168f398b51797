-- Proper premises, and the direct basis that they give.
--
-- A set A is a proper premise if its closure is more than A joined with the closures of A without one of its members: it gives an
-- attribute that neither belongs to it nor comes from fewer of its members. The implications from each proper premise to its closure are
-- the direct basis: one pass over them gives the closure of any set. (Ganter and Wille, "Formal Concept Analysis", proper premises, in
-- implications between attributes; Bertet and Monjardet, 2010, "The multiple facets of the canonical direct unit implicational basis".)
--
-- Of the rows {b, c, d}, {c, d}, {a, b, d}, {a, b}, {c} over a, b, c, d the proper premises are {b, c}, {a} and {a, c}. {a, c} gives d,
-- which neither {a} nor {c} does; it is no pseudo-intent, since it does not contain the closure {a, b} of {a}.
use Rattle.std.specs.Prelude.{ℕ, Bool, false, not, List, length, map, filter, fold, slice_index_or, slice_set}
use Rattle.std.specs.List.{range_with_len}
use Rattle.fca_model.specs.Sets.{Set, within, join, same, all_sets}
use Rattle.fca_model.specs.Context.{Context, closure}
use Rattle.fca_model.specs.Implications.{Rule, rule}

-- the members of A in ascending order
abbrev pub members : Set → List ℕ
members A = filter (λ a. slice_index_or A a false) (range_with_len 0 (length A))

-- A without a
abbrev pub without : Set → ℕ → Set
without A a = slice_set A a false

-- A joined with the closure of A without a, for each member a of A
abbrev pub from_parts : Context → Set → Set
from_parts K A = fold join A (map (λ a. closure K (without A a)) (members A))

-- the closure of A is more than that
abbrev pub proper : Context → Set → Bool
proper K A = not (same (closure K A) (from_parts K A))

-- the pairs of a proper premise and its closure, in lectic order of the premise
unfoldable pub direct : Context → List Rule
direct K = map (λ A. rule A (closure K A)) (filter (proper K) (all_sets K.width))

-- X with the conclusions of all members whose premise lies within X
abbrev pub one_pass : List Rule → Set → Set
one_pass J X = fold join X (map (λ i. i.conclusion) (filter (λ i. within i.premise X) J))
