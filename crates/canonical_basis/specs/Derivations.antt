-- A derivation says why an implication follows from a list: it names members of the list, one after the other, whose premises lie
-- within what has been reached, and so reaches the conclusion from the premise.
--
-- From the list {a} -> {b}, {b} -> {c}, {a} -> {c} the derivation of {a} -> {c} is 0, 1, by the first member that adds something
-- each time; and 2 alone is a sound one too.
use Rattle.std.specs.Prelude.{ℕ, zero, suc, Bool, not, cond, ◌&&◌, Option, Some, None, List, [], ◌∷◌, length, position, nat_lt}
use Rattle.std.specs.Prelude.{slice_index_or, option_map}
use Rattle.fca_model.specs.Sets.{Set, within, join}
use Rattle.fca_model.specs.Implications.{Rule, rule, respects}
use Rattle.implication_closure.specs.Closing.{RuleList}

-- the premise and the conclusion of the member at a place
abbrev pub premise_at : List Rule → ℕ → Set
premise_at J i = (slice_index_or J i (rule [] [])).premise

abbrev pub conclusion_at : List Rule → ℕ → Set
conclusion_at J i = (slice_index_or J i (rule [] [])).conclusion

-- each place is one of the list, the premise there lies within X and the conclusions named before, and C lies within the last such set
abbrev pub is_sound : List Rule → Set → Set → List ℕ → Bool
is_sound J X C [] = within C X
is_sound J X C (i ∷ steps) = nat_lt i (length J) && (within (premise_at J i) X && is_sound J (join X (conclusion_at J i)) C steps)

-- a first step, if there is one, and the steps after it
abbrev pub and_then : Option ℕ → (ℕ → Option (List ℕ)) → Option (List ℕ)
and_then None rest = None
and_then (Some i) rest = option_map (λ steps. i ∷ steps) (rest i)

-- from X until C is reached, in at most this many steps, each by the first member that adds something
unfoldable pub derivation_within : ℕ → List Rule → Set → Set → Option (List ℕ)
derivation_within zero J X C = cond (within C X) (Some []) None
derivation_within (suc k) J X C = cond (within C X) (Some [])
    (and_then (position (λ i. not (respects X i)) J) (λ i. derivation_within k J (join X (conclusion_at J i)) C))

-- the derivation of P to C, if there is one: each step adds an attribute, so there are no more steps than attributes
abbrev pub derivation : RuleList → Set → Set → Option (List ℕ)
derivation J P C = derivation_within (suc J.width) J.members P C
