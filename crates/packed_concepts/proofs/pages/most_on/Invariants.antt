use Rattle.std.proofs.Common.{ℕ, ◌<◌, ◌≤◌, All, List, get_or, length}
use Rattle.fca_model.specs.Sets.{Set}
use Rattle.packed_concepts.proofs.pages.most_on.Given as goal

abbrev pub invariant-loop-page : goal.invariant-loop-page
invariant-loop-page g l = (k : ℕ) (d : List (Set × List ℕ)) → k < l.page-index → All (λ c. length c.1 ≤ l.most) (get_or l.pages k d)
