-- The members of a list of one width.
use Rattle.std.proofs.Common.{◌≡◌, ℕ, ◌<◌, List, length, get_or, eqb, eqb-true, ap, ◌∙◌}
use Rattle.std.proofs.lemmas.Bool.{and_parts}
use Rattle.std.proofs.lemmas.List.Sums.{AllPass-from_list_all}
use Rattle.fca_model.specs.Implications.{Rule}
use Rattle.implication_closure.specs.Closing.{has_width, HaveWidth}

module _ (J : List Rule) (k : ℕ) (i : Rule) (inside : k < length J) (is : i ≡ get_or J k i) where
  pub member_wide : (n : ℕ) → HaveWidth n J → (length i.premise ≡ n) × (length i.conclusion ≡ n)
  member_wide n even =
      let parts = and_parts (eqb (length i.premise) n) (eqb (length i.conclusion) n)
      (ap (has_width n) is ∙ AllPass-from_list_all (has_width n) J even k i inside) in
      (eqb-true (length i.premise) n parts.0, eqb-true (length i.conclusion) n parts.1)
