-- The row that answers a question: it is the first that passes a test among the rows beside their conflicts. So it lies in the table,
-- refutes the question, and was not dropped.
use Rattle.std.proofs.Common.{◌≡◌, ℕ, ◌<◌, true, ◌&&◌, Option, Some, None, IfSome, [], length, get_or, min, sym, subst, arith}
use Rattle.std.proofs.lemmas.Bool.{and_parts}
use Rattle.std.proofs.lemmas.List.Quantifiers.{position-Some}
use Rattle.std.proofs.lemmas.Slice.Zip.{length-zip, get_or-zip}
use Rattle.std.specs.List.{zip}
use Rattle.std.specs.Option.{is_none}
use Rattle.fca_model.specs.Sets.{Set}
use Rattle.fca_model.specs.Tables.{NamedContext}
use Rattle.fca_model.specs.Implications.{Rule, refutes}
use Rattle.oracle_expert.specs.Oracles.{Conflicts, is_counterexample, counterexample}

-- what is known of the row at place i
pub record IsCounterexample (D : NamedContext) (conflicts : Conflicts) (q : Rule) (i : ℕ) : Type 0 where
  pub in_table : i < length D.context.rows
  pub in_conflicts : i < length conflicts
  pub refutes : (d : Set) → refutes (get_or D.context.rows i d) q ≡ true
  pub undropped : (d : Option ℕ) → is_none (get_or conflicts i d) ≡ true

module _ (D : NamedContext) (conflicts : Conflicts) (q : Rule) where
  pub counterexample_is : (i : ℕ) → counterexample D conflicts q ≡ Some i → IsCounterexample D conflicts q i
  counterexample_is i e =
      let inside : i < min (length D.context.rows) (length conflicts) =
      subst (λ n. i < n) (length-zip D.context.rows conflicts)
      (position-Some (is_counterexample q) (zip D.context.rows conflicts) i ([], None) e).0 in
      let in_table : i < length D.context.rows = omega arith in
      let in_conflicts : i < length conflicts = omega arith in
      let passes : (d : Set × Option ℕ) → (refutes (get_or D.context.rows i d.0) q && is_none (get_or conflicts i d.1)) ≡ true = λ d.
      subst (λ (row : Set × Option ℕ). is_counterexample q row ≡ true) (get_or-zip D.context.rows conflicts i d in_table in_conflicts)
      (position-Some (is_counterexample q) (zip D.context.rows conflicts) i d e).1 in
      record {
        in_table = in_table;
        in_conflicts = in_conflicts;
        refutes = λ d. (and_parts (refutes (get_or D.context.rows i d) q) (is_none (get_or conflicts i None)) (passes (d, None))).0;
        undropped = λ d. (and_parts (refutes (get_or D.context.rows i []) q) (is_none (get_or conflicts i d)) (passes ([], d))).1;
      }

  pub place_in_table : (place : Option ℕ) → place ≡ counterexample D conflicts q → IfSome place (λ i. i < length D.context.rows)
  place_in_table None e = tt
  place_in_table (Some i) e = (counterexample_is i (sym e)).in_table
