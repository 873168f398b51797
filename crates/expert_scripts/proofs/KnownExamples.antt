-- Lines of a known file of width 3.
use Rattle.std.proofs.Common.{◌≡◌, true, false, [], ◌∷◌, Ok, Err, refl}
use Rattle.std.specs.Prelude.{codes}
use Rattle.fca_model.specs.Implications.{rule}
use Rattle.expert_scripts.specs.declared.known_fault.KnownFault.TheVariants.{BadLine, BadWidth}
use Rattle.expert_scripts.specs.Known.{known_rule}

a_implies_b : known_rule 3 1 (codes "X.. .X. {a} -> {b}") ≡ Ok (rule (true ∷ false ∷ false ∷ []) (false ∷ true ∷ false ∷ []))
a_implies_b = refl

one_pattern_alone : known_rule 3 1 (codes "X..") ≡ Err (BadLine 1)
one_pattern_alone = refl

too_narrow : known_rule 3 1 (codes "X. XX") ≡ Err (BadWidth 1)
too_narrow = refl
