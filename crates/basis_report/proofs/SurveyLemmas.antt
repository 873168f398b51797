-- Six pieces of a text, each appended to those before it.
use Rattle.std.proofs.Common.{◌≡◌, ◌∙◌, ◌++◌, ℕ, refl, append_assoc}
use Rattle.fca_model.specs.Tables.{Text}
use Rattle.basis_report.specs.Surveys.{survey_lines}

pub six_pieces : (a b c d e f t u v w x y z : Text) → u ≡ t ++ a → v ≡ u ++ b → w ≡ v ++ c → x ≡ w ++ d → y ≡ x ++ e → z ≡ y ++ f
    → z ≡ t ++ (a ++ (b ++ (c ++ (d ++ (e ++ f)))))
six_pieces a b c d e f t u v w x y z first second third fourth fifth sixth =
    let left : z ≡ (((((t ++ a) ++ b) ++ c) ++ d) ++ e) ++ f = cc in
    let right : (((((t ++ a) ++ b) ++ c) ++ d) ++ e) ++ f ≡ t ++ (a ++ (b ++ (c ++ (d ++ (e ++ f))))) = simp append_assoc in
    left ∙ right

pub same_lines : (o o' m m' x x' c b e : ℕ) → o ≡ o' → m ≡ m' → x ≡ x' → survey_lines o m x c b e ≡ survey_lines o' m' x' c b e
same_lines o o' m m' x x' c b e objects attributes crosses = rw (objects, attributes, crosses) refl
