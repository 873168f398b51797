-- Lines put together from their parts, and lines one behind the other.
use Rattle.std.proofs.Common.{◌≡◌, ℕ, ◌+◌, List, [], ◌∷◌, ◌++◌, length, sym, ap, ◌∙◌, arith, append_assoc}
use Rattle.std.specs.Prelude.{codes}
use Rattle.fca_model.specs.Sets.{Set}
use Rattle.fca_model.specs.Tables.{Text}
use Rattle.expert_wire.specs.Texts.{ordinal, comma_list, names_of}
use Rattle.packed_concepts.specs.Lines.{TableNames, names_at, line_of, lines_from}

-- a line, as its parts were put down
pub line-parts : (t : TableNames) (old number : Text) (A : Set) (E : List ℕ)
    → (((((old ++ number) ++ codes " {") ++ comma_list (names_of t.attributes A)) ++ codes "} | {") ++ comma_list (names_at t.objects E)) ++ codes "}\n" ≡ old ++ line_of t number A E
line-parts t old number A E = regroup old number (codes " {") (comma_list (names_of t.attributes A)) (codes "} | {") (comma_list (names_at t.objects E)) (codes "}\n")
  where
    regroup : (o n s i m e l : Text) → (((((o ++ n) ++ s) ++ i) ++ m) ++ e) ++ l ≡ o ++ (n ++ (s ++ (i ++ (m ++ (e ++ l)))))
    regroup o n s i m e l = simp append_assoc

-- some lines, and those behind them
pub lines_from-append : (t : TableNames) (n : ℕ) (cs ds : List (Set × List ℕ))
    → lines_from t n (cs ++ ds) ≡ lines_from t n cs ++ lines_from t (n + length cs) ds
lines_from-append t n [] ds = ap (λ k. lines_from t k ds) (omega arith)
lines_from-append t n (c ∷ cs) ds =
    let line : Text = line_of t (ordinal n) c.0 c.1 in
    let next : (n + 1) + length cs ≡ n + length (c ∷ cs) = omega arith in
    ap (λ z. line ++ z) (lines_from-append t (n + 1) cs ds ∙ ap (λ k. lines_from t (n + 1) cs ++ lines_from t k ds) next)
    ∙ sym (append_assoc line (lines_from t (n + 1) cs) (lines_from t (n + length (c ∷ cs)) ds))
