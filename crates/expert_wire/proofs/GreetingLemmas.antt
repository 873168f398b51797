-- The greeting is written in order: its words, and then one name after the other. The names from a place on are the name at that place
-- and then the names after it.
use Rattle.std.proofs.Common.{◌≡◌, ℕ, suc, zero, List, [], ◌∷◌, ◌++◌, drop, length, ◌≤◌, ap, sym, append_assoc, ◌∙◌}
use Rattle.std.proofs.Math.ListN.{drop_of_length-le}
use Rattle.std.specs.Prelude.{codes, decimal, Some, slice_get}
use Rattle.fca_model.specs.Tables.{Text, NamedContext}
use Rattle.text_pieces.specs.Lines.{text_of}
use Rattle.expert_wire.specs.Texts.{line_end}
use Rattle.expert_wire.specs.Replies.{heading}
use Rattle.expert_wire.specs.Greetings.{greeting_words}

pub words-at : (t : NamedContext) (e a w : ℕ) → a ≡ e → w ≡ t.context.width
    → heading ++ (line_end ++ (codes "expert " ++ (decimal a ++ (line_end ++ (codes "attributes " ++ (decimal w ++ line_end))))))
    ≡ greeting_words t e
words-at t e a w p q =
    ap (λ x. heading ++ (line_end ++ (codes "expert " ++ (decimal x ++ (line_end ++ (codes "attributes " ++ (decimal w ++ line_end))))))) p
    ∙ ap (λ x. heading ++ (line_end
    ++ (codes "expert " ++ (decimal e ++ (line_end ++ (codes "attributes " ++ (decimal x ++ line_end))))))) q

pub text_of-drop : (xs : List Text) (i : ℕ) (x : Text) → Some x ≡ slice_get xs i
    → text_of (drop i xs) ≡ (x ++ line_end) ++ text_of (drop (suc i) xs)
text_of-drop [] i x e = cc
text_of-drop (y ∷ ys) zero x e = let same : y ≡ x = cc in
    sym (append_assoc y line_end (text_of ys)) ∙ ap (λ z. (z ++ line_end) ++ text_of ys) same
text_of-drop (y ∷ ys) (suc i) x e = text_of-drop ys i x e

pub text_of-past : (xs : List Text) (i : ℕ) → length xs ≤ i → text_of (drop i xs) ≡ []
text_of-past xs i h = ap text_of (drop_of_length-le xs h)
