-- A word that is cut off at the first byte of a kind is what was written before that byte.
use Rattle.std.proofs.Common.{◌≡◌, ◌+◌, ◌∙◌, suc, Bool, true, false, not, cond, List, ◌∷◌, ◌++◌, [], length, take, drop, refl, ap, arith}
use Rattle.std.specs.List.{list_any, position_or_len, before_first, after_first}
use Rattle.std.proofs.lemmas.Bool.{or_parts}
use Rattle.std.proofs.Math.Seq.{take-append_seam}

-- the first element that passes stands behind those that don't
position-at : {X : Type 0} (p : X → Bool) (xs : List X) (y : X) (ys : List X) → list_any p xs ≡ false → p y ≡ true
    → position_or_len p (xs ++ y ∷ ys) ≡ length xs
position-at p [] y ys h e = ap (λ b. cond (not b) (1 + position_or_len p ys) 0) e
position-at p (x ∷ xs) y ys h e =
    let parts = or_parts (p x) (list_any p xs) h in
    ap (λ b. cond (not b) (1 + position_or_len p (xs ++ y ∷ ys)) 0) parts.0 ∙ ap (λ n. 1 + n) (position-at p xs y ys parts.1 e)
    ∙ omega arith

drop-past_seam : {X : Type 0} (xs : List X) (y : X) (ys : List X) → drop (length xs + 1) (xs ++ y ∷ ys) ≡ ys
drop-past_seam [] y ys = refl
drop-past_seam (x ∷ xs) y ys = ap (λ n. drop n (x ∷ (xs ++ y ∷ ys))) one_more ∙ drop-past_seam xs y ys
  where
    one_more : suc (length xs) + 1 ≡ suc (length xs + 1)
    one_more = omega arith

pub before_first-at : {X : Type 0} (p : X → Bool) (xs : List X) (y : X) (ys : List X) → list_any p xs ≡ false → p y ≡ true
    → before_first p (xs ++ y ∷ ys) ≡ xs
before_first-at p xs y ys h e = ap (λ n. take n (xs ++ y ∷ ys)) (position-at p xs y ys h e) ∙ take-append_seam xs (y ∷ ys)

pub after_first-at : {X : Type 0} (p : X → Bool) (xs : List X) (y : X) (ys : List X) → list_any p xs ≡ false → p y ≡ true
    → after_first p (xs ++ y ∷ ys) ≡ ys
after_first-at p xs y ys h e = ap (λ n. drop (n + 1) (xs ++ y ∷ ys)) (position-at p xs y ys h e) ∙ drop-past_seam xs y ys
