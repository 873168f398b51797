-- Concepts of which the places stand one behind the other, one more and one less.
use Rattle.std.proofs.Common.{◌≡◌, ℕ, suc, ◌+◌, ◌<◌, ◌≤◌, All, List, [], ◌∷◌, ◌++◌, length, map, take, drop, get_or, refl, sym, ap, ap₂}
use Rattle.std.proofs.Common.{◌∙◌, arith}
use Rattle.std.proofs.lemmas.List.{take_all, take-append-le, take-append-drop, drop-append-le, length-drop, length-take, length-take-le}
use Rattle.std.proofs.lemmas.List.{drop_more, take_more}
use Rattle.std.proofs.lemmas.List.Elements.{All-head, All-tail, All-cons, All-append}
use Rattle.packed_concepts.specs.Packing.{total, unpacked}
use Rattle.packed_concepts.specs.declared.page.IntentAndCount.{IntentAndCount}

pub total-append : {W : ℕ} (ps qs : List (IntentAndCount W)) → total (ps ++ qs) ≡ total ps + total qs
total-append [] qs = omega arith
total-append (p ∷ ps) qs = let more = total-append ps qs in omega (arith, more)

-- one concept more
pub unpacked-more : {W : ℕ} (ps : List (IntentAndCount W)) (T E : List ℕ) (p : IntentAndCount W) → total ps ≡ length T → p.count ≡ length E
    → unpacked (ps ++ p ∷ []) (T ++ E) ≡ unpacked ps T ++ (p.intent, E) ∷ []
unpacked-more [] [] E p fits long = ap (λ F. (p.intent, F) ∷ []) (ap (λ n. take n E) long ∙ take_all (length E) E (omega arith))
unpacked-more [] (x ∷ T) E p fits long = absurd (omega (arith, fits))
unpacked-more (q ∷ ps) T E p fits long =
    let rest = length-drop q.count T in
    ap₂ (λ F cs. (q.intent, F) ∷ cs) (take-append-le q.count T E (omega (arith, fits)))
    (ap (unpacked (ps ++ p ∷ [])) (drop-append-le q.count T E (omega (arith, fits)))
    ∙ unpacked-more ps (drop q.count T) E p (omega (arith, fits, rest)) long)

-- some concepts, and those behind them
pub unpacked-append : {W : ℕ} (ps qs : List (IntentAndCount W)) (S T : List ℕ) → total ps ≡ length S
    → unpacked (ps ++ qs) (S ++ T) ≡ unpacked ps S ++ unpacked qs T
unpacked-append [] qs [] T fits = refl
unpacked-append [] qs (x ∷ S) T fits = absurd (omega (arith, fits))
unpacked-append (p ∷ ps) qs S T fits =
    let rest = length-drop p.count S in
    ap₂ (λ F cs. (p.intent, F) ∷ cs) (take-append-le p.count S T (omega (arith, fits)))
    (ap (unpacked (ps ++ qs)) (drop-append-le p.count S T (omega (arith, fits)))
    ∙ unpacked-append ps qs (drop p.count S) T (omega (arith, fits, rest)))

-- the first so many have no more places than all
pub total-take : {W : ℕ} (ps : List (IntentAndCount W)) (n : ℕ) → total (take n ps) ≤ total ps
total-take ps n =
    let both : total ps ≡ total (take n ps) + total (drop n ps) = ap total (sym (take-append-drop n ps)) ∙ total-append (take n ps) (drop n ps) in
    omega (arith, both)

-- the concepts, cut in two
pub unpacked-split : {W : ℕ} (ps : List (IntentAndCount W)) (T : List ℕ) (n m : ℕ) → total ps ≡ length T → m ≡ total (take n ps)
    → unpacked ps T ≡ unpacked (take n ps) (take m T) ++ unpacked (drop n ps) (drop m T)
unpacked-split ps T n m fits at =
    let low = total-take ps n in
    let long : length (take m T) ≡ m = length-take-le m T (omega (arith, low, fits, at)) in
    ap₂ unpacked (sym (take-append-drop n ps)) (sym (take-append-drop m T))
    ∙ unpacked-append (take n ps) (drop n ps) (take m T) (drop m T) (omega (arith, long, at))

pub length-unpacked : {W : ℕ} (ps : List (IntentAndCount W)) (T : List ℕ) → length (unpacked ps T) ≡ length ps
length-unpacked [] T = refl
length-unpacked (p ∷ ps) T = ap suc (length-unpacked ps (drop p.count T))

pub intents-unpacked : {W : ℕ} (ps : List (IntentAndCount W)) (T : List ℕ) → map (λ c. c.0) (unpacked ps T) ≡ map (λ p. p.intent) ps
intents-unpacked [] T = refl
intents-unpacked (p ∷ ps) T = ap (λ Xs. p.intent ∷ Xs) (intents-unpacked ps (drop p.count T))

-- the places that are behind them change nothing
pub most-unpacked : {W : ℕ} (ps : List (IntentAndCount W)) (T : List ℕ) (most : ℕ) → All (λ p. p.count ≤ most) ps
    → All (λ c. length c.1 ≤ most) (unpacked ps T)
most-unpacked [] T most h = λ k d l. absurd (omega arith)
most-unpacked (p ∷ ps) T most h = All-cons (λ c. length c.1 ≤ most) (p.intent, take p.count T) (unpacked ps (drop p.count T))
    (let first = All-head (λ q. q.count ≤ most) p ps h in let long = length-take p.count T in omega (arith, first, long))
    (most-unpacked ps (drop p.count T) most (All-tail (λ q. q.count ≤ most) p ps h))

pub most-more : {W : ℕ} (ps : List (IntentAndCount W)) (p : IntentAndCount W) (most more : ℕ) → All (λ q. q.count ≤ most) ps → most ≤ more → p.count ≤ more
    → All (λ q. q.count ≤ more) (ps ++ p ∷ [])
most-more ps p most more h wider last = All-append (λ q. q.count ≤ more) ps (p ∷ []) (λ k d l. let b = h k d l in omega (arith, b, wider))
    (All-cons (λ q. q.count ≤ more) p [] last (λ k d l. absurd (omega arith)))

-- the concept at place i, and those behind it
module _ {W : ℕ} (ps : List (IntentAndCount W)) (i : ℕ) (p : IntentAndCount W) (inside : i < length ps) (is : p ≡ get_or ps i p) where
  left : drop i ps ≡ p ∷ drop (i + 1) ps
  left = drop_more ps i p inside ∙ ap (λ q. q ∷ drop (i + 1) ps) (sym is)

  pub total-left : total (drop i ps) ≡ p.count + total (drop (i + 1) ps)
  total-left = ap total left

  pub unpacked-left : (T : List ℕ) → unpacked (drop i ps) T ≡ (p.intent, take p.count T) ∷ unpacked (drop (i + 1) ps) (drop p.count T)
  unpacked-left T = ap (λ qs. unpacked qs T) left

  pub length-left : length (drop i ps) ≡ suc (length (drop (i + 1) ps))
  length-left = ap (λ (qs : List (IntentAndCount W)). length qs) left

-- the places of one more
pub total-next : {W : ℕ} (ps : List (IntentAndCount W)) (i : ℕ) (p : IntentAndCount W) → i < length ps → p ≡ get_or ps i p
    → total (take (i + 1) ps) ≡ total (take i ps) + p.count
total-next ps i p inside is =
    let more : take (i + 1) ps ≡ take i ps ++ p ∷ [] = take_more ps i p inside ∙ ap (λ q. take i ps ++ q ∷ []) (sym is) in
    let both = total-append (take i ps) (p ∷ []) in
    ap total more ∙ both ∙ omega arith

-- the places of those behind the first so many
pub total-drop : {W : ℕ} (ps : List (IntentAndCount W)) (n : ℕ) → total (take n ps) + total (drop n ps) ≡ total ps
total-drop ps n = sym (total-append (take n ps) (drop n ps)) ∙ ap total (take-append-drop n ps)
