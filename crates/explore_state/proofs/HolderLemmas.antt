-- Counting the other experts that hold a question, hold by hold.
use Rattle.std.proofs.Common.{◌≡◌, ℕ, ◌+◌, ◌<◌, Bool, true, false, not, ◌&&◌, cond, List, [], ◌∷◌, ◌++◌, length, take, get_or, eqb, refl}
use Rattle.std.proofs.Common.{sym, ap, ◌∙◌, arith}
use Rattle.std.proofs.lemmas.List.{take_more}
use Rattle.std.proofs.lemmas.List.Elements.{filter-append}
use Rattle.fca_model.specs.Sets.{Set, same}
use Rattle.fca_model.specs.Exploration.{SetHold, holders_of, given_back}
use Rattle.explore_state.specs.Fewest.{is_other}

holders_of-append : (P : Set) (gs hs : List SetHold) → holders_of P (gs ++ hs) ≡ holders_of P gs + holders_of P hs
holders_of-append P [] hs = omega arith
holders_of-append P (g ∷ gs) hs = let rest = holders_of-append P gs hs in omega (arith, rest)

one : (e : ℕ) (P : Set) (h : SetHold) → holders_of P (given_back e (h ∷ [])) ≡ cond (is_other e P h) 1 0
one e P h = go (eqb h.expert e)
  where
    go : (b : Bool) → holders_of P (cond (not b) (h ∷ []) []) ≡ cond (not b && same h.question.premise P) 1 0
    go true = refl
    go false = omega arith

-- with one hold more
holders_more : (e k : ℕ) (P : Set) (hs : List SetHold) (h d : SetHold) → k < length hs → h ≡ get_or hs k d
    → holders_of P (given_back e (take (k + 1) hs)) ≡ holders_of P (given_back e (take k hs)) + cond (is_other e P h) 1 0
holders_more e k P hs h d lt is =
    ap (λ gs. holders_of P (given_back e gs)) (take_more hs k d lt)
    ∙ ap (holders_of P) (filter-append (λ h. not (eqb h.expert e)) (take k hs) (get_or hs k d ∷ []))
    ∙ holders_of-append P (given_back e (take k hs)) (given_back e (get_or hs k d ∷ []))
    ∙ ap (λ n. holders_of P (given_back e (take k hs)) + n) (one e P (get_or hs k d) ∙ ap (λ g. cond (is_other e P g) 1 0) (sym is))

pub holders_counted : (e k : ℕ) (P : Set) (hs : List SetHold) (h : SetHold) → k < length hs → h ≡ get_or hs k h → is_other e P h ≡ true
    → holders_of P (given_back e (take (k + 1) hs)) ≡ holders_of P (given_back e (take k hs)) + 1
holders_counted e k P hs h lt is t = holders_more e k P hs h h lt is ∙ ap (λ b. holders_of P (given_back e (take k hs)) + cond b 1 0) t

pub holders_skipped : (e k : ℕ) (P : Set) (hs : List SetHold) (h : SetHold) → k < length hs → h ≡ get_or hs k h → is_other e P h ≡ false
    → holders_of P (given_back e (take (k + 1) hs)) ≡ holders_of P (given_back e (take k hs)) + 0
holders_skipped e k P hs h lt is f = holders_more e k P hs h h lt is ∙ ap (λ b. holders_of P (given_back e (take k hs)) + cond b 1 0) f
