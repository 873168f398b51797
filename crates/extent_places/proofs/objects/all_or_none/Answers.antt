use Rattle.std.proofs.Common.{◌≡◌, ◌∙◌, ℕ, zero, suc, true, ◌∷◌, replicate, refl, sym, ap}
use Rattle.fca_model.specs.Sets.{full}
use Rattle.extent_places.proofs.objects.all_or_none.Goals as goal

full-replicate : (n : ℕ) → full n ≡ replicate n true
full-replicate zero = refl
full-replicate (suc n) = ap (λ X. true ∷ X) (full-replicate n)

pub returns-then-all : goal.returns-then-all
returns-then-all c = c.full.ensures ∙ full-replicate c.args.count ∙ ap (replicate c.args.count) (sym c.if-all.true)
