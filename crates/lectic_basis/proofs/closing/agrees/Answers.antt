use Rattle.std.proofs.Common.{◌≡◌, ℕ, Some, leb, sym, ◌∙◌, inl, inr}
use Rattle.std.proofs.lemmas.Bool.{leb-true, leb-false, cases_Bool}
use Rattle.fca_model.specs.Sets.{Set}
use Rattle.fca_model.specs.Exploration.{first_missing}
use Rattle.lectic_basis.proofs.TreeLemmas.{agrees_none, agrees_some, differs_some}
use Rattle.lectic_basis.proofs.closing.agrees.Goals as goal

pub returns-in-None : goal.returns-in-None
returns-in-None g c = sym (agrees_none c.args.from c.args.a.now c.args.larger.now c.requires (sym c.first_missing.ensures ∙ c.in-None.is))

pub returns-in-Some : goal.returns-in-Some
returns-in-Some g c =
    let A : Set = c.args.a.now in
    let C : Set = c.args.larger.now in
    let first : ℕ = c.in-Some.first in
    let found : first_missing 0 C A ≡ Some first = sym c.first_missing.ensures ∙ c.in-Some.is in
    elim (cases_Bool (leb c.args.from first)) [
      | inl t ↦ t ∙ sym (agrees_some c.args.from first A C c.requires found (leb-true c.args.from first t))
      | inr f ↦ f ∙ sym (differs_some c.args.from first A C found (leb-false c.args.from first f))
    ]
