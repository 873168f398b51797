use Rattle.std.proofs.Common.{◌≡◌, ◌∙◌, ℕ, false, replicate, sym, ap, ap₂, subst}
use Rattle.std.proofs.lemmas.Simd.{length-replicate}
use Rattle.fca_model.specs.Sets.{Set}
use Rattle.fca_model.specs.Context.{Context, closure}
use Rattle.lectic_concepts.specs.Branches.{branch}
use Rattle.lectic_concepts.proofs.IntentLemmas.{IsIntent, closed-closure}
use Rattle.lectic_concepts.proofs.BranchLemmas.{branch_start}
use Rattle.table_texts.proofs.tops.least_intent.Goals as goal

-- the least set is the closure of the empty one
least : (K J : Context) (n : ℕ) (E D : Set) → J ≡ K → n ≡ J.width → E ≡ replicate n false → D ≡ closure J E
    → D ≡ closure K (replicate K.width false)
least K J n E D same width empty is =
    is ∙ ap₂ (λ (X : Context) (Y : Set). closure X Y) same
    (empty ∙ ap (λ k. replicate k false) (width ∙ ap (λ (X : Context). X.width) same))

is_intent : (K : Context) (D : Set) → D ≡ closure K (replicate K.width false) → IsIntent K D
is_intent K D is = subst (λ X. IsIntent K X) (sym is) (closed-closure K (replicate K.width false) (length-replicate K.width false))

pub returns : goal.returns
returns g c =
    let K : Context = c.args.crosses.now in
    let D : Set = c.closure.result in
    let is = least K c.rows-rows.result.now c.width.result c.empty.result D c.rows-rows.ensures c.width.ensures.width c.empty.ensures
    c.closure.ensures in
    record {
      wide = (is_intent K D is).wide;
      closed = (is_intent K D is).closed;
      least = ap (λ X. branch K X 0) is ∙ branch_start K;
    }
