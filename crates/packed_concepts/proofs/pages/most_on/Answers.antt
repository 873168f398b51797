use Rattle.std.proofs.Common.{◌≡◌, ◌∙◌, ◌≤◌, ℕ, All, List, get_or, length, inl, inr, sym, subst, arith}
use Rattle.std.proofs.lemmas.Bool.{cases_lt}
use Rattle.std.proofs.lemmas.List.{get_or_default}
use Rattle.fca_model.specs.Sets.{Set}
use Rattle.packed_concepts.proofs.PageLemmas.{All-flat}
use Rattle.packed_concepts.proofs.pages.most_on.Goals as goal

-- more than before, or as many as on this page
wider : (m n : ℕ) (page : List (Set × List ℕ)) → m ≤ n → All (λ c. length c.1 ≤ m) page → All (λ c. length c.1 ≤ n) page
wider m n page more h = λ k d l. let b = h k d l in omega (arith, b, more)

pub loop-page-preserved : goal.loop-page-preserved
loop-page-preserved g c = λ k d l.
    let i = c.loop-page.page-index in
    let pages : List (List (Set × List ℕ)) = c.args.pages.now in
    elim (cases_lt k i) [
      | inl before ↦ wider c.loop-page.most c.max-most.result (get_or pages k d) (omega (arith, c.max-most.ensures))
          (c.loop-page.invariant k d before)
      | inr last ↦
          let here : k ≡ i = omega (arith, last, l) in
          subst (λ (page : List (Set × List ℕ)). All (λ x. length x.1 ≤ c.max-most.result) page)
          (c.page-item.is ∙ subst (λ j. get_or pages i c.page-item.result ≡ get_or pages j d) (sym here)
          (get_or_default pages i c.page-item.result d c.loop-page-test.true))
          (wider c.most.result c.max-most.result c.page-item.result (omega (arith, c.max-most.ensures)) c.most.ensures)
    ]

pub returns : goal.returns
returns g c = All-flat (λ x. length x.1 ≤ c.loop-page.most) c.args.pages.now
    (λ k d l. c.loop-page.invariant k d (omega (arith, l, c.loop-page-test.false)))
