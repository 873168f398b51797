use Rattle.std.proofs.Common.{◌≡◌, ◌∙◌, ◌+◌, ℕ, List, length, drop, ap, arith, length-append}
use Rattle.std.proofs.lemmas.List.{drop_all}
use Rattle.std.specs.List.{flat_map}
use Rattle.fca_model.specs.Sets.{Set}
use Rattle.packed_concepts.proofs.PageLemmas.{next_page}
use Rattle.packed_concepts.proofs.pages.count_on.Goals as goal

pub loop-page-preserved : goal.loop-page-preserved
loop-page-preserved g c =
    let i = c.loop-page.page-index in
    let page : List (Set × List ℕ) = c.page-item.result in
    let later : List (Set × List ℕ) = flat_map (λ x. x) (drop (i + 1) c.args.pages.now) in
    let count : length (flat_map (λ x. x) (drop i c.args.pages.now)) ≡ length page + length later =
    ap length (next_page c.args.pages.now i page c.loop-page-test.true c.page-item.is) ∙ length-append page later in
    omega (arith, count, c.in-Some.ensures, c.len.ensures.count, c.loop-page.invariant)

pub returns : goal.returns
returns g c =
    let none : length (flat_map (λ x. x) (drop c.loop-page.page-index c.args.pages.now)) ≡ 0 =
    ap (λ (pages : List (List (Set × List ℕ))). length (flat_map (λ x. x) pages))
    (drop_all c.loop-page.page-index c.args.pages.now c.loop-page-test.false) in
    omega (arith, none, c.loop-page.invariant)
