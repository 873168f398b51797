use Rattle.std.proofs.Common.{◌≡◌, ◌∙◌, ◌+◌, ◌++◌, ℕ, List, length, drop, sym, ap, subst, arith, append_assoc, length-append}
use Rattle.std.proofs.lemmas.List.Concat.{flat_map-append}
use Rattle.std.specs.List.{flat_map}
use Rattle.fca_model.specs.Sets.{Set}
use Rattle.packed_concepts.specs.Stretches.{StretchConcepts, concepts_of, Follow}
use Rattle.packed_concepts.proofs.PageLemmas.{next_page}
use Rattle.packed_concepts.proofs.StretchLemmas.{Follow-append}
use Rattle.packed_concepts.proofs.jobs.stretches_of.Goals as goal

pub loop-page-preserved : goal.loop-page-preserved
loop-page-preserved g c =
    let i = c.loop-page.page-index in
    let page : List (Set × List ℕ) = c.page-item.result in
    let later : List (Set × List ℕ) = flat_map (λ x. x) (drop (i + 1) c.args.pages.now) in
    let next = next_page c.args.pages.now i page c.loop-page-test.true c.page-item.is in
    let made : List StretchConcepts = c.loop-page.made.items in
    let own : List StretchConcepts = c.in_ok-own.own.items in
    let both : concepts_of c.append.new.self.items ≡ concepts_of made ++ page =
    ap concepts_of c.in_ok-append.ensures.items ∙ flat_map-append (λ (s : StretchConcepts). s.concepts) made own
    ∙ ap (λ (z : List (Set × List ℕ)). concepts_of made ++ z) c.in_ok-own.ensures.concepts in
    let count : length (concepts_of c.append.new.self.items) ≡ length (concepts_of made) + length page =
    ap length both ∙ length-append (concepts_of made) page in
    record {
      concepts = ap (λ (z : List (Set × List ℕ)). z ++ later) both ∙ append_assoc (concepts_of made) page later
          ∙ ap (λ (z : List (Set × List ℕ)). concepts_of made ++ z) (sym next) ∙ c.loop-page.invariant.concepts;
      next = omega (arith, count, c.len-next.ensures.count, c.loop-page.invariant.next);
      follow = subst (Follow 0) (sym c.in_ok-append.ensures.items) (Follow-append 0 c.loop-page.next made own
          (omega (arith, c.loop-page.invariant.next)) c.loop-page.invariant.follow c.in_ok-own.ensures.follow);
    }
