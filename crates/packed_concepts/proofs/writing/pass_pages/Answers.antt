use Rattle.std.proofs.Common.{◌≡◌, ◌∙◌, ◌+◌, ◌++◌, ℕ, List, length, take, drop, refl, sym, ap, arith, length-append, subst, All}
use Rattle.std.specs.List.{flat_map}
use Rattle.std.proofs.lemmas.Result.{err_from_is_err_and}
use Rattle.fca_model.specs.Sets.{Set}
use Rattle.packed_concepts.specs.Lines.{TableNames, lines_from}
use Rattle.packed_concepts.specs.Packing.{IsNamed, HasRoomForLine}
use Rattle.packed_concepts.specs.Stretches.{StretchConcepts, lines_on, IsReady, HasRoomForLines}
use Rattle.packed_concepts.proofs.LineLemmas.{lines_from-append}
use Rattle.packed_concepts.proofs.PageLemmas.{next_page, of_page}
use Rattle.packed_concepts.proofs.PassingLemmas.{IsPassing-start, IsPassing-more, IsPassing-fault}
use Rattle.packed_concepts.proofs.writing.pass_pages.Goals as goal

pub loop-page-init : goal.loop-page-init
loop-page-init g c = record {
  end = c.requires.end;
  room = refl;
  few = omega (arith, c.requires.few);
  passing = IsPassing-start _ _ _ _ (take c.args.end c.args.buffer.now) _ _ refl;
}

pub pass_stretch-requires : goal.pass_stretch-requires
pass_stretch-requires g c =
    let i = c.loop-page.page-index in
    let page : List (Set × List ℕ) = c.page-item.result in
    let next = next_page c.args.pages.now i page c.loop-page-test.true c.page-item.is in
    let count : length (flat_map (λ x. x) (drop i c.args.pages.now)) ≡ length page + length
    (flat_map (λ x. x) (drop (i + 1) c.args.pages.now)) = ap length next
    ∙ length-append page (flat_map (λ x. x) (drop (i + 1) c.args.pages.now)) in
    let one : StretchConcepts = record { first = c.loop-page.next; concepts = page } in
    let is : c.of_page.result ≡ one = c.of_page.ensures in
    let ready : IsReady c.args.names.now one = record {
      named = of_page (All (IsNamed c.args.names.now)) c.args.pages.now i page c.loop-page-test.true c.page-item.is c.requires.named;
      few = omega (arith, count, c.loop-page.invariant.few);
    } in
    let enough : HasRoomForLines (length c.loop-page.buffer) one = subst (λ n. All (HasRoomForLine n) page) (sym c.loop-page.invariant.room)
    (of_page (All (HasRoomForLine (length c.args.buffer.now))) c.args.pages.now i page c.loop-page-test.true c.page-item.is c.requires.enough) in (
      omega arith,
      (
        subst (IsReady c.args.names.now) (sym is) ready,
        (subst (HasRoomForLines (length c.loop-page.buffer)) (sym is) enough, c.loop-page.invariant.end),
      ),
    )

pub returns-in_err-waits-clause-failed : goal.returns-in_err-waits-clause-failed
returns-in_err-waits-clause-failed g c =
    let t : TableNames = c.args.names.now in
    let i = c.loop-page.page-index in
    let page : List (Set × List ℕ) = c.page-item.result in
    let n = c.loop-page.next in
    let later : List (Set × List ℕ) = flat_map (λ x. x) (drop (i + 1) c.args.pages.now) in
    let next = next_page c.args.pages.now i page c.loop-page-test.true c.page-item.is in
    let p = err_from_is_err_and c.from_residual.result c.from_residual.ensures.1 in
    rw (p.1, p.2) (IsPassing-fault _ (take c.loop-page.waits c.loop-page.buffer) _ (lines_on t c.of_page.result) _
    (lines_from t (n + length page) later) _
    (ap (lines_from t n) next ∙ lines_from-append t n page later
    ∙ ap (λ (s : StretchConcepts). lines_on t s ++ lines_from t (n + length page) later) (sym c.of_page.ensures))
    c.loop-page.invariant.passing c.in_err-waits.ensures.failed)

pub loop-page-preserved : goal.loop-page-preserved
loop-page-preserved g c =
    let t : TableNames = c.args.names.now in
    let i = c.loop-page.page-index in
    let page : List (Set × List ℕ) = c.page-item.result in
    let n = c.loop-page.next in
    let later : List (Set × List ℕ) = flat_map (λ x. x) (drop (i + 1) c.args.pages.now) in
    let next = next_page c.args.pages.now i page c.loop-page-test.true c.page-item.is in
    let count : length (flat_map (λ x. x) (drop i c.args.pages.now)) ≡ length page + length later = ap length next
    ∙ length-append page later in
    let more : n + length page ≡ n + c.len-count.result = ap (λ k. n + k) (sym c.len-count.ensures.count) in
    record {
      end = c.in_ok-waits.ensures.end;
      room = c.in_ok-waits.ensures.room ∙ c.loop-page.invariant.room;
      few = omega (arith, count, c.len-count.ensures.count, c.loop-page.invariant.few);
      passing = IsPassing-more _ _ _ _ (lines_on t c.of_page.result) _ _
          (ap (lines_from t n) next ∙ lines_from-append t n page later ∙ ap (λ k. lines_from t n page ++ lines_from t k later) more
          ∙ ap (λ (s : StretchConcepts). lines_on t s ++ lines_from t (n + c.len-count.result) later) (sym c.of_page.ensures))
          c.loop-page.invariant.passing c.in_ok-waits.ensures.passed;
    }
