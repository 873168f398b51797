use Rattle.std.proofs.Common.{◌≡◌, ◌∙◌, ◌+◌, ◌++◌, ◌∷◌, [], ℕ, List, All, length, take, drop, refl, sym, ap, ap₂, subst, arith}
use Rattle.std.proofs.lemmas.List.{length-drop}
use Rattle.std.proofs.lemmas.List.Elements.{All-head, All-tail}
use Rattle.std.proofs.lemmas.Result.{err_from_is_err_and}
use Rattle.fca_model.specs.Sets.{Set}
use Rattle.fca_model.specs.Tables.{Text}
use Rattle.expert_wire.specs.Texts.{ordinal}
use Rattle.expert_wire.proofs.WriteLemmas.{Writes-front}
use Rattle.packed_concepts.specs.Lines.{TableNames, line_of, lines_from}
use Rattle.packed_concepts.specs.Packing.{unpacked, IsNamed, HasRoomForLine}
use Rattle.packed_concepts.specs.declared.page.IntentAndCount.{IntentAndCount}
use Rattle.packed_concepts.proofs.PackingLemmas.{length-unpacked, total-left, unpacked-left, length-left}
use Rattle.packed_concepts.proofs.PassingLemmas.{IsPassing-start, IsPassing-more, IsPassing-fault}
use Rattle.packed_concepts.proofs.writing.pass_stretch.Goals as goal

pub loop-one-init : goal.loop-one-init
loop-one-init g c =
    let ps : List (IntentAndCount g.row.W) = c.parts.result.0.now in
    let count : length c.args.stretch.now.concepts ≡ length ps = ap (λ (cs : List (Set × List ℕ)). length cs) (sym c.parts.ensures.concepts)
    ∙ length-unpacked ps c.parts.result.1.now in
    record {
      end = c.requires.end;
      room = refl;
      fits = c.parts.ensures.fits;
      named = subst (λ (cs : List (Set × List ℕ)). All (IsNamed c.args.names.now) cs) (sym c.parts.ensures.concepts) c.requires.ready.named;
      enough = subst (λ (cs : List (Set × List ℕ)). All (HasRoomForLine (length c.args.buffer.now)) cs)
          (sym c.parts.ensures.concepts) c.requires.enough;
      few = omega (arith, count, c.requires.ready.few, c.first-first.ensures.first);
      passing = IsPassing-start _ _ _ _ (take c.args.end c.args.buffer.now) _ _
          (ap₂ (λ n (cs : List (Set × List ℕ)). lines_from c.args.names.now n cs) c.first-first.ensures.first c.parts.ensures.concepts);
    }

pub pass_line-requires : goal.pass_line-requires
pass_line-requires g c =
    let ps : List (IntentAndCount g.row.W) = c.parts.result.0.now in
    let one : IntentAndCount g.row.W = c.one-item.result in
    let i = c.loop-one.one-index in
    let rest : List ℕ = c.loop-one.rest.now in
    let behind : List (Set × List ℕ) = unpacked (drop (i + 1) ps) (drop one.count rest) in
    let left : unpacked (drop i ps) rest ≡ (one.intent, take one.count rest) ∷ behind =
    unpacked-left ps i one c.loop-one-test.true c.one-item.is rest in
    let front : c.split_at.result.0.now ≡ take one.count rest = c.split_at.ensures.front in
    let back : c.split_at.result.1.now ≡ drop one.count rest = c.split_at.ensures.back in
    let counts = length-left ps i one c.loop-one-test.true c.one-item.is in
    let named = All-head (IsNamed c.args.names.now) (one.intent, take one.count rest) behind
    (subst (λ (cs : List (Set × List ℕ)). All (IsNamed c.args.names.now) cs) left c.loop-one.invariant.named) in
    let enough = All-head (HasRoomForLine (length c.args.buffer.now)) (one.intent, take one.count rest) behind
    (subst (λ (cs : List (Set × List ℕ)). All (HasRoomForLine (length c.args.buffer.now)) cs) left c.loop-one.invariant.enough) in (
      omega (arith, c.first-first.ensures.words),
      (
        subst (λ (E : List ℕ). IsNamed c.args.names.now (one.intent, E)) (sym front) named,
        (
          subst (λ n. HasRoomForLine n (one.intent, c.split_at.result.0.now)) (sym c.loop-one.invariant.room)
              (subst (λ (E : List ℕ). HasRoomForLine (length c.args.buffer.now) (one.intent, E)) (sym front) enough),
          (c.loop-one.invariant.end, omega (arith, counts, c.loop-one.invariant.few)),
        ),
      ),
    )

pub returns-in_err-waits-clause-failed : goal.returns-in_err-waits-clause-failed
returns-in_err-waits-clause-failed g c =
    let ps : List (IntentAndCount g.row.W) = c.parts.result.0.now in
    let one : IntentAndCount g.row.W = c.one-item.result in
    let i = c.loop-one.one-index in
    let rest : List ℕ = c.loop-one.rest.now in
    let behind : List (Set × List ℕ) = unpacked (drop (i + 1) ps) (drop one.count rest) in
    let left : unpacked (drop i ps) rest ≡ (one.intent, take one.count rest) ∷ behind =
    unpacked-left ps i one c.loop-one-test.true c.one-item.is rest in
    let front : c.split_at.result.0.now ≡ take one.count rest = c.split_at.ensures.front in
    let back : c.split_at.result.1.now ≡ drop one.count rest = c.split_at.ensures.back in
    let p = err_from_is_err_and c.from_residual.result c.from_residual.ensures.1 in
    let waits : Text = take c.loop-one.waits c.loop-one.buffer in
    let text : Text = lines_from c.args.names.now c.loop-one.next (unpacked (drop i ps) rest) in
    rw (p.1, p.2) (IsPassing-fault _ waits _ [] text text _ refl c.loop-one.invariant.passing
    (Writes-front [] _ c.in_err-waits.ensures.failed))

pub loop-one-preserved : goal.loop-one-preserved
loop-one-preserved g c =
    let ps : List (IntentAndCount g.row.W) = c.parts.result.0.now in
    let one : IntentAndCount g.row.W = c.one-item.result in
    let i = c.loop-one.one-index in
    let rest : List ℕ = c.loop-one.rest.now in
    let behind : List (Set × List ℕ) = unpacked (drop (i + 1) ps) (drop one.count rest) in
    let left : unpacked (drop i ps) rest ≡ (one.intent, take one.count rest) ∷ behind =
    unpacked-left ps i one c.loop-one-test.true c.one-item.is rest in
    let front : c.split_at.result.0.now ≡ take one.count rest = c.split_at.ensures.front in
    let back : c.split_at.result.1.now ≡ drop one.count rest = c.split_at.ensures.back in
    let t : TableNames = c.args.names.now in
    let n = c.loop-one.next in
    let long = length-drop one.count rest in
    let sums = total-left ps i one c.loop-one-test.true c.one-item.is in
    let counts = length-left ps i one c.loop-one-test.true c.one-item.is in
    let line : Text = line_of t (ordinal n) one.intent c.split_at.result.0.now in
    record {
      end = c.in_ok-waits.ensures.end;
      room = c.in_ok-waits.ensures.room ∙ c.loop-one.invariant.room;
      fits = let after = ap length back in omega (arith, sums, long, after, c.loop-one.invariant.fits);
      named = subst (λ (E : List ℕ). All (IsNamed t) (unpacked (drop (i + 1) ps) E)) (sym back)
          (All-tail (IsNamed t) (one.intent, take one.count rest) behind
          (subst (λ (cs : List (Set × List ℕ)). All (IsNamed t) cs) left c.loop-one.invariant.named));
      enough = subst (λ (E : List ℕ). All (HasRoomForLine (length c.args.buffer.now)) (unpacked (drop (i + 1) ps) E)) (sym back)
          (All-tail (HasRoomForLine (length c.args.buffer.now)) (one.intent, take one.count rest) behind
          (subst (λ (cs : List (Set × List ℕ)). All (HasRoomForLine (length c.args.buffer.now)) cs) left c.loop-one.invariant.enough));
      few = omega (arith, counts, c.loop-one.invariant.few);
      passing = IsPassing-more _ _ _ _ line _ _
          (ap (lines_from t n) left ∙ ap₂ (λ (E F : List ℕ). line_of t (ordinal n) one.intent E ++ lines_from t (n + 1)
          (unpacked (drop (i + 1) ps) F)) (sym front) (sym back))
          c.loop-one.invariant.passing c.in_ok-waits.ensures.passed;
    }
