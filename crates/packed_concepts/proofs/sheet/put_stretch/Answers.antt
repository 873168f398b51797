use Rattle.std.proofs.Common.{◌≡◌, ◌∙◌, ◌+◌, ◌++◌, ◌∷◌, ℕ, List, All, length, take, drop, refl, sym, ap, ap₂, subst, arith, append_assoc}
use Rattle.std.proofs.lemmas.List.{length-drop}
use Rattle.std.proofs.lemmas.List.Elements.{All-head, All-tail}
use Rattle.fca_model.specs.Sets.{Set}
use Rattle.fca_model.specs.Tables.{Text}
use Rattle.expert_wire.specs.Texts.{ordinal}
use Rattle.packed_concepts.specs.Lines.{TableNames, line_of, lines_from}
use Rattle.packed_concepts.specs.Packing.{unpacked, IsNamed}
use Rattle.packed_concepts.specs.declared.page.IntentAndCount.{IntentAndCount}
use Rattle.packed_concepts.proofs.PackingLemmas.{length-unpacked, total-left, unpacked-left, length-left}
use Rattle.packed_concepts.proofs.sheet.put_stretch.Goals as goal

pub loop-one-init : goal.loop-one-init
loop-one-init g c =
    let ps : List (IntentAndCount g.row.W) = c.parts.result.0.now in
    let count : length c.args.stretch.now.concepts ≡ length ps = ap (λ (cs : List (Set × List ℕ)). length cs) (sym c.parts.ensures.concepts)
    ∙ length-unpacked ps c.parts.result.1.now in
    record {
      end = c.requires.start;
      room = refl;
      fits = c.parts.ensures.fits;
      named = subst (λ (cs : List (Set × List ℕ)). All (IsNamed c.args.names.now) cs) (sym c.parts.ensures.concepts) c.requires.ready.named;
      few = omega (arith, count, c.requires.ready.few, c.first-next.ensures.first);
      laid = ap₂ (λ n (cs : List (Set × List ℕ)). take c.args.start c.args.text.now ++ lines_from c.args.names.now n cs)
          c.first-next.ensures.first c.parts.ensures.concepts;
    }

pub put_numbered-requires : goal.put_numbered-requires
put_numbered-requires g c =
    let ps : List (IntentAndCount g.row.W) = c.parts.result.0.now in
    let one : IntentAndCount g.row.W = c.one-item.result in
    let i = c.loop-one.one-index in
    let rest : List ℕ = c.loop-one.rest.now in
    let behind : List (Set × List ℕ) = unpacked (drop (i + 1) ps) (drop one.count rest) in
    let left : unpacked (drop i ps) rest ≡ (one.intent, take one.count rest) ∷ behind =
    unpacked-left ps i one c.loop-one-test.true c.one-item.is rest in
    let front : c.split_at.result.0.now ≡ take one.count rest = c.split_at.ensures.front in
    let counts = length-left ps i one c.loop-one-test.true c.one-item.is in
    let named = All-head (IsNamed c.args.names.now) (one.intent, take one.count rest) behind
    (subst (λ (cs : List (Set × List ℕ)). All (IsNamed c.args.names.now) cs) left c.loop-one.invariant.named) in (
      omega (arith, c.first-next.ensures.words),
      (
        subst (λ (E : List ℕ). IsNamed c.args.names.now (one.intent, E)) (sym front) named,
        (c.loop-one.invariant.end, omega (arith, counts, c.loop-one.invariant.few)),
      ),
    )

pub loop-one-preserved : goal.loop-one-preserved
loop-one-preserved g c =
    let ps : List (IntentAndCount g.row.W) = c.parts.result.0.now in
    let one : IntentAndCount g.row.W = c.one-item.result in
    let i = c.loop-one.one-index in
    let rest : List ℕ = c.loop-one.rest.now in
    let behind : List (Set × List ℕ) = unpacked (drop (i + 1) ps) (drop one.count rest) in
    let left : unpacked (drop i ps) rest ≡ (one.intent, take one.count rest) ∷ behind =
    unpacked-left ps i one c.loop-one-test.true c.one-item.is rest in
    let front : c.split_at.result.0.now ≡ take one.count rest = c.split_at.ensures.front in
    let back : c.split_at.result.1.now ≡ drop one.count rest = c.split_at.ensures.back in
    let t : TableNames = c.args.names.now in
    let n = c.loop-one.next in
    let long = length-drop one.count rest in
    let sums = total-left ps i one c.loop-one-test.true c.one-item.is in
    let counts = length-left ps i one c.loop-one-test.true c.one-item.is in
    let old : Text = take c.loop-one.end c.loop-one.text in
    let line : Text = line_of t (ordinal n) one.intent c.split_at.result.0.now in
    let later : Text = lines_from t (n + 1) (unpacked (drop (i + 1) ps) c.split_at.result.1.now) in
    let next : lines_from t n (unpacked (drop i ps) rest) ≡ line ++ later =
    ap (lines_from t n) left ∙ ap₂ (λ (E F : List ℕ). line_of t (ordinal n) one.intent E ++ lines_from t (n + 1)
    (unpacked (drop (i + 1) ps) F)) (sym front) (sym back) in
    record {
      end = c.in_ok-end.ensures.ends;
      room = c.in_ok-end.ensures.room ∙ c.loop-one.invariant.room;
      fits = let after = ap length back in omega (arith, sums, long, after, c.loop-one.invariant.fits);
      named = subst (λ (E : List ℕ). All (IsNamed t) (unpacked (drop (i + 1) ps) E)) (sym back)
          (All-tail (IsNamed t) (one.intent, take one.count rest) behind
          (subst (λ (cs : List (Set × List ℕ)). All (IsNamed t) cs) left c.loop-one.invariant.named));
      few = omega (arith, counts, c.loop-one.invariant.few);
      laid = ap (λ (z : Text). z ++ later) c.in_ok-end.ensures.text ∙ append_assoc old line later ∙ ap (λ (z : Text). old ++ z) (sym next)
          ∙ c.loop-one.invariant.laid;
    }
