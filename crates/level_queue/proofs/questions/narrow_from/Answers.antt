use Rattle.std.proofs.Common.{◌≡◌, ◌<◌, ◌≤◌, ◌-◌, ◌+◌, suc, [], refl, length, get_or, set, sym, subst, ◌∙◌, arith, false}
use Rattle.std.proofs.lemmas.List.{get_or_default}
use Rattle.std.specs.List.{AllWithin}
use Rattle.fca_model.specs.Sets.{within}
use Rattle.fca_model.specs.Implications.{Rule, rule}
use Rattle.level_queue.specs.Queue.{narrowed}
use Rattle.level_queue.proofs.PlaceLemmas.{IsNarrowing, narrowing_start, narrowing_keeps, narrowing_drops, narrowing_to}
use Rattle.level_queue.proofs.questions.narrow_from.Goals.{then-not-narrow_at, else-not-narrow_at}
use Rattle.level_queue.proofs.questions.narrow_from.Goals as goal

pub loop-place-init : goal.loop-place-init
loop-place-init c =
    let xs = c.args.list.now in
    let found = c.end_of_reached-place in
    let count = c.as_slice-kept.ensures in
    record {
      from_on = found.ensures.first;
      narrowing = subst (λ ys. IsNarrowing c.args.row.now xs xs (length ys) (length ys) found.result) (sym count)
          (narrowing_to c.args.first found.result (length xs) c.requires.unclosed found.ensures.first
          (subst (λ ys. found.result ≤ length ys) count found.ensures.end)
          (narrowing_start c.args.row.now xs)
          (subst (λ ys. AllWithin (λ q. within q.premise c.args.row.now ≡ false) xs found.result (length ys)) count found.ensures.passed));
      reached = found.ensures.reached;
    }

pub loop-place-preserved : goal.loop-place-preserved
loop-place-preserved c =
    let r = c.args.row.now in
    let xs = c.args.list.now in
    let n = c.loop-place.invariant.narrowing in
    let i = c.loop-place.place - 1 in
    let on = c.loop-place.invariant.from_on in
    let next : c.loop-place.place ≡ suc i = omega (arith, c.loop-place-test.true) in
    let inside : i < length c.loop-place.list = let a = n.run in let b = n.before in let d = n.inside in omega (arith, a, b, d, next) in
    let q : Rule = get_or c.loop-place.list i (rule [] []) in
    let at : q ≡ get_or c.loop-place.list i q = get_or_default c.loop-place.list i (rule [] []) q inside in
    let here : IsNarrowing r xs c.if-not-narrow_at.list c.if-not-narrow_at.kept c.if-not-narrow_at.end i =
    elim c.if-not-narrow_at.branch [
      | then-not-narrow_at w ↦
          subst (λ ys. IsNarrowing r xs ys c.if-not-narrow_at.kept c.if-not-narrow_at.end i) (sym w.list-is)
          (subst (λ k. IsNarrowing r xs w.move_up-kept.new.list k c.if-not-narrow_at.end i) (sym w.kept-is)
          (subst (λ e. IsNarrowing r xs w.move_up-kept.new.list w.move_up-kept.result e i) (sym w.end-is)
          (narrowing_drops n i next inside q at (sym (c.narrow_at.ensures.left q at) ∙ w.if-not-narrow_at.true) c.narrow_at.new.self
          w.move_up-kept.new.list c.loop-place.place w.move_up-kept.result (c.narrow_at.ensures.met q at) refl
          w.move_up-kept.ensures.place w.move_up-kept.ensures.moved w.move_up-kept.ensures.rest w.move_up-kept.ensures.long)))
      | else-not-narrow_at w ↦
          subst (λ ys. IsNarrowing r xs ys c.if-not-narrow_at.kept c.if-not-narrow_at.end i) (sym (w.list-is ∙ c.narrow_at.ensures.met q at))
          (subst (λ k. IsNarrowing r xs (set c.loop-place.list i (narrowed r q)) k c.if-not-narrow_at.end i) (sym w.kept-is)
          (subst (λ e. IsNarrowing r xs (set c.loop-place.list i (narrowed r q)) c.loop-place.kept e i) (sym w.end-is)
          (narrowing_keeps n i next inside q at (sym (c.narrow_at.ensures.left q at) ∙ w.if-not-narrow_at.false))))
    ] in
    let found = c.end_of_reached-place-in-loop-place in
    record {
      from_on = found.ensures.first;
      narrowing = narrowing_to c.args.first found.result i c.requires.unclosed found.ensures.first found.ensures.end here found.ensures.passed;
      reached = found.ensures.reached;
    }
