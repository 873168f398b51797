use Rattle.std.proofs.Common.{◌≡◌, ◌≢◌, ◌<◌, ◌≤◌, true, false, length, get_or, refl, sym, ap, ◌∙◌, subst, arith}
use Rattle.std.proofs.lemmas.List.{take_all}
use Rattle.std.specs.List.{list_all}
use Rattle.std.proofs.lemmas.Bool.{false≢true}
use Rattle.fca_model.specs.Sets.{Set, within, join}
use Rattle.fca_model.specs.Implications.{Rule}
use Rattle.fca_model.specs.Exploration.{first_missing}
use Rattle.fca_model.proofs.SetLemmas.{within_trans, within_at_place, within-join}
use Rattle.fca_model.proofs.StepLemmas.{first_missing_none}
use Rattle.attr_bits.proofs.DifferenceLemmas.{first_missing-parts}
use Rattle.attr_bits.proofs.PlaceLemmas.{member_below}
use Rattle.lectic_basis.specs.Watches.{bucket, waiting_at}
use Rattle.lectic_basis.proofs.WatchLemmas as watch
use Rattle.lectic_basis.proofs.closing.settle.Goals as goal

pub loop-k-init : goal.loop-k-init
loop-k-init g c = record { list = refl; settling = watch.settle_start c.requires.sorted; agree = c.requires.agree }

pub move_to-requires : goal.move_to-requires
move_to-requires g c =
    let there : c.loop-k.k < length (bucket c.args.z c.loop-k.found.buckets) = omega (arith, c.loop-k-test.true, c.count.ensures) in
    let i : Rule = waiting_at c.args.z c.loop-k.k c.loop-k.found.buckets in
    let parts = first_missing-parts i.premise c.loop-k.reached c.in-Some.other
    (ap (λ P. first_missing 0 P c.loop-k.reached) (sym c.premise.ensures) ∙ sym c.first_missing.ensures ∙ c.in-Some.is) in
    let inside : c.args.z < length c.loop-k.found.buckets =
    omega (arith, member_below c.args.reached.now c.args.z c.requires.member, c.requires.room, c.loop-k.invariant.settling.room) in
    let other_inside : c.in-Some.other < length c.loop-k.found.buckets =
    omega (
      arith,
      member_below i.premise c.in-Some.other parts.0,
      watch.premise_wide c.loop-k.invariant.settling there c.requires.wide,
      c.requires.room,
      c.loop-k.invariant.settling.room,
    ) in
    let elsewhere : c.in-Some.other ≢ c.args.z = λ e. false≢true
    (sym parts.1 ∙ ap (λ m. get_or c.loop-k.reached m false) e
    ∙ within_at_place c.args.reached.now c.loop-k.reached c.loop-k.invariant.settling.up c.args.z c.requires.member) in
    (omega arith, (inside, (other_inside, (there, elsewhere))))

pub loop-k-preserved-in-Continue-1 : goal.loop-k-preserved-in-Continue-1
loop-k-preserved-in-Continue-1 g c =
    let there : c.loop-k.k < length (bucket c.args.z c.loop-k.found.buckets) = omega (arith, c.loop-k-test.true, c.count.ensures) in
    let i : Rule = waiting_at c.args.z c.loop-k.k c.loop-k.found.buckets in
    let parts = first_missing-parts i.premise c.loop-k.reached c.in-Some.other
    (ap (λ P. first_missing 0 P c.loop-k.reached) (sym c.premise.ensures) ∙ sym c.first_missing.ensures ∙ c.in-Some.is) in
    record {
      list = c.move_to.ensures.list ∙ c.loop-k.invariant.list;
      settling = watch.settle_move c.loop-k.invariant.settling there c.in_ok-move_to-in-Some.ensures.moved parts.0 parts.1;
      agree = c.loop-k.invariant.agree;
    }

pub loop-k-smaller-in-Continue-1 : goal.loop-k-smaller-in-Continue-1
loop-k-smaller-in-Continue-1 g c =
    let there : c.loop-k.k < length (bucket c.args.z c.loop-k.found.buckets) = omega (arith, c.loop-k-test.true, c.count.ensures) in
    omega (arith, there, c.in_ok-move_to-in-Some.ensures.moved.fewer)

pub loop-k-smaller : goal.loop-k-smaller
loop-k-smaller g c =
    let there : c.loop-k.k < length (bucket c.args.z c.loop-k.found.buckets) = omega (arith, c.loop-k-test.true, c.count.ensures) in
    omega (arith, there)

pub join-requires : goal.join-requires
join-requires g c =
    let there : c.loop-k.k < length (bucket c.args.z c.loop-k.found.buckets) = omega (arith, c.loop-k-test.true, c.count.ensures) in (
      omega arith,
      subst (λ X. length X ≤ length c.loop-k.reached) (sym c.conclusion.ensures)
          (watch.join_fits c.loop-k.invariant.settling there c.requires.wide),
    )

pub agrees-requires : goal.agrees-requires
agrees-requires g c =
    let D : Set = c.loop-k.reached in (
      omega (arith, c.width-width.ensures.words),
      within_trans c.args.done.now D c.join.result
          (within_trans c.args.done.now c.args.reached.now D c.requires.above c.loop-k.invariant.settling.up)
          (subst (λ X. within D X ≡ true) (sym c.join.ensures) (within-join D c.conclusion.result)),
    )

pub returns-then-not-agrees-clause-settling : goal.returns-then-not-agrees-clause-settling
returns-then-not-agrees-clause-settling g c =
    let there : c.loop-k.k < length (bucket c.args.z c.loop-k.found.buckets) = omega (arith, c.loop-k-test.true, c.count.ensures) in
    let i : Rule = waiting_at c.args.z c.loop-k.k c.loop-k.found.buckets in
    let inside : within i.premise c.loop-k.reached ≡ true =
    first_missing_none 0 i.premise c.loop-k.reached
    (ap (λ P. first_missing 0 P c.loop-k.reached) (sym c.premise.ensures) ∙ sym c.first_missing.ensures ∙ c.in-None.is) in
    let joined = watch.settle_join c.loop-k.invariant.settling there c.requires.wide inside
    (c.join.ensures ∙ ap (join c.loop-k.reached) c.conclusion.ensures) in
    watch.settle_any joined

pub loop-k-preserved : goal.loop-k-preserved
loop-k-preserved g c =
    let there : c.loop-k.k < length (bucket c.args.z c.loop-k.found.buckets) = omega (arith, c.loop-k-test.true, c.count.ensures) in
    let i : Rule = waiting_at c.args.z c.loop-k.k c.loop-k.found.buckets in
    let inside : within i.premise c.loop-k.reached ≡ true =
    first_missing_none 0 i.premise c.loop-k.reached
    (ap (λ P. first_missing 0 P c.loop-k.reached) (sym c.premise.ensures) ∙ sym c.first_missing.ensures ∙ c.in-None.is) in
    let joined = watch.settle_join c.loop-k.invariant.settling there c.requires.wide inside
    (c.join.ensures ∙ ap (join c.loop-k.reached) c.conclusion.ensures) in
    record { list = c.loop-k.invariant.list; settling = joined; agree = sym c.agrees.ensures ∙ c.if-not-agrees.false }

pub returns-clause-list : goal.returns-clause-list
returns-clause-list g c = c.loop-k.invariant.list

pub returns-clause-settling : goal.returns-clause-settling
returns-clause-settling g c = watch.settle_any c.loop-k.invariant.settling

pub returns-clause-finished : goal.returns-clause-finished
returns-clause-finished g c e =
    sym (ap (list_all (λ (i : Rule). within i.conclusion c.loop-k.reached))
    (take_all c.loop-k.k (bucket c.args.z c.loop-k.found.buckets) (omega (arith, c.loop-k-test.false, c.count.ensures))))
    ∙ c.loop-k.invariant.settling.taken

pub returns-clause-agree : goal.returns-clause-agree
returns-clause-agree g c = sym c.loop-k.invariant.agree
