use Rattle.std.proofs.Common.{◌∙◌, ◌++◌, ◌∷◌, [], ◌-◌, suc, Some, None, ap, sym, subst, arith, length, option_map}
use Rattle.std.proofs.lemmas.List.{length-append}
use Rattle.fca_model.specs.Sets.{join}
use Rattle.fca_model.proofs.SetLemmas.{size_le, length-join}
use Rattle.implication_closure.specs.Closing.{HaveWidth}
use Rattle.canonical_basis.specs.Derivations.{derivation, derivation_within, conclusion_at}
use Rattle.canonical_basis.proofs.DerivationLemmas.{broken_in_range, joined_at, derive_measure, derivation_none, derivation_sound}
use Rattle.canonical_basis.proofs.DerivationLemmas.{derive_step, derive_done, derive_stuck}
use Rattle.canonical_basis.proofs.derivations.derive.Goals as goal

pub loop-members-smaller : goal.loop-members-smaller
loop-members-smaller c =
    let n = c.args.list.now.width in
    let J = c.args.list.now.members in
    let X = c.loop-members.reached in
    let i = c.in-Some.i in
    let at = sym c.first_broken.ensures ∙ c.in-Some.is in
    let joined = joined_at J c.as_slice-members.result.now X c.join-reached.result i c.index-members-i.result
    c.as_slice-members.ensures.members (broken_in_range J X i at) c.join-reached.ensures in
    let even = subst (λ js. HaveWidth n js) c.as_slice-members.ensures.members c.as_slice-members.ensures.even in
    let larger = derive_measure n J X c.join-reached.result i even c.loop-members.invariant.wide at joined in
    let wide = c.loop-members.invariant.wide in
    omega (arith, larger, size_le c.join-reached.result, ap length joined, length-join X (conclusion_at J i), wide)

pub loop-members-preserved : goal.loop-members-preserved
loop-members-preserved c =
    let n = c.args.list.now.width in
    let J = c.args.list.now.members in
    let X = c.loop-members.reached in
    let C = c.args.c.now in
    let i = c.in-Some.i in
    let steps = c.loop-members.steps.items in
    let all = derivation c.args.list.now c.args.p.now C in
    let at = sym c.first_broken.ensures ∙ c.in-Some.is in
    let joined = joined_at J c.as_slice-members.result.now X c.join-reached.result i c.index-members-i.result
    c.as_slice-members.ensures.members (broken_in_range J X i at) c.join-reached.ensures in
    let even = subst (λ js. HaveWidth n js) c.as_slice-members.ensures.members c.as_slice-members.ensures.even in
    let larger = derive_measure n J X c.join-reached.result i even c.loop-members.invariant.wide at joined in
    let wide = c.loop-members.invariant.wide in
    let few = c.loop-members.invariant.few in
    let pushed = c.in_ok-push-in-Some.ensures.items in
    record {
      wide = ap length joined ∙ length-join X (conclusion_at J i) ∙ wide;
      few = omega (arith, few, larger, ap length pushed, length-append steps (i ∷ []));
      derived = derive_step n J X C steps i all (omega (arith, few, size_le X, wide))
          (sym c.within.ensures ∙ c.loop-members-test.true) at c.loop-members.invariant.derived
          ∙ ap (λ s. option_map (λ t. s ++ t) (derivation_within (suc n - length s) J (join X (conclusion_at J i)) C)) (sym pushed)
          ∙ ap (λ Y. option_map (λ t. c.push.new.self.items ++ t) (derivation_within (suc n - length c.push.new.self.items) J Y C))
          (sym joined);
    }

pub returns-in-None-clause-derivation : goal.returns-in-None-clause-derivation
returns-in-None-clause-derivation c = derive_stuck c.args.list.now.width c.args.list.now.members c.loop-members.reached c.args.c.now
    c.loop-members.steps.items (derivation c.args.list.now c.args.p.now c.args.c.now)
    (sym c.within.ensures ∙ c.loop-members-test.true) (sym c.first_broken.ensures ∙ c.in-None.is) c.loop-members.invariant.derived

pub returns-in-None-clause-none : goal.returns-in-None-clause-none
returns-in-None-clause-none c =
    let stuck = derive_stuck c.args.list.now.width c.args.list.now.members c.loop-members.reached c.args.c.now c.loop-members.steps.items
    (derivation c.args.list.now c.args.p.now c.args.c.now)
    (sym c.within.ensures ∙ c.loop-members-test.true) (sym c.first_broken.ensures ∙ c.in-None.is) c.loop-members.invariant.derived in
    derivation_none c.args.list.now.width c.args.list.now.members
    (subst (λ js. HaveWidth c.args.list.now.width js) c.as_slice-members.ensures.members c.as_slice-members.ensures.even) c.args.c.now
    c.args.p.now c.requires.premise None stuck

pub returns-clause-derivation : goal.returns-clause-derivation
returns-clause-derivation c = derive_done c.args.list.now.width c.args.list.now.members c.loop-members.reached c.args.c.now
    c.loop-members.steps.items (derivation c.args.list.now c.args.p.now c.args.c.now)
    (sym c.within.ensures ∙ c.loop-members-test.false) c.loop-members.invariant.derived

pub returns-clause-none : goal.returns-clause-none
returns-clause-none c =
    let done = derive_done c.args.list.now.width c.args.list.now.members c.loop-members.reached c.args.c.now c.loop-members.steps.items
    (derivation c.args.list.now c.args.p.now c.args.c.now)
    (sym c.within.ensures ∙ c.loop-members-test.false) c.loop-members.invariant.derived in
    derivation_none c.args.list.now.width c.args.list.now.members
    (subst (λ js. HaveWidth c.args.list.now.width js) c.as_slice-members.ensures.members c.as_slice-members.ensures.even) c.args.c.now
    c.args.p.now c.requires.premise (Some c.loop-members.steps.items) done

pub returns-clause-sound : goal.returns-clause-sound
returns-clause-sound c = derivation_sound c.args.list.now.members c.args.c.now
    (suc c.args.list.now.width) c.args.p.now c.loop-members.steps.items
    (sym (derive_done c.args.list.now.width c.args.list.now.members c.loop-members.reached c.args.c.now c.loop-members.steps.items
    (derivation c.args.list.now c.args.p.now c.args.c.now)
    (sym c.within.ensures ∙ c.loop-members-test.false) c.loop-members.invariant.derived))
