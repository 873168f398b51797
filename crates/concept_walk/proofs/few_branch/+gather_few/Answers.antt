use Rattle.std.proofs.Common.{◌≡◌, ◌+◌, ◌∙◌, ◌++◌, Option, List, sym, ap, subst, arith}
use Rattle.std.specs.Prelude.{MatchOption}
use Rattle.fca_model.specs.Sets.{Set}
use Rattle.fca_model.specs.Context.{Context, extent}
use Rattle.lectic_concepts.specs.Branches.{branch}
use Rattle.lectic_concepts.proofs.IntentLemmas.{IsIntent}
use Rattle.lectic_concepts.proofs.BranchLemmas.{branch_end}
use Rattle.lectic_concepts.proofs.WitnessLemmas.{seen_none}
use Rattle.concept_walk.specs.Gatherings.{Fills}
use Rattle.extent_places.specs.Few.{AreFew}
use Rattle.extent_places.specs.Tries.{AreAttributesToTry}
use Rattle.extent_places.specs.declared.few.FewConcept.{FewConcept}
use Rattle.concept_walk.proofs.LineLemmas.{Fills-append}
use Rattle.extent_places.proofs.TryLemmas.{branch-between, branch-behind}
use Rattle.concept_walk.proofs.few_branch.+gather_few.Goals as goal

pub put_places-requires : goal.put_places-requires
put_places-requires g t c = (
  omega arith,
  (
    omega arith,
    (
      omega (arith, c.width-end.ensures.words),
      subst (λ (J : Context). AreFew J c.args.node.now.intent.now c.args.few.now c.args.node.now.objects.now) (sym c.rows-rows.ensures)
          c.requires.objects,
    ),
  ),
)

pub add-requires : goal.add-requires
add-requires g t c = (
  omega arith,
  (
    omega arith,
    (
      omega (arith, c.width-end.ensures.words),
      c.deref.ensures.value ∙ c.in_ok-put_places.ensures ∙ ap (λ (J : Context). extent J c.args.node.now.intent.now) c.rows-rows.ensures,
    ),
  ),
)

pub attributes_to_try-tries-requires : goal.attributes_to_try-tries-requires
attributes_to_try-tries-requires g t c = (
  omega arith,
  (
    omega (arith, c.width-end.ensures.words),
    (
      c.requires.wide ∙ ap (λ (J : Context). J.width) (sym c.rows-rows.ensures),
      c.deref-2.ensures.value ∙ c.in_ok-put_places.ensures,
    ),
  ),
)

pub loop-i-init : goal.loop-i-init
loop-i-init g t c =
    let K : Context = c.args.crosses.now in
    let A : Set = c.args.node.now.intent.now in
    let width : c.width-end.result ≡ K.width = c.width-end.ensures.width ∙ ap (λ (J : Context). J.width) c.rows-rows.ensures in
    let a : IsIntent K A = record { wide = c.requires.wide; closed = c.requires.closed } in
    record {
      from_on = omega (arith, width, c.requires.inside);
      inside = omega (arith, width);
      noted = seen_none K A c.take_lists-work_lists.result.noted.items c.take_lists-work_lists.ensures;
      filled = subst (Fills c.args.crosses.now c.args.gathering.now c.add.new.self)
          (sym (branch_end K A a) ∙ ap (branch K A) (sym width)) c.in_ok-add.ensures.added;
    }

pub loop-i-preserved-then-not-is_to_try : goal.loop-i-preserved-then-not-is_to_try
loop-i-preserved-then-not-is_to_try g t c =
    let K : Context = c.args.crosses.now in
    let A : Set = c.args.node.now.intent.now in
    let last = c.in-Some.ensures in
    let same : branch K A c.in-Some.i ≡ branch K A (c.in-Some.i + 1) =
    subst (λ (J : Context). branch J A c.in-Some.i ≡ branch J A (c.in-Some.i + 1)) c.rows-rows.ensures c.if-not-is_to_try.ensures in
    let behind = branch-behind K c.rows-rows.result.now A c.attributes_to_try-tries.result c.in-Some.i c.loop-i.end c.rows-rows.ensures
    c.attributes_to_try-tries.ensures.tries last.1 c.loop-i.invariant.inside last.2 in
    record {
      from_on = last.0;
      inside = omega (arith, last.1, c.loop-i.invariant.inside);
      noted = c.loop-i.invariant.noted;
      filled = subst (Fills c.args.crosses.now c.args.gathering.now c.loop-i.gathering) (sym (same ∙ behind)) c.loop-i.invariant.filled;
    }

pub loop-i-preserved-in_default-met : goal.loop-i-preserved-in_default-met
loop-i-preserved-in_default-met g t c =
    let K : Context = c.args.crosses.now in
    let A : Set = c.args.node.now.intent.now in
    let i = c.in-Some.i in
    let last = c.in-Some.ensures in
    let same : branch K A i ≡ branch K A (i + 1) =
    subst (λ (o : Option (FewConcept g.row.W)). MatchOption o (branch K A i ≡ branch K A (i + 1))
    (λ child. branch K A i ≡ branch K A (i + 1) ++ branch K child.intent (i + 1)))
    c.in_default-met.is c.in_ok-met.ensures.splits in
    let behind = branch-behind K c.rows-rows.result.now A c.attributes_to_try-tries.result i c.loop-i.end c.rows-rows.ensures
    c.attributes_to_try-tries.ensures.tries last.1 c.loop-i.invariant.inside last.2 in
    record {
      from_on = last.0;
      inside = omega (arith, last.1, c.loop-i.invariant.inside);
      noted = c.in_ok-met.ensures.noted;
      filled = subst (Fills c.args.crosses.now c.args.gathering.now c.loop-i.gathering) (sym (same ∙ behind)) c.loop-i.invariant.filled;
    }

pub loop-i-preserved : goal.loop-i-preserved
loop-i-preserved g t c =
    let K : Context = c.args.crosses.now in
    let A : Set = c.args.node.now.intent.now in
    let D : Set = c.in-Some-met.child.intent in
    let i = c.in-Some.i in
    let last = c.in-Some.ensures in
    let splits : branch K A i ≡ branch K A (i + 1) ++ branch K D (i + 1) =
    subst (λ (o : Option (FewConcept g.row.W)). MatchOption o (branch K A i ≡ branch K A (i + 1))
    (λ child. branch K A i ≡ branch K A (i + 1) ++ branch K child.intent (i + 1)))
    c.in-Some-met.is c.in_ok-met.ensures.splits in
    let behind : branch K A (i + 1) ≡ branch K A c.loop-i.end =
    branch-behind K c.rows-rows.result.now A c.attributes_to_try-tries.result i c.loop-i.end c.rows-rows.ensures c.attributes_to_try-tries.ensures.tries
    last.1 c.loop-i.invariant.inside last.2 in
    record {
      from_on = last.0;
      inside = omega (arith, last.1, c.loop-i.invariant.inside);
      noted = c.in_ok-met.ensures.noted;
      filled = subst (Fills c.args.crosses.now c.args.gathering.now c.gather_few.new.gathering)
          (sym (splits ∙ ap (λ (Xs : List Set). Xs ++ branch K D (i + 1)) behind))
          (Fills-append c.args.crosses.now c.args.gathering.now c.loop-i.gathering c.gather_few.new.gathering (branch K A c.loop-i.end)
          (branch K D (i + 1)) c.loop-i.invariant.filled c.in_ok-gather_few.ensures);
    }

pub returns : goal.returns
returns g t c =
    let K : Context = c.args.crosses.now in
    let A : Set = c.args.node.now.intent.now in
    let tries = subst (λ (J : Context). AreAttributesToTry J A c.attributes_to_try-tries.result) c.rows-rows.ensures c.attributes_to_try-tries.ensures.tries in
    subst (Fills c.args.crosses.now c.args.gathering.now c.loop-i.gathering)
    (sym (branch-between K A c.attributes_to_try-tries.result c.args.node.now.from c.loop-i.end tries c.loop-i.invariant.from_on
    c.loop-i.invariant.inside c.in_default.ensures)) c.loop-i.invariant.filled
