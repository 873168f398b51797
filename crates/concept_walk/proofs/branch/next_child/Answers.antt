use Rattle.std.proofs.Common.{◌≡◌, ◌+◌, ◌∙◌, ◌++◌, Option, List, refl, sym, ap, subst, arith}
use Rattle.std.specs.Prelude.{MatchOption, IfSome}
use Rattle.fca_model.specs.Sets.{Set}
use Rattle.fca_model.specs.Context.{Context}
use Rattle.lectic_concepts.specs.Branches.{branch}
use Rattle.concept_walk.specs.declared.branch.LargerIntent.{LargerIntent}
use Rattle.extent_places.proofs.TryLemmas.{branch-between, branch-behind}
use Rattle.concept_walk.proofs.branch.next_child.Goals as goal

pub loop-i-preserved-then-not-is_to_try : goal.loop-i-preserved-then-not-is_to_try
loop-i-preserved-then-not-is_to_try g c =
    let K : Context = c.args.crosses.now in
    let A : Set = c.args.node.now.intent.now in
    let last = c.in-Some.ensures in
    let same : branch K A c.in-Some.i ≡ branch K A (c.in-Some.i + 1) =
    subst (λ (J : Context). branch J A c.in-Some.i ≡ branch J A (c.in-Some.i + 1)) c.rows-rows.ensures c.if-not-is_to_try.ensures in
    record {
      from_on = last.0;
      inside = omega (arith, last.1, c.loop-i.invariant.inside);
      noted = c.loop-i.invariant.noted;
      none = same ∙ branch-behind K K A c.args.candidates.now.tries c.in-Some.i c.loop-i.place refl c.requires.candidates.tries last.1
          (omega (arith, c.loop-i.invariant.inside, c.requires.candidates.inside)) last.2 ∙ c.loop-i.invariant.none;
    }

pub returns-in-Some-met-clause-splits : goal.returns-in-Some-met-clause-splits
returns-in-Some-met-clause-splits g c =
    let K : Context = c.args.crosses.now in
    let A : Set = c.args.node.now.intent.now in
    let i = c.in-Some.i in
    let D : Set = c.in-Some-met.child.intent in
    let last = c.in-Some.ensures in
    let splits : branch K A i ≡ branch K A (i + 1) ++ branch K D (i + 1) =
    subst (λ (o : Option (LargerIntent g.row.W)). MatchOption o (branch K A i ≡ branch K A (i + 1))
    (λ child. branch K A i ≡ branch K A (i + 1) ++ branch K child.intent (i + 1)))
    c.in-Some-met.is c.in_ok-met.ensures.splits in
    let attribute : c.in-Some-met.child.attribute ≡ i =
    subst (λ (o : Option (LargerIntent g.row.W)). IfSome o (λ child. child.attribute ≡ i)) c.in-Some-met.is c.in_ok-met.ensures.attribute in
    let behind : branch K A (i + 1) ≡ branch K A c.args.candidates.now.end =
    branch-behind K K A c.args.candidates.now.tries i c.loop-i.place refl c.requires.candidates.tries last.1
    (omega (arith, c.loop-i.invariant.inside, c.requires.candidates.inside)) last.2 ∙ c.loop-i.invariant.none in
    subst (λ k. branch K A k ≡ branch K A c.args.candidates.now.end ++ branch K D (k + 1)) (sym attribute)
    (splits ∙ ap (λ (Xs : List Set). Xs ++ branch K D (i + 1)) behind)

pub loop-i-preserved : goal.loop-i-preserved
loop-i-preserved g c =
    let K : Context = c.args.crosses.now in
    let A : Set = c.args.node.now.intent.now in
    let last = c.in-Some.ensures in
    let same : branch K A c.in-Some.i ≡ branch K A (c.in-Some.i + 1) =
    subst (λ (o : Option (LargerIntent g.row.W)). MatchOption o (branch K A c.in-Some.i ≡ branch K A (c.in-Some.i + 1))
    (λ child. branch K A c.in-Some.i ≡ branch K A (c.in-Some.i + 1) ++ branch K child.intent (c.in-Some.i + 1)))
    c.in_default-met.is c.in_ok-met.ensures.splits in
    record {
      from_on = last.0;
      inside = omega (arith, last.1, c.loop-i.invariant.inside);
      noted = c.in_ok-met.ensures.noted;
      none = same ∙ branch-behind K K A c.args.candidates.now.tries c.in-Some.i c.loop-i.place refl c.requires.candidates.tries last.1
          (omega (arith, c.loop-i.invariant.inside, c.requires.candidates.inside)) last.2 ∙ c.loop-i.invariant.none;
    }

pub returns-clause-splits : goal.returns-clause-splits
returns-clause-splits g c =
    let K : Context = c.args.crosses.now in
    let A : Set = c.args.node.now.intent.now in
    branch-between K A c.args.candidates.now.tries c.args.node.now.from c.loop-i.place c.requires.candidates.tries
    c.loop-i.invariant.from_on (omega (arith, c.loop-i.invariant.inside, c.requires.candidates.inside)) c.in_default.ensures
    ∙ c.loop-i.invariant.none
