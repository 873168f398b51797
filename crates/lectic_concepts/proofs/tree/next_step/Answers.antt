use Rattle.std.proofs.Common.{◌≡◌, ◌++◌, List, [], ◌∷◌, refl, sym, ap, ◌∙◌, arith}
use Rattle.fca_model.specs.Sets.{Set}
use Rattle.fca_model.specs.Context.{Context}
use Rattle.lectic_concepts.specs.Branches.{branch}
use Rattle.lectic_concepts.proofs.BranchLemmas.{branch_end}
use Rattle.lectic_concepts.proofs.tree.next_step.Goals as goal

pub returns : goal.returns
returns g c =
    let K : Context = c.args.step.now.rows in
    let A : Set = c.args.step.now.intent in
    let child = c.in-Some.ensures.child in
    let D : Set = c.in-Some.child.intent in
    let below = c.in_ok-below.ensures in
    let alone : branch K D K.width ≡ D ∷ [] = branch_end K D (record { wide = child.wide; closed = child.closed }) in (
      record {
        step = record {
          narrow = refl;
          wide = c.requires.wide;
          closed = c.requires.closed;
          witnesses = c.in-Some.ensures.witnesses;
          order = child.at_least;
          inside = omega (arith, child.in_range, c.requires.inside);
        };
        rows = refl;
        intent = refl;
        from = refl;
        less = child.in_range;
      },
      below.at,
      below.from,
      c.in_ok-push.ensures.items
          ∙ ap (λ (Xs : List Set). c.args.all.now.items ++ Xs)
          (sym (below.same c.in_ok-below.below.end ∙ ap (branch K D) below.end ∙ alone)),
      child.splits
          ∙ ap (λ (Xs : List Set). branch K A c.args.step.now.end ++ Xs)
          (sym (below.same c.in_ok-below.below.from ∙ ap (branch K D) below.from)),
    )
