use Rattle.std.proofs.Common.{◌≡◌, ◌++◌, ◌∙◌, ℕ, List, refl, sym, ap, subst, arith}
use Rattle.fca_model.specs.Sets.{Set}
use Rattle.fca_model.specs.Context.{Context}
use Rattle.lectic_concepts.specs.Branches.{AreWitnesses}
use Rattle.lectic_concepts.proofs.WitnessLemmas.{seen_none}
use Rattle.concept_walk.proofs.steps.next_step.Goals as goal

pub returns : goal.returns
returns g c =
    let K : Context = c.args.crosses.now in
    let B : Set = c.in-Some.child.intent in
    let between = rw c.in-Some.is at c.in_ok-met.ensures.between in
    let entered = rw c.in-Some-2.is at c.in_ok-candidates.ensures in
    let passed : List ℕ = c.pass_witnesses-passed.result.now in
    let copied : c.extend_from_slice.new.self.items ≡ passed =
    c.in_ok-extend_from_slice.ensures.items ∙ ap (λ (xs : List ℕ). xs ++ passed) c.take_lists-lists.ensures in (
      record {
        step = record {
          wide = c.requires.wide;
          closed = c.requires.closed;
          places = c.requires.places;
          few = c.requires.few;
          witnesses = c.requires.witnesses;
          noted = c.in_ok-met.ensures.noted;
          candidates = record {
            wide = c.requires.candidates.wide;
            tries = c.requires.candidates.tries;
            inside = omega (arith, between.1, c.requires.candidates.inside);
          };
          order = between.0;
        };
        intent = refl;
        from = refl;
        less = between.1;
      },
      record {
        wide = rw c.in-Some.is at c.in_ok-met.ensures.wide;
        closed = rw c.in-Some.is at c.in_ok-met.ensures.closed;
        places = rw c.replace.ensures.value (rw c.in-Some.is at c.in_ok-met.ensures.places);
        few = rw c.replace.ensures.value (rw c.in-Some.is at c.in_ok-met.ensures.few);
        witnesses = subst (AreWitnesses K B) (sym copied)
            (subst (λ (J : Context). AreWitnesses J B passed) c.rows-2.ensures c.pass_witnesses-passed.ensures);
        noted = seen_none K B c.take_lists.result.noted.items c.take_lists.ensures;
        candidates = entered.0;
        order = entered.1;
      },
      refl,
      entered.2,
      rw c.in-Some.is at c.in_ok-met.ensures.splits,
    )
