use Rattle.std.proofs.Common.{◌≡◌, ℕ, suc, ◌-◌, List, get_or, set, true, false, refl, sym, ap, ◌∙◌, subst, arith}
use Rattle.fca_model.specs.Sets.{Set, within}
use Rattle.fca_model.specs.Context.{Context, closure}
use Rattle.lattice_covers.proofs.CandidateLemmas.{IsReached, reached_at_member, reached_with, reached_without, lead_up}
use Rattle.lattice_covers.proofs.CoverLemmas.{they_are_covers}
use Rattle.lattice_covers.proofs.find_neighbours.Goals as goal

pub loop-i-preserved-in-Some : goal.loop-i-preserved-in-Some
loop-i-preserved-in-Some g c =
    let K : Context = c.args.rows.now in
    let A : Set = c.args.link.now.intent in
    let L : Set = c.loop-i.settled in
    let i : ℕ = c.loop-i.i - 1 in
    let e : c.loop-i.i ≡ suc i = omega arith in
    let same_intent : c.loop-i.link.intent ≡ A = c.loop-i.invariant.intent in
    let lacks : get_or A i false ≡ false = ap (λ (B : Set). get_or B i false) (sym same_intent) ∙ sym c.has.ensures ∙ c.if-not-has.true in
    let closed : c.in-Some.closed ≡ closure K (set A i true) = c.in-Some.ensures.closed.0
    ∙ ap (λ (B : Set). closure K (set B i true)) same_intent in
    let allowed : c.insert.new.set ≡ set L i true = c.insert.ensures ∙ ap (λ (B : Set). set B i true) c.loop-i.invariant.allowed in
    let settled : within c.in-Some.closed (set L i true) ≡ true = ap (within c.in-Some.closed) (sym allowed) ∙ c.in-Some.ensures.closed.1 in
    record {
      inside = omega (arith, c.loop-i.invariant.inside);
      link = c.allowed_closure.ensures.link;
      intent = c.allowed_closure.ensures.intent ∙ same_intent;
      allowed = refl;
      reached = subst (λ (Cs : List Set). IsReached K A i L Cs) (sym c.in_ok-push.ensures.items)
          (reached_with K A i c.loop-i.i e c.requires.wide c.loop-i.invariant.inside L c.loop-i.neighbours.items c.loop-i.invariant.reached
          lacks c.in-Some.closed closed settled);
    }

pub loop-i-preserved-in_default : goal.loop-i-preserved-in_default
loop-i-preserved-in_default g c =
    let K : Context = c.args.rows.now in
    let A : Set = c.args.link.now.intent in
    let L : Set = c.loop-i.settled in
    let i : ℕ = c.loop-i.i - 1 in
    let e : c.loop-i.i ≡ suc i = omega arith in
    let same_intent : c.loop-i.link.intent ≡ A = c.loop-i.invariant.intent in
    let lacks : get_or A i false ≡ false = ap (λ (B : Set). get_or B i false) (sym same_intent) ∙ sym c.has.ensures ∙ c.if-not-has.true in
    let allowed : c.insert.new.set ≡ set L i true = c.insert.ensures ∙ ap (λ (B : Set). set B i true) c.loop-i.invariant.allowed in
    let other : within (closure K (set A i true)) (set L i true) ≡ false =
    ap (λ (B : Set). within (closure K (set B i true)) (set L i true)) (sym same_intent)
    ∙ ap (within (closure K (set c.loop-i.link.intent i true))) (sym allowed) ∙ c.in_default.ensures.closed in
    record {
      inside = omega (arith, c.loop-i.invariant.inside);
      link = c.allowed_closure.ensures.link;
      intent = c.allowed_closure.ensures.intent ∙ same_intent;
      allowed = allowed ∙ sym c.insert-in_default.ensures;
      reached = subst (λ (M : Set). IsReached K A i M c.loop-i.neighbours.items) (sym c.insert-in_default.ensures)
          (reached_without K A i c.loop-i.i e c.requires.wide c.loop-i.invariant.inside L c.loop-i.neighbours.items
          c.loop-i.invariant.reached lacks (closure K (set A i true)) refl other);
    }

pub loop-i-preserved : goal.loop-i-preserved
loop-i-preserved g c =
    let K : Context = c.args.rows.now in
    let A : Set = c.args.link.now.intent in
    let i : ℕ = c.loop-i.i - 1 in
    let e : c.loop-i.i ≡ suc i = omega arith in
    record {
      inside = omega (arith, c.loop-i.invariant.inside);
      link = c.loop-i.invariant.link;
      intent = c.loop-i.invariant.intent;
      allowed = c.loop-i.invariant.allowed;
      reached = reached_at_member K A i c.loop-i.i e c.requires.wide c.loop-i.invariant.inside c.loop-i.settled c.loop-i.neighbours.items
          c.loop-i.invariant.reached
          (ap (λ (B : Set). get_or B i false) (sym c.loop-i.invariant.intent) ∙ sym c.has.ensures ∙ c.if-not-has.false);
    }

pub returns-clause-found : goal.returns-clause-found
returns-clause-found g c =
    let K : Context = c.args.rows.now in
    let A : Set = c.args.link.now.intent in
    let Cs : List Set = c.loop-i.neighbours.items in
    let end : c.loop-i.i ≡ 0 = omega arith in
    they_are_covers K A Cs (lead_up K A c.loop-i.settled Cs c.requires.wide
    (subst (λ k. IsReached K A k c.loop-i.settled Cs) end c.loop-i.invariant.reached))
