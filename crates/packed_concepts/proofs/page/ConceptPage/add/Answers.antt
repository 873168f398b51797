use Rattle.std.proofs.Common.{◌≡◌, ◌∙◌, ◌+◌, ◌++◌, ◌∷◌, ◌≤◌, [], List, ℕ, All, length, take, sym, ap, ap₂, subst, arith}
use Rattle.std.proofs.lemmas.List.{length-append, length-take-le, take_all}
use Rattle.fca_model.specs.Sets.{Set}
use Rattle.packed_concepts.specs.Packing.{total, unpacked}
use Rattle.packed_concepts.specs.declared.page.IntentAndCount.{IntentAndCount}
use Rattle.packed_concepts.proofs.PackingLemmas.{total-append, unpacked-more, most-more}
use Rattle.packed_concepts.proofs.page.ConceptPage.add.Goals as goal

pub invariant_of-self-2 : goal.invariant_of-self-2
invariant_of-self-2 g c =
    let old = c.self.inside in
    let one : IntentAndCount g.row.W = record { intent = c.args.intent.now; count = c.in-Ok.count } in
    let T : List ℕ = take old.end old.places.items in
    let long : length T ≡ old.end = length-take-le old.end old.places.items c.self.invariant.ends in
    let all : c.extend_from_slice.new.self.items ≡ T ++ c.args.places.now = c.in_ok-extend_from_slice.ensures.items
    ∙ ap (λ (U : List ℕ). U ++ c.args.places.now) c.truncate.ensures.items in
    let both : length c.extend_from_slice.new.self.items ≡ old.end + length c.args.places.now = ap length all
    ∙ length-append T c.args.places.now ∙ ap (λ n. n + length c.args.places.now) long in
    let sum = total-append old.packed.items (one ∷ []) in
    record {
      words = c.self.invariant.words;
      fits = ap total c.in_ok-push.ensures.items ∙ omega
          (arith, sum, both, c.self.invariant.fits, c.in-Ok.ensures, c.len-self-inside.ensures);
      ends = omega (arith, c.len-self-inside.ensures, c.extend_from_slice.new.self.ok.0);
      most = subst (λ (ps : List (IntentAndCount g.row.W)). All (λ q. q.count ≤ c.max-self-inside.result) ps) (sym c.in_ok-push.ensures.items)
          (most-more old.packed.items one old.most c.max-self-inside.result c.self.invariant.most (omega (arith, c.max-self-inside.ensures))
          (omega (arith, c.max-self-inside.ensures, c.in-Ok.ensures)));
    }

pub returns-clause-added : goal.returns-clause-added
returns-clause-added g c =
    let old = c.self.inside in
    let one : IntentAndCount g.row.W = record { intent = c.args.intent.now; count = c.in-Ok.count } in
    let T : List ℕ = take old.end old.places.items in
    let U : List ℕ = c.extend_from_slice.new.self.items in
    let long : length T ≡ old.end = length-take-le old.end old.places.items c.self.invariant.ends in
    let all : U ≡ T ++ c.args.places.now = c.in_ok-extend_from_slice.ensures.items
    ∙ ap (λ (V : List ℕ). V ++ c.args.places.now) c.truncate.ensures.items in
    ap₂ unpacked c.in_ok-push.ensures.items (take_all c.len-self-inside.result U
    (omega (arith, c.len-self-inside.ensures, c.extend_from_slice.new.self.ok.0)) ∙ all)
    ∙ unpacked-more old.packed.items T c.args.places.now one (c.self.invariant.fits ∙ sym long) (omega (arith, c.in-Ok.ensures))
    ∙ ap (λ (cs : List (Set × List ℕ)). cs ++ (c.args.intent.now, c.args.places.now) ∷ []) c.self.view_is
