use Rattle.std.proofs.Common.{◌++◌, ◌∷◌, [], List, map, ◌∙◌, ap, sym}
use Rattle.std.specs.BTreeSet.{insert_key}
use Rattle.fca_model.specs.Sets.{Set, size, lectic_cmp}
use Rattle.pseudo_levels.proofs.BySizeLemmas.{first_by_size, size_none}
use Rattle.pseudo_levels.proofs.candidates.CandidateSets.new.Goals as goal

pub invariant_of-result : goal.invariant_of-result
invariant_of-result c =
    let none : Set = c.empty.result in
    first_by_size (map (λ sets. sets.keys) c.push.new.self.items) none
    (ap (map (λ sets. sets.keys)) (c.in_ok-push.ensures.items ∙ ap (λ ts. ts ++ c.insert.new.self ∷ []) c.new-by_size.ensures.items)
    ∙ ap (λ (Xs : List Set). Xs ∷ []) (c.in_ok-insert.ensures.keys ∙ ap (λ Xs. insert_key lectic_cmp Xs none) c.new-none.ensures.empty))
    (ap size c.empty.ensures ∙ sym (size_none c.args.n))
