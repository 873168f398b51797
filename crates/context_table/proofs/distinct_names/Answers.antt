use Rattle.std.proofs.Common.{◌≡◌, ◌∙◌, ◌+◌, ◌++◌, ◌∷◌, ℕ, [], false, sym, ap, append_assoc}
use Rattle.std.proofs.lemmas.Bool.{not-true}
use Rattle.std.proofs.lemmas.List.{length_push}
use Rattle.std.specs.List.{list_any}
use Rattle.std.specs.Str.{bytes_eq}
use Rattle.std.specs.Vec.Iter.{into_iter_items}
use Rattle.context_table.proofs.distinct_names.Goals as goal

-- the name is new, so it is the next of the keys
pub loop-name-preserved : goal.loop-name-preserved
loop-name-preserved c =
    let loop = c.loop-name in
    let seen = loop.set.keys in
    let name = c.in-Some.name in
    let later = into_iter_items c.next.new.self in
    let step = c.in-Some.ensures.steps.0 in
    let new : list_any (bytes_eq name) seen ≡ false =
    not-true (list_any (bytes_eq name) seen) (sym c.in_ok-added.ensures.added ∙ c.if-not-added.false) in
    let keys : c.insert_name.new.set.keys ≡ seen ++ name ∷ [] = c.in_ok-added.ensures.keys c.if-not-added.false in
    let items = rw step at loop.invariant.1 in
    let repeats = rw (step, new) at loop.invariant.2 in (
      rw keys (ap (λ (n : ℕ). n + 1) loop.invariant.0 ∙ sym (length_push seen name)),
      rw keys (append_assoc seen (name ∷ []) later ∙ items),
      rw keys repeats,
    )
