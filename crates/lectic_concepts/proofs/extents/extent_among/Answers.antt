use Rattle.std.proofs.Common.{◌≤◌, ◌++◌, ◌∙◌, ℕ, Bool, List, length, filter, slice_get, sym, ap, subst}
use Rattle.std.proofs.lemmas.List.{at_drop_all, append-nil}
use Rattle.fca_model.specs.Sets.{Set}
use Rattle.fca_model.specs.Context.{Context}
use Rattle.lectic_concepts.specs.Concepts.{is_above}
use Rattle.lectic_concepts.proofs.ExtentLemmas.{filter-extent}
use Rattle.lectic_concepts.proofs.extents.extent_among.Goals as goal

pub returns : goal.returns
returns g c =
    let K : Context = c.args.rows.now in
    let A : Set = c.args.a.now in
    let test : ℕ → Bool = λ p. is_above A (slice_get K.rows p) in
    let Xs : List ℕ = c.args.concept.now.extent.items in
    let at_end : length Xs ≤ c.loop-place.place-index =
    subst (λ (Ys : List ℕ). length Ys ≤ c.loop-place.place-index) c.deref-place-items.ensures.value c.loop-place-test.false in
    sym (append-nil c.loop-place.found.items) ∙ ap (λ q. c.loop-place.found.items ++ q)
    (sym (at_drop_all (filter test) Xs c.loop-place.place-index at_end))
    ∙ c.loop-place.invariant ∙ ap (filter test) c.requires.concept ∙ filter-extent K c.args.concept.now.intent A c.requires.larger
