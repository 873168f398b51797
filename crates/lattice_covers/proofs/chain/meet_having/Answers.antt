use Rattle.std.proofs.Common.{◌≡◌, ◌<◌, ◌+◌, ◌∙◌, Bool, true, false, cond, [], filter, take, length, get_or, sym, ap, subst}
use Rattle.std.proofs.lemmas.List.{get_or_default}
use Rattle.std.specs.List.{fold}
use Rattle.fca_model.specs.Sets.{Set, full, meet, within}
use Rattle.fca_model.specs.Context.{Context}
use Rattle.extent_places.proofs.ObjectLemmas.{met_next}
use Rattle.lattice_covers.proofs.chain.meet_having.Goals as goal
use Rattle.lattice_covers.proofs.chain.meet_having.Goals.{then-has, else-has}

pub loop-row-preserved : goal.loop-row-preserved
loop-row-preserved g c =
    let K : Context = c.args.rows.now in
    let A : Set = c.args.a.now in
    let k = c.loop-row.row-index in
    let R : Set = c.row-item.result in
    let rows = c.as_slice-row-items.ensures.rows in
    let inside : k < length K.rows = subst (λ Rs. k < length Rs) rows c.loop-row-test.true in
    let there : R ≡ get_or K.rows k R = c.row-item.is ∙ ap (λ Rs. get_or Rs k R) rows in
    let first : R ≡ get_or K.rows k [] = there ∙ get_or_default K.rows k R [] inside in
    let having : within A R ≡ get_or R c.args.i false =
    subst (λ (X : Set). within A X ≡ get_or X c.args.i false) (sym first) (c.requires.having k inside) in
    let next : (b : Bool) → c.has.result ≡ b → fold meet (full K.width) (filter (within A) (take (k + 1) K.rows)) ≡ cond b
    (meet c.loop-row.met R) c.loop-row.met =
    λ b t. met_next K A k R b inside there (having ∙ sym c.has.ensures ∙ t)
    ∙ ap (λ M. cond b (meet M R) M) (sym c.loop-row.invariant.met) in
    record {
      met = elim c.if-has.branch [
        | then-has w ↦ w.met-is ∙ w.meet-met.ensures ∙ sym (next true w.if-has.true)
        | else-has w ↦ w.met-is ∙ sym (next false w.if-has.false)
      ];
    }
