use Rattle.std.proofs.Common.{◌≡◌, ◌∙◌, ℕ, ◌<◌, ◌+◌, ◌&&◌, Bool, not, true, false, List, [], length, get_or, sym, ap, subst, arith, rules}
use Rattle.std.proofs.lemmas.List.{get_or_default}
use Rattle.fca_model.specs.Sets.{Set, full}
use Rattle.fca_model.specs.Context.{Context}
use Rattle.fca_model.proofs.SetLemmas.{length-full, get_or-full}
use Rattle.attr_bits.proofs.DifferenceLemmas.{length-minus, get_or-minus}
use Rattle.extent_places.proofs.ObjectLemmas.{AreColumnsUpTo, columns_next, columns_long}
use Rattle.extent_places.proofs.objects.fill_columns.Goals as goal
use Rattle.extent_places.proofs.objects.fill_columns.Goals.{then-all, else-all}

pub put_object-requires : goal.put_object-requires
put_object-requires g c =
    let long = columns_long c.args.rows.now c.args.all c.loop-object.columns c.loop-object.object c.loop-object.invariant in (
      search rules,
      (
        c.loop-object.invariant.wide ∙ sym (ap length c.minus.ensures ∙ length-minus c.full-attributes.result c.row-item.result
            ∙ ap length c.full-attributes.ensures ∙ length-full c.width.result ∙ c.width.ensures.width),
        λ k d l. omega (arith, long k d l, ap length c.as_slice-row-items.ensures.rows, c.loop-object-test.true),
      ),
    )

pub put_object-requires-else-all : goal.put_object-requires-else-all
put_object-requires-else-all g c =
    let long = columns_long c.args.rows.now c.args.all c.loop-object.columns c.loop-object.object c.loop-object.invariant in (
      search rules,
      (
        c.loop-object.invariant.wide
            ∙ sym (ap length c.row-item.is ∙ c.as_slice-row-items.ensures.even c.loop-object.object c.row-item.result c.loop-object-test.true),
        λ k d l. omega (arith, long k d l, ap length c.as_slice-row-items.ensures.rows, c.loop-object-test.true),
      ),
    )

pub loop-object-preserved : goal.loop-object-preserved
loop-object-preserved g c =
    let K : Context = c.args.rows.now in
    let m = c.loop-object.object in
    let Cs : List Set = c.loop-object.columns in
    let R : Set = c.row-item.result in
    let U : Set = c.full-attributes.result in
    let rows : c.as_slice-row-items.result.now ≡ K.rows = c.as_slice-row-items.ensures.rows in
    let inside : m < length K.rows = omega (arith, ap length rows, c.loop-object-test.true) in
    let is : R ≡ get_or K.rows m [] = c.row-item.is ∙ ap (λ (Xs : List Set). get_or Xs m R) rows ∙ get_or_default K.rows m R [] inside in
    let wide : length R ≡ K.width = ap length c.row-item.is ∙ c.as_slice-row-items.ensures.even m R c.loop-object-test.true in
    let whole : U ≡ full K.width = c.full-attributes.ensures ∙ ap full c.width.ensures.width in
    elim c.if-all.branch [
      | then-all w ↦
          let all : c.args.all ≡ true = w.if-all.true in
          let D : Set = w.minus.result in
          let long : length D ≡ K.width = ap length w.minus.ensures ∙ length-minus U R ∙ ap length whole ∙ length-full K.width in
          let lacked : (i : ℕ) → i < K.width → get_or D i false ≡ not (get_or R i false) = λ i l. ap (λ (X : Set). get_or X i false) w.minus.ensures ∙ get_or-minus U R i
          ∙ ap (λ u. u && not (get_or R i false)) (ap (λ (X : Set). get_or X i false) whole ∙ get_or-full K.width i l) in
          subst (λ (b : Bool). AreColumnsUpTo K b c.if-all.columns (m + 1)) (sym all)
          (subst (λ (Ds : List Set). AreColumnsUpTo K true Ds (m + 1)) (sym w.columns-is)
          (columns_next K true Cs w.put_object.new.columns m R inside is
          (subst (λ (b : Bool). AreColumnsUpTo K b Cs m) all c.loop-object.invariant) w.put_object.ensures.wide
          (λ i l other. w.put_object.ensures.those i (omega (arith, long, l)) (lacked i l ∙ ap not other))
          (λ i l alike. w.put_object.ensures.others i (omega (arith, long, l)) (lacked i l ∙ ap not alike))))
      | else-all w ↦
          let none : c.args.all ≡ false = w.if-all.false in
          subst (λ (b : Bool). AreColumnsUpTo K b c.if-all.columns (m + 1)) (sym none)
          (subst (λ (Ds : List Set). AreColumnsUpTo K false Ds (m + 1)) (sym w.columns-is)
          (columns_next K false Cs w.put_object-else-all.new.columns m R inside is
          (subst (λ (b : Bool). AreColumnsUpTo K b Cs m) none c.loop-object.invariant) w.put_object-else-all.ensures.wide
          (λ i l other. w.put_object-else-all.ensures.those i (omega (arith, wide, l)) other)
          (λ i l alike. w.put_object-else-all.ensures.others i (omega (arith, wide, l)) alike)))
    ]
