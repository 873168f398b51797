use Rattle.std.proofs.Common.{rules, ◌≡◌, ◌∙◌, ◌<◌, ◌/◌, ◌%◌, All, List, [], true, false, length, length-set, get_or, set, sym, ap, subst}
use Rattle.std.proofs.Common.{arith}
use Rattle.std.proofs.lemmas.List.{get_or_read}
use Rattle.std.proofs.lemmas.Grind.{div_ceil_times}
use Rattle.fca_model.specs.Sets.{Set}
use Rattle.fca_model.specs.Context.{Context}
use Rattle.extent_blocks.specs.Blocks.{in_column, row_at, has_at}
use Rattle.extent_blocks.proofs.ColumnLemmas.{placed, left_out, all_wide, all_places}
use Rattle.extent_blocks.proofs.rows.column_of.Goals as goal
use Rattle.extent_blocks.proofs.rows.column_of.Goals.{then-has, else-has}

pub loop-place-preserved : goal.loop-place-preserved
loop-place-preserved g c =
    let K : Context = c.args.rows.now in
    let i = c.args.i in
    let R : Set = c.row-item.result in
    let v = c.loop-place.invariant in
    let p = c.loop-place.place in
    let Cs : List Set = c.loop-place.column.items in
    let lt : p < length K.rows = omega (arith, c.loop-place-test.true, ap length c.as_slice-row-items.ensures.rows) in
    let row : R ≡ row_at K p = get_or_read K.rows p R lt
    (c.row-item.is ∙ ap (λ (Rs : List Set). get_or Rs p R) c.as_slice-row-items.ensures.rows) [] in
    let answer : has_at K i p ≡ c.has.result = ap (λ X. get_or X i false) (sym row) ∙ sym c.has.ensures in
    let blocks = div_ceil_times (length K.rows) 256 (omega arith) in
    elim c.if-has.branch [
      | then-has w ↦
          let C : Set = w.index_mut.result.now in
          let N : Set = w.insert.new.self in
          let items : c.if-has.column.items ≡ set Cs (p / 256) N = ap (λ xs. xs.items) w.column-is in
          let inside : p / 256 < length Cs = omega (arith, v.count, blocks.0, lt) in
          let is : C ≡ get_or Cs (p / 256) [] = get_or_read Cs (p / 256) C inside w.index_mut.ensures.value [] in
          let wide : length C ≡ 256 = ap length is ∙ v.wide (p / 256) [] inside in
          record {
            count = ap length items ∙ length-set Cs (p / 256) N ∙ v.count;
            wide = subst (λ (Xs : List Set). All (λ B. length B ≡ 256) Xs) (sym items)
                (all_wide Cs (p / 256) N (ap length w.insert.ensures ∙ length-set C (p % 256) true ∙ wide) v.wide);
            places = λ q. ap (λ (Xs : List Set). in_column Xs q) items
                ∙ placed Cs p C N inside is wide w.insert.ensures (has_at K i) (answer ∙ w.if-has.true) v.places q;
          }
      | else-has w ↦
          let items : c.if-has.column.items ≡ Cs = ap (λ xs. xs.items) w.column-is in
          record {
            count = ap length items ∙ v.count;
            wide = subst (λ (Xs : List Set). All (λ B. length B ≡ 256) Xs) (sym items) v.wide;
            places = λ q. ap (λ (Xs : List Set). in_column Xs q) items
                ∙ left_out Cs p (has_at K i) (answer ∙ w.if-has.false) v.places q;
          }
    ]

pub has-requires : goal.has-requires
has-requires g c =
    let lt : c.loop-place.place < length c.as_slice-row-items.result.now = c.loop-place-test.true in
    let wide : length c.row-item.result ≡ c.args.rows.now.width =
    ap length c.row-item.is ∙ c.as_slice-row-items.ensures.even c.loop-place.place c.row-item.result lt in
    (search rules, omega (arith, wide, c.requires))

pub returns : goal.returns
returns g c = record {
  count = c.loop-place.invariant.count;
  places = λ p. c.loop-place.invariant.places p
      ∙ all_places c.args.rows.now c.args.i c.loop-place.place p
      (omega (arith, c.loop-place-test.false, ap length c.as_slice-row-items.ensures.rows));
}
