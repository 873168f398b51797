use Rattle.std.proofs.Common.{◌≡◌, ◌<◌, ◌≤◌, ◌++◌, true, false, length, get_or, codes, sym, ap, ◌∙◌, arith, min, add-one}
use Rattle.std.proofs.Math.Nat.{min-le_left, min-le_right}
use Rattle.std.proofs.lemmas.Result.{err_from_is_err_and}
use Rattle.expert_wire.proofs.WriteLemmas.{Underway-equal, Underway-more, Underway-fault, Underway-last}
use Rattle.expert_wire.proofs.ListedLemmas.{bridged, bridged-member, names_from, names_from-none, names_from-end}
use Rattle.expert_wire.proofs.parts.write_braces.Goals as goal

pub loop-attribute-preserved-then-not-has : goal.loop-attribute-preserved-then-not-has
loop-attribute-preserved-then-not-has g c =
    let wide : c.width-2.result ≡ length c.args.table.now.attributes = c.width-2.ensures.width ∙ ap (λ K. K.width) c.rows.ensures.rows
    ∙ sym c.rows.ensures.table.each_attribute in
    let end : c.min-attribute-end.result ≡ min (length c.args.set.now) (length c.args.table.now.attributes) =
    cc (c.min-attribute-end.ensures, c.width.ensures.width, wide) in
    let low = min-le_left (length c.args.set.now) (length c.args.table.now.attributes) in
    let high = min-le_right (length c.args.set.now) (length c.args.table.now.attributes) in
    let placed : c.loop-attribute.attribute < length c.args.set.now = omega arith in
    let named : c.loop-attribute.attribute < length c.args.table.now.attributes = omega arith in
    let none : get_or c.args.set.now c.loop-attribute.attribute false ≡ false = sym c.has.ensures ∙ c.if-not-has.true in
    rw add-one (Underway-equal (ap (λ xs. bridged c.loop-attribute.between.now xs ++ codes "}")
    (names_from-none c.loop-attribute.attribute c.args.table.now.attributes c.args.set.now named placed none))
    c.loop-attribute.invariant)

pub returns-in_err-write_both : goal.returns-in_err-write_both
returns-in_err-write_both g c =
    let wide : c.width-2.result ≡ length c.args.table.now.attributes = c.width-2.ensures.width ∙ ap (λ K. K.width) c.rows.ensures.rows
    ∙ sym c.rows.ensures.table.each_attribute in
    let end : c.min-attribute-end.result ≡ min (length c.args.set.now) (length c.args.table.now.attributes) =
    cc (c.min-attribute-end.ensures, c.width.ensures.width, wide) in
    let low = min-le_left (length c.args.set.now) (length c.args.table.now.attributes) in
    let high = min-le_right (length c.args.set.now) (length c.args.table.now.attributes) in
    let placed : c.loop-attribute.attribute < length c.args.set.now = omega arith in
    let named : c.loop-attribute.attribute < length c.args.table.now.attributes = omega arith in
    let member : get_or c.args.set.now c.loop-attribute.attribute false ≡ true = sym c.has.ensures ∙ c.if-not-has.false in
    let here = Underway-equal (bridged-member c.loop-attribute.between.now c.loop-attribute.attribute c.args.table.now.attributes
    c.args.set.now c.attribute_name.result.now (codes "}") named placed member c.attribute_name.ensures) c.loop-attribute.invariant in
    let p = err_from_is_err_and c.from_residual-in_err-write_both.result c.from_residual-in_err-write_both.ensures.1 in
    rw (p.1, p.2) (Underway-fault _ _ _ here (rw c.bytes.ensures.value at c.in_err-write_both.ensures))

pub loop-attribute-preserved : goal.loop-attribute-preserved
loop-attribute-preserved g c =
    let wide : c.width-2.result ≡ length c.args.table.now.attributes = c.width-2.ensures.width ∙ ap (λ K. K.width) c.rows.ensures.rows
    ∙ sym c.rows.ensures.table.each_attribute in
    let end : c.min-attribute-end.result ≡ min (length c.args.set.now) (length c.args.table.now.attributes) =
    cc (c.min-attribute-end.ensures, c.width.ensures.width, wide) in
    let low = min-le_left (length c.args.set.now) (length c.args.table.now.attributes) in
    let high = min-le_right (length c.args.set.now) (length c.args.table.now.attributes) in
    let placed : c.loop-attribute.attribute < length c.args.set.now = omega arith in
    let named : c.loop-attribute.attribute < length c.args.table.now.attributes = omega arith in
    let member : get_or c.args.set.now c.loop-attribute.attribute false ≡ true = sym c.has.ensures ∙ c.if-not-has.false in
    let here = Underway-equal (bridged-member c.loop-attribute.between.now c.loop-attribute.attribute c.args.table.now.attributes
    c.args.set.now c.attribute_name.result.now (codes "}") named placed member c.attribute_name.ensures) c.loop-attribute.invariant in
    rw add-one (rw c.as_slice-between-in-loop-attribute.ensures
    (Underway-more _ _ here (rw c.bytes.ensures.value at c.in_ok-write_both.ensures)))

pub returns : goal.returns
returns g c =
    let wide : c.width-2.result ≡ length c.args.table.now.attributes = c.width-2.ensures.width ∙ ap (λ K. K.width) c.rows.ensures.rows
    ∙ sym c.rows.ensures.table.each_attribute in
    let end : c.min-attribute-end.result ≡ min (length c.args.set.now) (length c.args.table.now.attributes) =
    cc (c.min-attribute-end.ensures, c.width.ensures.width, wide) in
    let low = min-le_left (length c.args.set.now) (length c.args.table.now.attributes) in
    let high = min-le_right (length c.args.set.now) (length c.args.table.now.attributes) in
    let over : min (length c.args.set.now) (length c.args.table.now.attributes) ≤ c.loop-attribute.attribute = omega arith in
    let none : bridged c.loop-attribute.between.now (names_from c.loop-attribute.attribute c.args.table.now.attributes c.args.set.now)
    ++ codes "}" ≡ codes "}" = ap (λ xs. bridged c.loop-attribute.between.now xs ++ codes "}")
    (names_from-end c.loop-attribute.attribute c.args.table.now.attributes c.args.set.now over) in
    Underway-last c.write_bytes-2.result (Underway-equal none c.loop-attribute.invariant) c.write_bytes-2.ensures
