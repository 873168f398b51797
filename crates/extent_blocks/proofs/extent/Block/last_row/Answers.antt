use Rattle.std.proofs.Common.{◌≡◌, ◌+◌, ◌*◌, ◌∙◌, List, [], length, get_or, ap, arith}
use Rattle.std.proofs.lemmas.List.{get_or_default}
use Rattle.fca_model.specs.Sets.{Set}
use Rattle.extent_blocks.specs.Blocks.{row_at}
use Rattle.extent_blocks.proofs.BlockLemmas.{lent}
use Rattle.extent_blocks.proofs.RowLemmas.{meeting_full, meeting_one, member_next, next_inside, next_passes}
use Rattle.extent_blocks.proofs.extent.Block.last_row.Goals as goal

pub returns-in_default : goal.returns-in_default
returns-in_default g c = meeting_full c.args.rows.now c.args.a.now c.full.result c.width-in_default.result c.full.ensures
    c.width-in_default.ensures.width

pub overflow_mul-result : goal.overflow_mul-result
overflow_mul-result g c =
    let n = c.args.self.now.number in
    let C : Set = c.in-Some.having.now in
    let column = lent c.args.column.now n C c.in-Some.ensures.lookup.3.0 c.in-Some.ensures.lookup.1 in
    let j = c.in-Some-last_missing.j in
    let inside = next_inside c.args.rows.now c.args.a.now c.args.a.now n c.args.self.now.objects C c.meet-left.result c.args.column.now
    column c.meet-left.ensures c.requires.containing
    j j (omega (arith, c.width.ensures.width, c.width.ensures.narrow)) (member_next c.meet-left.result j c.in-Some-last_missing.ensures.member) in
    omega (arith, inside, c.len.ensures, c.len.type_inv)

pub overflow_add-result : goal.overflow_add-result
overflow_add-result g c =
    let n = c.args.self.now.number in
    let C : Set = c.in-Some.having.now in
    let column = lent c.args.column.now n C c.in-Some.ensures.lookup.3.0 c.in-Some.ensures.lookup.1 in
    let j = c.in-Some-last_missing.j in
    let inside = next_inside c.args.rows.now c.args.a.now c.args.a.now n c.args.self.now.objects C c.meet-left.result c.args.column.now
    column c.meet-left.ensures c.requires.containing
    j j (omega (arith, c.width.ensures.width, c.width.ensures.narrow)) (member_next c.meet-left.result j c.in-Some-last_missing.ensures.member) in
    omega (arith, inside, c.len.ensures, c.len.type_inv)

pub offset_bounds-as_slice-self : goal.offset_bounds-as_slice-self
offset_bounds-as_slice-self g c =
    let n = c.args.self.now.number in
    let C : Set = c.in-Some.having.now in
    let column = lent c.args.column.now n C c.in-Some.ensures.lookup.3.0 c.in-Some.ensures.lookup.1 in
    let j = c.in-Some-last_missing.j in
    let inside = next_inside c.args.rows.now c.args.a.now c.args.a.now n c.args.self.now.objects C c.meet-left.result c.args.column.now
    column c.meet-left.ensures c.requires.containing
    j j (omega (arith, c.width.ensures.width, c.width.ensures.narrow)) (member_next c.meet-left.result j c.in-Some-last_missing.ensures.member) in
    omega (arith, inside, ap length c.as_slice.ensures.rows)

pub bounds-as_slice-self : goal.bounds-as_slice-self
bounds-as_slice-self g c =
    let n = c.args.self.now.number in
    let C : Set = c.in-Some.having.now in
    let column = lent c.args.column.now n C c.in-Some.ensures.lookup.3.0 c.in-Some.ensures.lookup.1 in
    let j = c.in-Some-last_missing.j in
    let inside = next_inside c.args.rows.now c.args.a.now c.args.a.now n c.args.self.now.objects C c.meet-left.result c.args.column.now
    column c.meet-left.ensures c.requires.containing
    j j (omega (arith, c.width.ensures.width, c.width.ensures.narrow)) (member_next c.meet-left.result j c.in-Some-last_missing.ensures.member) in
    omega (arith, inside, ap length c.as_slice.ensures.rows)

pub returns-in-None : goal.returns-in-None
returns-in-None g c = meeting_full c.args.rows.now c.args.a.now c.full-in-None.result c.width-in-None.result c.full-in-None.ensures
    c.width-in-None.ensures.width

pub returns-in-Some-last_missing : goal.returns-in-Some-last_missing
returns-in-Some-last_missing g c =
    let n = c.args.self.now.number in
    let C : Set = c.in-Some.having.now in
    let column = lent c.args.column.now n C c.in-Some.ensures.lookup.3.0 c.in-Some.ensures.lookup.1 in
    let j = c.in-Some-last_missing.j in
    let inside = next_inside c.args.rows.now c.args.a.now c.args.a.now n c.args.self.now.objects C c.meet-left.result c.args.column.now
    column c.meet-left.ensures c.requires.containing
    j j (omega (arith, c.width.ensures.width, c.width.ensures.narrow)) (member_next c.meet-left.result j c.in-Some-last_missing.ensures.member) in
    let p = n * 256 + j in
    let R : Set = c.index-as_slice-self.result in
    let row : R ≡ row_at c.args.rows.now p =
    c.index-as_slice-self.is ∙ ap (λ (Rs : List Set). get_or Rs p R) c.as_slice.ensures.rows
    ∙ get_or_default c.args.rows.now.rows p R [] inside in
    meeting_one c.args.rows.now c.args.a.now R p
    (c.requires.containing p (next_passes c.args.rows.now c.args.a.now c.args.a.now n c.args.self.now.objects C c.meet-left.result
    c.args.column.now column c.meet-left.ensures c.requires.containing
    j j (omega (arith, c.width.ensures.width, c.width.ensures.narrow)) (member_next c.meet-left.result j c.in-Some-last_missing.ensures.member)))
    row (ap length c.index-as_slice-self.is ∙ c.as_slice.ensures.even p R (omega (arith, inside, ap length c.as_slice.ensures.rows)))
