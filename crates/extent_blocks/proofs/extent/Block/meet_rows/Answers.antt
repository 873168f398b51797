use Rattle.std.proofs.Common.{◌≡◌, ◌+◌, ◌*◌, ◌∙◌, List, [], length, get_or, sym, ap, arith}
use Rattle.std.proofs.lemmas.List.{get_or_default}
use Rattle.fca_model.specs.Sets.{Set}
use Rattle.fca_model.proofs.SetLemmas.{within_refl}
use Rattle.extent_blocks.specs.Blocks.{row_at}
use Rattle.extent_blocks.proofs.BlockLemmas.{lent}
use Rattle.extent_blocks.proofs.RowLemmas.{met_start, met_more, met_enough, met_all, next_inside}
use Rattle.extent_blocks.proofs.extent.Block.meet_rows.Goals as goal

pub returns-in_default-clause-less : goal.returns-in_default-clause-less
returns-in_default-clause-less g c = within_refl c.args.start.now

pub loop-j-init : goal.loop-j-init
loop-j-init g c =
    let n = c.args.self.now.number in
    let C : Set = c.in-Some.having.now in
    let column = lent c.args.column.now n C c.in-Some.ensures.lookup.3.0 c.in-Some.ensures.lookup.1 in
    record {
      inside = omega arith;
      met = met_start c.args.rows.now c.args.a.now c.args.start.now n c.args.self.now.objects C
          c.meet-left.result c.args.column.now column c.meet-left.ensures c.requires.containing c.requires.start;
    }

pub bounds-as_slice-self : goal.bounds-as_slice-self
bounds-as_slice-self g c =
    let n = c.args.self.now.number in
    let C : Set = c.in-Some.having.now in
    let column = lent c.args.column.now n C c.in-Some.ensures.lookup.3.0 c.in-Some.ensures.lookup.1 in
    let inside = next_inside c.args.rows.now c.args.a.now c.args.start.now n c.args.self.now.objects C c.meet-left.result c.args.column.now
    column c.meet-left.ensures c.requires.containing
    c.loop-j.from c.in-Some-next_member.j (omega (arith, c.width.ensures.width, c.width.ensures.narrow)) c.in-Some-next_member.ensures in
    omega (arith, inside, ap length c.as_slice.ensures.rows)

pub offset_bounds-as_slice-self : goal.offset_bounds-as_slice-self
offset_bounds-as_slice-self g c =
    let n = c.args.self.now.number in
    let C : Set = c.in-Some.having.now in
    let column = lent c.args.column.now n C c.in-Some.ensures.lookup.3.0 c.in-Some.ensures.lookup.1 in
    let inside = next_inside c.args.rows.now c.args.a.now c.args.start.now n c.args.self.now.objects C c.meet-left.result c.args.column.now
    column c.meet-left.ensures c.requires.containing
    c.loop-j.from c.in-Some-next_member.j (omega (arith, c.width.ensures.width, c.width.ensures.narrow)) c.in-Some-next_member.ensures in
    omega (arith, inside, ap length c.as_slice.ensures.rows)

pub overflow_mul-self : goal.overflow_mul-self
overflow_mul-self g c =
    let n = c.args.self.now.number in
    let C : Set = c.in-Some.having.now in
    let column = lent c.args.column.now n C c.in-Some.ensures.lookup.3.0 c.in-Some.ensures.lookup.1 in
    let inside = next_inside c.args.rows.now c.args.a.now c.args.start.now n c.args.self.now.objects C c.meet-left.result c.args.column.now
    column c.meet-left.ensures c.requires.containing
    c.loop-j.from c.in-Some-next_member.j (omega (arith, c.width.ensures.width, c.width.ensures.narrow)) c.in-Some-next_member.ensures in
    omega (arith, inside, c.len.ensures, c.len.type_inv)

pub overflow_add-self : goal.overflow_add-self
overflow_add-self g c =
    let n = c.args.self.now.number in
    let C : Set = c.in-Some.having.now in
    let column = lent c.args.column.now n C c.in-Some.ensures.lookup.3.0 c.in-Some.ensures.lookup.1 in
    let inside = next_inside c.args.rows.now c.args.a.now c.args.start.now n c.args.self.now.objects C c.meet-left.result c.args.column.now
    column c.meet-left.ensures c.requires.containing
    c.loop-j.from c.in-Some-next_member.j (omega (arith, c.width.ensures.width, c.width.ensures.narrow)) c.in-Some-next_member.ensures in
    omega (arith, inside, c.len.ensures, c.len.type_inv)

pub returns-then-within-clause-meeting : goal.returns-then-within-clause-meeting
returns-then-within-clause-meeting g c =
    let n = c.args.self.now.number in
    let C : Set = c.in-Some.having.now in
    let column = lent c.args.column.now n C c.in-Some.ensures.lookup.3.0 c.in-Some.ensures.lookup.1 in
    let inside = next_inside c.args.rows.now c.args.a.now c.args.start.now n c.args.self.now.objects C c.meet-left.result c.args.column.now
    column c.meet-left.ensures c.requires.containing
    c.loop-j.from c.in-Some-next_member.j (omega (arith, c.width.ensures.width, c.width.ensures.narrow)) c.in-Some-next_member.ensures in
    let R : Set = c.index-as_slice-self.result in
    let row : R ≡ row_at c.args.rows.now (n * 256 + c.in-Some-next_member.j) =
    c.index-as_slice-self.is ∙ ap (λ (Rs : List Set). get_or Rs (n * 256 + c.in-Some-next_member.j) R) c.as_slice.ensures.rows
    ∙ get_or_default c.args.rows.now.rows (n * 256 + c.in-Some-next_member.j) R [] inside in
    let met = met_more c.args.rows.now c.args.a.now c.args.start.now n c.args.self.now.objects C c.meet-left.result c.args.column.now column
    c.meet-left.ensures c.requires.containing
    c.loop-j.from c.in-Some-next_member.j (omega (arith, c.width.ensures.width, c.width.ensures.narrow)) c.in-Some-next_member.ensures
    c.loop-j.met R c.meet-met.result c.loop-j.invariant.met row c.meet-met.ensures in
    met.meeting

pub returns-then-within-clause-less : goal.returns-then-within-clause-less
returns-then-within-clause-less g c =
    let n = c.args.self.now.number in
    let C : Set = c.in-Some.having.now in
    let column = lent c.args.column.now n C c.in-Some.ensures.lookup.3.0 c.in-Some.ensures.lookup.1 in
    let inside = next_inside c.args.rows.now c.args.a.now c.args.start.now n c.args.self.now.objects C c.meet-left.result c.args.column.now
    column c.meet-left.ensures c.requires.containing
    c.loop-j.from c.in-Some-next_member.j (omega (arith, c.width.ensures.width, c.width.ensures.narrow)) c.in-Some-next_member.ensures in
    let R : Set = c.index-as_slice-self.result in
    let row : R ≡ row_at c.args.rows.now (n * 256 + c.in-Some-next_member.j) =
    c.index-as_slice-self.is ∙ ap (λ (Rs : List Set). get_or Rs (n * 256 + c.in-Some-next_member.j) R) c.as_slice.ensures.rows
    ∙ get_or_default c.args.rows.now.rows (n * 256 + c.in-Some-next_member.j) R [] inside in
    let met = met_more c.args.rows.now c.args.a.now c.args.start.now n c.args.self.now.objects C c.meet-left.result c.args.column.now column
    c.meet-left.ensures c.requires.containing
    c.loop-j.from c.in-Some-next_member.j (omega (arith, c.width.ensures.width, c.width.ensures.narrow)) c.in-Some-next_member.ensures
    c.loop-j.met R c.meet-met.result c.loop-j.invariant.met row c.meet-met.ensures in
    met.less

pub returns-then-within-clause-below : goal.returns-then-within-clause-below
returns-then-within-clause-below g c =
    let n = c.args.self.now.number in
    let C : Set = c.in-Some.having.now in
    let column = lent c.args.column.now n C c.in-Some.ensures.lookup.3.0 c.in-Some.ensures.lookup.1 in
    met_enough c.args.rows.now c.args.a.now c.args.start.now n c.args.self.now.objects C c.meet-left.result c.args.column.now column
    c.meet-left.ensures c.requires.containing
    c.meet-met.result (sym c.within.ensures ∙ c.if-within.true)

pub loop-j-preserved : goal.loop-j-preserved
loop-j-preserved g c =
    let n = c.args.self.now.number in
    let C : Set = c.in-Some.having.now in
    let column = lent c.args.column.now n C c.in-Some.ensures.lookup.3.0 c.in-Some.ensures.lookup.1 in
    let inside = next_inside c.args.rows.now c.args.a.now c.args.start.now n c.args.self.now.objects C c.meet-left.result c.args.column.now
    column c.meet-left.ensures c.requires.containing
    c.loop-j.from c.in-Some-next_member.j (omega (arith, c.width.ensures.width, c.width.ensures.narrow)) c.in-Some-next_member.ensures in
    let R : Set = c.index-as_slice-self.result in
    let row : R ≡ row_at c.args.rows.now (n * 256 + c.in-Some-next_member.j) =
    c.index-as_slice-self.is ∙ ap (λ (Rs : List Set). get_or Rs (n * 256 + c.in-Some-next_member.j) R) c.as_slice.ensures.rows
    ∙ get_or_default c.args.rows.now.rows (n * 256 + c.in-Some-next_member.j) R [] inside in
    let met = met_more c.args.rows.now c.args.a.now c.args.start.now n c.args.self.now.objects C c.meet-left.result c.args.column.now column
    c.meet-left.ensures c.requires.containing
    c.loop-j.from c.in-Some-next_member.j (omega (arith, c.width.ensures.width, c.width.ensures.narrow)) c.in-Some-next_member.ensures
    c.loop-j.met R c.meet-met.result c.loop-j.invariant.met row c.meet-met.ensures in
    record { inside = omega (arith, c.in-Some-next_member.ensures.in_range); met = met }

pub returns-clause-below : goal.returns-clause-below
returns-clause-below g c =
    let n = c.args.self.now.number in
    let C : Set = c.in-Some.having.now in
    let column = lent c.args.column.now n C c.in-Some.ensures.lookup.3.0 c.in-Some.ensures.lookup.1 in
    met_all c.args.rows.now c.args.a.now c.args.start.now n c.args.self.now.objects C c.meet-left.result c.args.column.now column
    c.meet-left.ensures c.requires.containing
    c.loop-j.from c.loop-j.met c.loop-j.invariant.met c.in_default-next_member.ensures
