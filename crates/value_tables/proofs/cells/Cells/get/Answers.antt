use Rattle.std.proofs.Common.{◌≡◌, ◌∙◌, ◌<◌, ◌+◌, ◌-◌, take, drop, length, get_or, sym, ap₂, arith}
use Rattle.std.proofs.lemmas.List.{get_or_read}
use Rattle.value_tables.proofs.CellLemmas.{cut_at, piece_within}
use Rattle.value_tables.proofs.cells.Cells.get.Goals as goal

pub overflow_add-end : goal.overflow_add-end
overflow_add-end c =
    let cells = c.args.self.now in
    let lengths = cells.lengths.items in
    let below : c.args.k < length lengths = omega (arith, cells.lengths.ok.0, c.requires.place) in
    let size = get_or_read lengths c.args.k c.index.result.now below c.index.ensures 0 in
    omega (
      arith,
      size,
      c.start_of-start.ensures,
      piece_within lengths c.args.k below,
      c.requires.cells.whole,
      cells.text.ok.0,
      cells.text.ok.1,
      cells.text.small,
    )

pub returns : goal.returns
returns c =
    let cells = c.args.self.now in
    let lengths = cells.lengths.items in
    let start = c.start_of-start.result in
    let below : c.args.k < length lengths = omega (arith, cells.lengths.ok.0, c.requires.place) in
    let size = get_or_read lengths c.args.k c.index.result.now below c.index.ensures 0 in
    let long : start + c.index.result.now - start ≡ get_or lengths c.args.k 0 = omega (arith, size) in
    ap₂ take long (ap₂ drop c.start_of-start.ensures c.deref.ensures.value) ∙ sym (cut_at lengths cells.text.items c.args.k below)
