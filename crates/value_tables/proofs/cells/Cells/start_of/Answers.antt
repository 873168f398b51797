use Rattle.std.proofs.Common.{◌≡◌, ◌∙◌, ◌<◌, ◌≤◌, ◌+◌, ◌*◌, ◌/◌, ◌-◌, ℕ, List, sum, take, drop, length, ap, ap₂, arith}
use Rattle.std.proofs.lemmas.List.{get_or_read}
use Rattle.std.proofs.lemmas.List.Sums.{sum_by-take-le}
use Rattle.value_tables.proofs.CellLemmas.{sum_from}
use Rattle.value_tables.proofs.cells.Cells.start_of.Goals as goal

start_is : (c : goal.After-total) → c.index.result.now + c.total.result ≡ sum (take c.args.k c.args.self.now.lengths.items)
start_is c =
    let cells = c.args.self.now in
    let k = c.args.k in
    let j = 16 * (k / 16) in
    let below : k < length cells.lengths.items = omega (arith, cells.lengths.ok.0, c.requires.place) in
    let within : k / 16 < length cells.starts.items = omega (arith, c.requires.cells.enough) in
    let before : 16 * (k / 16) ≤ k = omega arith in
    let first : c.index.result.now ≡ sum (take j cells.lengths.items) =
    get_or_read cells.starts.items (k / 16) c.index.result.now within c.index.ensures 0
    ∙ c.requires.cells.right (k / 16) (omega (arith, before, below)) in
    let rest : c.total.result ≡ sum (take (k - j) (drop j cells.lengths.items)) = c.total.ensures
    ∙ ap (λ (ns : List ℕ). sum (take (k - j) (drop j ns))) c.deref.ensures.value in
    ap₂ ◌+◌ first rest ∙ sum_from cells.lengths.items j k before

pub overflow_add-result : goal.overflow_add-result
overflow_add-result c =
    let cells = c.args.self.now in
    omega (
      arith,
      start_is c,
      sum_by-take-le (λ x. x) cells.lengths.items c.args.k,
      c.requires.cells.whole,
      cells.text.ok.0,
      cells.text.ok.1,
      cells.text.small,
    )

pub returns : goal.returns
returns c = start_is c
