use Rattle.std.proofs.Common.{◌≡◌, ◌∙◌, ◌+◌, ◌*◌, ◌-◌, ℕ, List, length, get_or, sum, take, ap, arith}
use Rattle.std.proofs.lemmas.List.Sums.{sum_by-take-le}
use Rattle.value_tables.proofs.CellLemmas.{start_next}
use Rattle.value_tables.proofs.cells.next_start.Goals as goal
use Rattle.value_tables.proofs.cells.next_start.Goals.{After-total}

start_is : (c : After-total) → get_or c.args.starts.now (length c.args.starts.now - 1) 0 + c.total.result ≡ sum
    (take (16 * length c.args.starts.now) c.args.lengths.now)
start_is c =
    let starts : List ℕ = c.args.starts.now in
    ap (λ (n : ℕ). get_or starts (length starts - 1) 0 + n) c.total.ensures
    ∙ start_next starts c.args.lengths.now (omega (arith, c.in-len1-up.len_at_least)) c.requires.right

pub overflow_add-result : goal.overflow_add-result
overflow_add-result c = omega (
  arith,
  start_is c,
  sum_by-take-le (λ x. x) c.args.lengths.now (16 * length c.args.starts.now),
  c.requires.small,
)

pub returns-in-len1-up : goal.returns-in-len1-up
returns-in-len1-up c = start_is c
