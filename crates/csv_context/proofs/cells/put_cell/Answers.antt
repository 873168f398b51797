use Rattle.std.proofs.Common.{ℕ, ◌-◌, ◌*◌, ◌%◌, ◌^◌, refl, ap}
use Rattle.csv_context.proofs.CellLemmas.{put-cell}
use Rattle.csv_context.proofs.cells.put_cell.Goals as goal

pub returns : goal.returns
returns c =
    let place : ℕ = c.args.place in
    let bits : ℕ = c.from.result * 2 ^ (place % 64) % 2 ^ 64 in
    put-cell c.args.row.now c.insert_bits.new.self place (place - place % 64) bits c.args.cross c.requires refl
    (ap (λ x. x * 2 ^ (place % 64) % 2 ^ 64) c.from.ensures) c.insert_bits.ensures.width c.insert_bits.ensures.members
