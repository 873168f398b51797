use Rattle.std.proofs.Common.{◌≡◌, ◌∙◌, ◌==◌, ℕ, List, length, false, sym, eqb-true}
use Rattle.csv_context.proofs.LineLemmas.{length-some, next_line-None, next_line-Some, next_line-end}
use Rattle.csv_context.proofs.lines.next_line.Goals as goal

pub returns-then-is_empty : goal.returns-then-is_empty
returns-then-is_empty c =
    let none = sym c.is_empty.ensures ∙ c.if-is_empty.true in
    next_line-end c.args.bytes.now c.without_ends-rest.result.now c.requires c.without_ends-rest.ensures (eqb-true _ 0 none)

pub returns-in-Some : goal.returns-in-Some
returns-in-Some c = next_line-Some c.args.bytes.now c.without_ends-rest.result.now c.in-Some.end c.requires c.without_ends-rest.ensures
    c.in-Some.ensures

pub returns-in-None : goal.returns-in-None
returns-in-None c =
    let rest : List ℕ = c.without_ends-rest.result.now in
    let some : length rest == 0 ≡ false = sym c.is_empty.ensures ∙ c.if-is_empty.false in
    next_line-None c.args.bytes.now rest c.requires c.without_ends-rest.ensures (length-some rest some) c.in-None.ensures
