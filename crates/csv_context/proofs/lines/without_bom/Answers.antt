use Rattle.std.proofs.Common.{◌∙◌, ◌≤◌, ◌-◌, ℕ, List, length, drop, sym, arith, length-drop}
use Rattle.std.proofs.lemmas.List.{take_all}
use Rattle.csv_context.proofs.LineLemmas.{strip_bom-mark, strip_bom-other, strip_bom-short}
use Rattle.csv_context.proofs.lines.without_bom.Goals as goal

pub returns-then-bytes-lt3 : goal.returns-then-bytes-lt3
returns-then-bytes-lt3 c = strip_bom-short c.args.bytes.now c.if-bytes-lt3.true

pub returns-then-is_bom : goal.returns-then-is_bom
returns-then-is_bom c =
    let bytes : List ℕ = c.args.bytes.now in
    let size : length (drop 3 bytes) ≤ length bytes - 3 = rw (length-drop 3 bytes) (omega arith) in
    take_all (length bytes - 3) (drop 3 bytes) size ∙ strip_bom-mark bytes c.if-bytes-lt3.false (sym c.is_bom.ensures ∙ c.if-is_bom.true)

pub returns : goal.returns
returns c = strip_bom-other c.args.bytes.now (sym c.is_bom.ensures ∙ c.if-is_bom.false)
