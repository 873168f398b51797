use Rattle.std.proofs.Common.{◌≡◌, ◌≤◌, ◌++◌, ◌+◌, ℕ, List, map, drop, refl, subst}
use Rattle.fca_model.specs.Sets.{Set}
use Rattle.text_pieces.specs.Lines.{text_of}
use Rattle.text_pieces.specs.Marks.{marks_of}
use Rattle.text_pieces.proofs.ItemLemmas.{drop-item, written-all}
use Rattle.cxt_format.proofs.TextLemmas.{written-line}
use Rattle.cxt_format.proofs.write.write_rows.Goals as goal

pub loop-i-preserved : goal.loop-i-preserved
loop-i-preserved c =
    let rows = c.args.rows.now.rows in
    let all = c.args.text.now.items ++ text_of (map marks_of rows) in
    let P : List Set → Type 0 = λ left. c.loop-i.text.items ++ text_of (map marks_of left) ≡ all in
    written-line c.loop-i.text.items c.write_row.new.text.items (marks_of c.get.result)
    (text_of (map marks_of (drop (c.loop-i.i + 1) rows))) all c.in_ok-write_row.ensures
    (subst P (drop-item rows c.loop-i.i c.get.result c.get.ensures.row) c.loop-i.invariant)

pub returns : goal.returns
returns c =
    let rows = c.args.rows.now.rows in
    let P : ℕ → Type 0 = λ n. n ≤ c.loop-i.i in
    let f : List Set → List ℕ = λ left. text_of (map marks_of left) in
    written-all f rows c.loop-i.i c.loop-i.text.items (c.args.text.now.items ++ text_of (map marks_of rows))
    (subst P c.len-i-end.ensures c.loop-i-test.false) refl c.loop-i.invariant
