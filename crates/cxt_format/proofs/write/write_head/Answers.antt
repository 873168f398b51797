use Rattle.std.proofs.Common.{◌≡◌, ◌∙◌, ◌++◌, ◌∷◌, [], ℕ, length, codes, sym, ap, subst}
use Rattle.std.specs.Fmt.{decimal}
use Rattle.fca_model.specs.Context.{Context}
use Rattle.cxt_format.specs.Written.{title_line}
use Rattle.cxt_format.proofs.TextLemmas.{written-head}
use Rattle.cxt_format.proofs.write.write_head.Goals as goal

pub returns-clause-written : goal.returns-clause-written
returns-clause-written c =
    let t = c.args.table.now in
    let objects : c.len.result ≡ length t.objects = c.len.ensures ∙ ap (λ (K : Context). length K.rows) c.rows.ensures.rows
    ∙ sym c.rows.ensures.table.each_object in
    let attributes : c.width.result ≡ length t.attributes = c.width.ensures.width ∙ ap (λ (K : Context). K.width) c.rows-2.ensures.rows
    ∙ sym c.rows.ensures.table.each_attribute in
    let P : ℕ → Type 0 = λ n. c.write_number.new.text.items ≡ c.write_title.new.text.items ++ decimal n ++ 10 ∷ [] in
    let Q : ℕ → Type 0 = λ n. c.write_number-2.new.text.items ≡ c.write_number.new.text.items ++ decimal n ++ 10 ∷ [] in
    written-head c.args.text.now.items c.write_line.new.text.items c.write_title.new.text.items c.write_number.new.text.items
    c.write_number-2.new.text.items c.write_line-2.new.text.items
    (codes "B") (title_line t.title) (decimal (length t.objects)) (decimal (length t.attributes)) []
    c.in_ok-write_line.ensures c.in_ok-write_title.ensures.written (subst P objects c.in_ok-write_number.ensures)
    (subst Q attributes c.in_ok-write_number-2.ensures) c.in_ok-write_line-2.ensures
