use Rattle.std.proofs.Common.{◌∙◌, ◌++◌, ℕ, List, sym, ap}
use Rattle.std.proofs.lemmas.Bool.{ne_eqb}
use Rattle.csv_context.proofs.WriteLemmas.{escaped-other, escaped-quote}
use Rattle.csv_context.proofs.write.write_escaped.Goals as goal

pub returns-then-byte-eq34 : goal.returns-then-byte-eq34
returns-then-byte-eq34 c = c.in_ok-extend_from_slice.ensures.items
    ∙ ap (λ (xs : List ℕ). c.args.text.now.items ++ xs) (sym (escaped-quote c.args.byte c.if-byte-eq34.true))

pub returns : goal.returns
returns c = c.in_ok-push.ensures.items ∙ ap (λ (xs : List ℕ). c.args.text.now.items ++ xs)
    (sym (escaped-other c.args.byte (ne_eqb c.args.byte 34 c.if-byte-eq34.false)))
