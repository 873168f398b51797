use Rattle.std.proofs.Common.{◌≡◌, ◌≤◌, length, add-one, sym, ap, ◌∙◌, arith}
use Rattle.std.proofs.lemmas.Result.{err_from_is_err_and}
use Rattle.text_pieces.specs.Lines.{text_of}
use Rattle.expert_wire.specs.Greetings.{greeting, greeting_words}
use Rattle.expert_wire.proofs.WriteLemmas.{Writes-equal, Writes-front, Underway-start, Underway-equal, Underway-more, Underway-fault}
use Rattle.expert_wire.proofs.WriteLemmas.{Underway-end}
use Rattle.expert_wire.proofs.GreetingLemmas.{words-at, text_of-drop, text_of-past}
use Rattle.expert_wire.proofs.greeting.write_greeting.Goals as goal

pub returns-in_err-write_parts : goal.returns-in_err-write_parts
returns-in_err-write_parts g c =
    let p = err_from_is_err_and c.from_residual.result c.from_residual.ensures.1 in
    let wide : c.from-2.result ≡ c.args.table.now.context.width = c.from-2.ensures ∙ c.width-width.ensures.width
    ∙ ap (λ K. K.width) c.rows.ensures.rows in
    let words = words-at c.args.table.now c.args.expert c.from.result c.from-2.result c.from.ensures wide in
    rw (p.1, p.2) (Writes-front (text_of c.args.table.now.attributes) _ (Writes-equal words c.in_err-write_parts.ensures))

pub loop-attribute-init : goal.loop-attribute-init
loop-attribute-init g c =
    let wide : c.from-2.result ≡ c.args.table.now.context.width = c.from-2.ensures ∙ c.width-width.ensures.width
    ∙ ap (λ K. K.width) c.rows.ensures.rows in
    let words = words-at c.args.table.now c.args.expert c.from.result c.from-2.result c.from.ensures wide in
    Underway-more (greeting_words c.args.table.now c.args.expert) (text_of c.args.table.now.attributes)
    (Underway-start _ _ _ _ (greeting c.args.table.now c.args.expert)) (Writes-equal words c.in_ok-write_parts.ensures)

pub returns-in_err-write_parts-2 : goal.returns-in_err-write_parts-2
returns-in_err-write_parts-2 g c =
    let p = err_from_is_err_and c.from_residual-in_err-write_parts-2.result c.from_residual-in_err-write_parts-2.ensures.1 in
    let named = c.attribute_name.ensures in
    let here = Underway-equal (text_of-drop c.args.table.now.attributes c.loop-attribute.attribute c.attribute_name.result.now named)
    c.loop-attribute.invariant in
    rw (p.1, p.2) (Underway-fault _ _ _ here (rw c.bytes-name.ensures.value at c.in_err-write_parts-2.ensures))

pub loop-attribute-preserved : goal.loop-attribute-preserved
loop-attribute-preserved g c =
    let named = c.attribute_name.ensures in
    let here = Underway-equal (text_of-drop c.args.table.now.attributes c.loop-attribute.attribute c.attribute_name.result.now named)
    c.loop-attribute.invariant in
    rw add-one (Underway-more _ _ here (rw c.bytes-name.ensures.value at c.in_ok-write_parts-2.ensures))

pub returns : goal.returns
returns g c =
    let wide : c.width-width.result ≡ length c.args.table.now.attributes = c.width-width.ensures.width
    ∙ ap (λ K. K.width) c.rows.ensures.rows ∙ sym c.rows.ensures.table.each_attribute in
    let over : length c.args.table.now.attributes ≤ c.loop-attribute.attribute = omega arith in
    Underway-end (Underway-equal (text_of-past c.args.table.now.attributes c.loop-attribute.attribute over) c.loop-attribute.invariant)
