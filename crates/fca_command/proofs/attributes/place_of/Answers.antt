use Rattle.std.proofs.Common.{◌≡◌, ◌∙◌, [], length, get_or, sym, ap, arith, below_more}
use Rattle.std.specs.Prelude.{bytes_eq}
use Rattle.std.proofs.lemmas.Option.{slice_get_within, get_or_from_slice_get}
use Rattle.fca_model.specs.Context.{Context}
use Rattle.fca_command.proofs.PlaceLemmas.{position-here, position-none}
use Rattle.fca_command.proofs.attributes.place_of.Goals as goal

pub returns-then-eq : goal.returns-then-eq
returns-then-eq c =
    let names = c.args.table.now.attributes in
    let place = c.loop-place.place in
    let item = sym c.attribute_name.ensures in
    let read : get_or names place [] ≡ c.bytes.result.now = get_or_from_slice_get names place c.attribute_name.result.now [] item
    ∙ sym c.bytes.ensures.value in
    sym (position-here (bytes_eq c.args.name.now) names place [] (slice_get_within names place c.attribute_name.result.now item)
    (ap (bytes_eq c.args.name.now) read ∙ sym c.eq.ensures ∙ c.if-eq.true) c.loop-place.invariant)

pub loop-place-preserved : goal.loop-place-preserved
loop-place-preserved c =
    let names = c.args.table.now.attributes in
    let place = c.loop-place.place in
    let read : get_or names place [] ≡ c.bytes.result.now =
    get_or_from_slice_get names place c.attribute_name.result.now [] (sym c.attribute_name.ensures) ∙ sym c.bytes.ensures.value in
    below_more _ _ c.loop-place.invariant (ap (bytes_eq c.args.name.now) read ∙ sym c.eq.ensures ∙ c.if-eq.false)

pub returns : goal.returns
returns c =
    let names = c.args.table.now.attributes in
    let wide : c.width-place-end.result ≡ length names =
    c.width-place-end.ensures.width ∙ ap (λ (K : Context). K.width) c.rows.ensures.rows ∙ sym c.rows.ensures.table.each_attribute in
    sym (position-none (bytes_eq c.args.name.now) names c.loop-place.place []
    (let past = c.loop-place-test.false in omega arith) c.loop-place.invariant)
