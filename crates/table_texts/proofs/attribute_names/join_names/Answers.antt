use Rattle.std.proofs.Common.{◌≡◌, ◌∙◌, ◌++◌, ◌∷◌, [], List, length, take, sym, ap, subst, arith}
use Rattle.std.proofs.lemmas.List.{take_all, take_more}
use Rattle.std.proofs.lemmas.Option.{get_or_from_slice_get}
use Rattle.fca_model.specs.Context.{Context}
use Rattle.fca_model.specs.Tables.{Text}
use Rattle.packed_concepts.specs.Listing.{with_comma}
use Rattle.packed_concepts.proofs.ListingLemmas.{name_short}
use Rattle.table_texts.specs.Joined.{AreJoined}
use Rattle.table_texts.proofs.JoinedLemmas.{joined_none, joined_more}
use Rattle.table_texts.proofs.attribute_names.join_names.Goals as goal

pub loop-attribute-init : goal.loop-attribute-init
loop-attribute-init c = joined_none c.new-text.result.items c.push.new.self.items c.new-text.ensures.items
    (c.in_ok-push.ensures.items ∙ ap (λ ns. ns ++ 0 ∷ []) c.new-starts.ensures.items)

pub loop-attribute-preserved : goal.loop-attribute-preserved
loop-attribute-preserved c =
    let names : List Text = c.args.table.now.attributes in
    let k = c.loop-attribute.attribute in
    let name : Text = c.attribute_name.result.now in
    let count : c.width-width.result ≡ length names = c.width-width.ensures.width
    ∙ ap (λ (K : Context). K.width) c.rows.ensures.rows ∙ sym c.rows.ensures.table.each_attribute in
    subst (λ ns. AreJoined ns c.join_name.new.text.items c.join_name.new.starts.items)
    (ap (λ x. take k names ++ x ∷ []) (sym (get_or_from_slice_get names k name [] (sym c.attribute_name.ensures)))
    ∙ sym (take_more names k [] (omega (arith, count, c.loop-attribute-test.true))))
    (joined_more (take k names) name c.loop-attribute.text.items c.join_name.new.text.items c.loop-attribute.starts.items
    c.join_name.new.starts.items (name_short name c.bytes-name.ensures.name.faultless)
    (c.in_ok-join_name.ensures.text ∙ ap (λ n. c.loop-attribute.text.items ++ with_comma n) c.bytes-name.ensures.value)
    c.in_ok-join_name.ensures.starts c.loop-attribute.invariant)

pub returns : goal.returns
returns c =
    let names : List Text = c.args.table.now.attributes in
    let count : c.width-width.result ≡ length names = c.width-width.ensures.width
    ∙ ap (λ (K : Context). K.width) c.rows.ensures.rows ∙ sym c.rows.ensures.table.each_attribute in
    subst (λ ns. AreJoined ns c.loop-attribute.text.items c.loop-attribute.starts.items)
    (take_all c.loop-attribute.attribute names (omega (arith, count, c.loop-attribute-test.false))) c.loop-attribute.invariant
