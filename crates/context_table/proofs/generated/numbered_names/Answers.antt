use Rattle.std.proofs.Common.{◌+◌, List, [], ◌∷◌, ◌++◌, sym, ap₂, ◌∙◌, arith, decimal}
use Rattle.std.proofs.lemmas.List.FromFn.{map-range_with_len_more}
use Rattle.fca_model.specs.Tables.{Text}
use Rattle.context_table.proofs.NumberLemmas.{name_fault-numbered_name}
use Rattle.context_table.proofs.generated.numbered_names.Goals as goal

-- the text is the letter with the number
pub name_of-requires : goal.name_of-requires
name_of-requires c =
    let letter = c.in_ok-push.ensures.bytes ∙ ap₂ (λ a b. a ++ b) c.clear.ensures.bytes (c.in_ok-push.ensures.ascii (omega arith)) in
    let text = c.deref.ensures ∙ c.in_ok-push_str.ensures.bytes ∙ ap₂ (λ a b. a ++ b) letter c.format.ensures.text in
    rw text (name_fault-numbered_name c.args.letter (c.loop-i.i + 1) (omega arith) (omega arith))

pub loop-i-preserved : goal.loop-i-preserved
loop-i-preserved c =
    let letter = c.in_ok-push.ensures.bytes ∙ ap₂ (λ a b. a ++ b) c.clear.ensures.bytes (c.in_ok-push.ensures.ascii (omega arith)) in
    let text = c.deref.ensures ∙ c.in_ok-push_str.ensures.bytes ∙ ap₂ (λ a b. a ++ b) letter c.format.ensures.text in
    c.in_ok-push-2.ensures.items ∙ ap₂ (λ (names : List Text) name. names ++ name ∷ []) c.loop-i.invariant (c.in_ok-name_of.ensures ∙ text)
    ∙ sym (map-range_with_len_more (λ i. c.args.letter ∷ decimal (i + 1)) 0 c.loop-i.i c.loop-i.i (omega arith))
