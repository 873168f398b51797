use Rattle.std.proofs.Common.{◌∙◌, ◌++◌, ◌∷◌, [], Bool, List, Vec, Global, map, ap, ap₂, sym, arith}
use Rattle.std.proofs.lemmas.List.{map_push}
use Rattle.std.proofs.lemmas.List.FromFn.{map-range_with_len_more}
use Rattle.fca_model.specs.Sets.{Set}
use Rattle.extent_places.specs.Places.{column}
use Rattle.extent_places.proofs.columns.Columns.of.Goals as goal

pub loop-attribute-preserved : goal.loop-attribute-preserved
loop-attribute-preserved g c =
    let i = c.loop-attribute.attribute in
    ap (map (λ (v : Vec Bool Global). v.items)) c.in_ok-push.ensures.items
    ∙ map_push (λ (v : Vec Bool Global). v.items) c.loop-attribute.lists.items c.in_ok-column_of.field-0
    ∙ ap₂ (λ (Cs : List Set) (C : Set). Cs ++ C ∷ []) c.loop-attribute.invariant c.in_ok-column_of.ensures
    ∙ sym (map-range_with_len_more (column c.args.rows.now.rows) 0 i i (omega arith))
