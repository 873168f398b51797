use Rattle.std.proofs.Common.{◌∙◌, ◌<◌, [], length, sym, ap, arith}
use Rattle.std.proofs.lemmas.List.{get_or_read}
use Rattle.value_tables.specs.Values.{ValueTable, object_at}
use Rattle.value_tables.specs.Cells.{texts}
use Rattle.value_tables.proofs.CellLemmas.{objects_length, objects_name}
use Rattle.value_tables.proofs.values.Values.object.Goals as goal

pub index-requires : goal.index-requires
index-requires c =
    let v = c.self.inside in
    let same = v.objects.ok.0 ∙ sym (objects_length (length v.attributes.keys) v.objects.items (texts v.cells))
    ∙ ap (λ (t : ValueTable). length t.objects) c.self.view_is in
    omega (arith, same, c.requires)

pub returns : goal.returns
returns c =
    let v = c.self.inside in
    let same = sym (objects_length (length v.attributes.keys) v.objects.items (texts v.cells))
    ∙ ap (λ (t : ValueTable). length t.objects) c.self.view_is in
    let below : c.args.g < length v.objects.items = omega (arith, same, c.requires) in
    get_or_read v.objects.items c.args.g c.index.result.now below c.index.ensures []
    ∙ sym (objects_name (length v.attributes.keys) v.objects.items (texts v.cells) c.args.g below)
    ∙ ap (λ (t : ValueTable). (object_at t c.args.g).name) c.self.view_is
