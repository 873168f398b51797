use Rattle.std.proofs.Common.{◌∙◌, length, sym, ap}
use Rattle.value_tables.specs.Values.{ValueTable}
use Rattle.value_tables.specs.Cells.{texts}
use Rattle.value_tables.proofs.CellLemmas.{objects_length}
use Rattle.value_tables.proofs.values.Values.len.Goals as goal

pub returns-clause-len : goal.returns-clause-len
returns-clause-len c =
    let v = c.self.inside in
    c.len.ensures ∙ v.objects.ok.0 ∙ sym (objects_length (length v.attributes.keys) v.objects.items (texts v.cells))
    ∙ ap (λ (t : ValueTable). length t.objects) c.self.view_is
