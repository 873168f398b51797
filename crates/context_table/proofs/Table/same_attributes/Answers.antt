use Rattle.std.proofs.Common.{◌∙◌, ap, sym}
use Rattle.std.proofs.lemmas.Slice.Eq.{bytes_eq-Decides, slice_eq-Decides}
use Rattle.fca_model.specs.Tables.{NamedContext}
use Rattle.context_table.proofs.Table.same_attributes.Goals as goal

pub returns : goal.returns
returns c =
    let same = slice_eq-Decides bytes_eq-Decides c.as_slice.result.now c.as_slice-2.result.now c.eq.result c.eq.ensures in
    let mine = c.as_slice.ensures.keys ∙ ap (λ (t : NamedContext). t.attributes) c.self.view_is in
    let theirs = c.as_slice-2.ensures.keys ∙ ap (λ (t : NamedContext). t.attributes) c.other.view_is in
    (λ h. sym mine ∙ same.0 h ∙ theirs, λ h. same.1 (mine ∙ h ∙ sym theirs))
