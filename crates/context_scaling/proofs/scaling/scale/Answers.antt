use Rattle.std.proofs.Common.{◌∙◌, List, None, ap, ap₂}
use Rattle.fca_model.specs.Context.{Context}
use Rattle.fca_model.specs.Tables.{Text, NamedContext}
use Rattle.context_scaling.proofs.scaling.scale.Goals as goal

pub returns-in-Ok : goal.returns-in-Ok
returns-in-Ok c =
    let rows = c.in_ok-rows.rows in
    let make : List Text → List Text → Context → NamedContext =
    λ objects attributes context. record { title = None; objects = objects; attributes = attributes; context = context } in
    let attributes = c.in_ok-attributes.ensures ∙ c.names.ensures in
    c.in-Ok.ensures.table
    ∙ ap₂ (λ (os : List Text) (ns : List Text). make os ns rows) c.in_ok-objects.ensures.names attributes
    ∙ ap (make _ _) c.in_ok-rows.ensures
