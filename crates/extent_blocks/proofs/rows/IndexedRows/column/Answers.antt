use Rattle.std.proofs.Common.{◌≡◌, ◌<◌, ◌∙◌, [], get_or, map, sym, ap, subst, arith}
use Rattle.std.proofs.lemmas.List.{get_or-map}
use Rattle.fca_model.specs.Context.{Context}
use Rattle.extent_blocks.specs.Blocks.{IsColumn}
use Rattle.extent_blocks.proofs.rows.IndexedRows.column.Goals as goal

pub returns : goal.returns
returns g c =
    let K : Context = c.self.inside.rows in
    let width : K.width ≡ c.args.self.now.width = ap (λ (X : Context). X.width) c.self.view_is in
    let inside : c.args.i < K.width = omega (arith, c.requires, width) in
    let here : get_or (map (λ v. v.items) c.self.inside.columns.items) c.args.i [] ≡ c.deref.result.now =
    get_or-map (λ v. v.items) c.self.inside.columns.items c.args.i c.index.result.now [] (omega (arith, inside, c.self.invariant.room))
    ∙ ap (λ v. v.items) (sym c.index.ensures) ∙ sym c.deref.ensures.value in
    subst (λ (X : Context). IsColumn X c.args.i c.deref.result.now) c.self.view_is
    (subst (IsColumn K c.args.i) here (c.self.invariant.columns c.args.i inside))
