use Rattle.std.proofs.Common.{◌≡◌, List, sym, subst, arith}
use Rattle.std.specs.Prelude.{All}
use Rattle.std.proofs.lemmas.List.Elements.{All-push}
use Rattle.fca_model.specs.Tables.{NamedContext}
use Rattle.explore_command.proofs.surveys.copies.Goals as goal

pub loop-preserved : goal.loop-preserved
loop-preserved c =
    let table : NamedContext = c.args.table.now in
    let inv = c.loop.invariant in
    let Same : List NamedContext → Type 0 = All (λ (copy : NamedContext). copy ≡ table) in (
      (let longer = c.in_ok-push.ensures.len in let was = inv.0 in omega arith),
      subst Same (sym c.in_ok-push.ensures.items) (All-push
          (λ (copy : NamedContext). copy ≡ table) c.loop.tables.items c.in_ok-copy.copy inv.1 c.in_ok-copy.ensures),
    )
