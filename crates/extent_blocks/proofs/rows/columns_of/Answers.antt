use Rattle.std.proofs.Common.{◌∙◌, ◌+◌, ◌<◌, ℕ, [], length, get_or, map, sym, ap, subst}
use Rattle.std.proofs.lemmas.List.{length_push}
use Rattle.fca_model.specs.Context.{Context}
use Rattle.extent_blocks.specs.Blocks.{IsColumn}
use Rattle.extent_blocks.proofs.ColumnLemmas.{columns_push}
use Rattle.extent_blocks.proofs.rows.columns_of.Goals as goal

pub loop-i-preserved : goal.loop-i-preserved
loop-i-preserved g c =
    let K : Context = c.args.rows.now in
    let i = c.loop-i.i in
    record {
      room = ap length c.in_ok-push.ensures.items ∙ length_push c.loop-i.columns.items c.in_ok-column_of.field-0
          ∙ ap (λ n. n + 1) c.loop-i.invariant.room;
      columns = subst (λ xs. (j : ℕ) → j < i + 1 → IsColumn K j (get_or (map (λ v. v.items) xs) j [])) (sym c.in_ok-push.ensures.items)
          (columns_push (λ v. v.items) (IsColumn K) c.loop-i.columns.items c.in_ok-column_of.field-0 i c.loop-i.invariant.room
          c.loop-i.invariant.columns c.in_ok-column_of.ensures);
    }
