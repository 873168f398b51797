use Rattle.std.proofs.Common.{◌*◌, [], ◌∷◌, ◌++◌, refl, sym, ap, ap₂, ◌∙◌, arith, zero-mul}
use Rattle.std.proofs.lemmas.List.FromFn.{length-map-range_with_len, map-range_with_len_more}
use Rattle.fca_model.specs.Context.{Context}
use Rattle.fca_model.specs.Sets.{Set}
use Rattle.context_table.specs.Generated.{state_after, row_from}
use Rattle.context_table.proofs.CellLemmas.{state_after-row}
use Rattle.context_table.proofs.generated.CellGenerator.into_rows.Goals as goal

pub loop-init : goal.loop-init
unfolding state_after
loop-init c = record {
  state = sym (ap (λ k. state_after k c.args.self.state) (zero-mul c.args.n));
  density = refl;
  rows = c.in_ok-rows.ensures;
}

pub push-requires : goal.push-requires
push-requires c =
    let width = ap (λ (K : Context). K.width) c.loop.invariant.rows in
    (omega arith, (omega arith, rw c.next_row.ensures.row (rw width (length-map-range_with_len _ 0 c.args.n))))

pub loop-preserved : goal.loop-preserved
loop-preserved c =
    let before = c.loop.invariant in
    let row = c.next_row.ensures.row ∙ ap₂ (λ d x. row_from d c.args.n x) before.density before.state in
    record {
      state = c.next_row.ensures.state ∙ ap (state_after c.args.n) before.state ∙ state_after-row c.loop.counter c.args.n _;
      density = c.next_row.ensures.density ∙ before.density;
      rows = c.in_ok-push.ensures.ok ∙ ap₂ (λ (K : Context) (r : Set). record K { rows = K.rows ++ r ∷ [] }) before.rows row
          ∙ ap (λ rows. record { width = c.args.n; rows = rows })
          (sym (map-range_with_len_more (λ i. row_from c.args.self.density c.args.n (state_after (i * c.args.n) c.args.self.state)) 0
          c.loop.counter c.loop.counter (omega arith)));
    }
