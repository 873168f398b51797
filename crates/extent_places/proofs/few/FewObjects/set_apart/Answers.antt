use Rattle.std.proofs.Common.{◌∙◌, ◌++◌, ℕ, List, length, ap}
use Rattle.fca_model.specs.Sets.{full}
use Rattle.fca_model.specs.Context.{Context}
use Rattle.extent_places.specs.Places.{rows_at}
use Rattle.extent_places.proofs.FewLemmas.{few_apart}
use Rattle.extent_places.proofs.few.FewObjects.set_apart.Goals as goal

pub returns : goal.returns
returns g c =
    let K : Context = c.args.rows.now in
    few_apart K c.args.a.now (record {
      places = c.extend_from_slice.new.self;
      rows = c.put_rows.new.kept;
      columns = c.put_columns.new.columns;
    }) c.full.result
    (c.in_ok-extend_from_slice.ensures.items ∙ ap (λ (ps : List ℕ). ps ++ c.args.places.now) c.clear.ensures.items ∙ c.requires.places)
    (c.in_ok-put_rows.ensures ∙ ap (λ (ps : List ℕ). record { width = K.width; rows = rows_at K.rows ps }) c.requires.places)
    c.in_ok-put_columns.ensures (c.full.ensures ∙ ap (λ (ps : List ℕ). full (length ps)) c.requires.places)
