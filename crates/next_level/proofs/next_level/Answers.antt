use Rattle.std.proofs.Common.{◌∙◌, ap}
use Rattle.fca_model.specs.Context.{Context}
use Rattle.next_level.proofs.NextLevelLemmas.{unknown_among}
use Rattle.next_level.proofs.next_level.Goals as goal

pub find_next-requires : goal.find_next-requires
find_next-requires c = record {
  wide = c.requires.wide;
  ahead_wide = ap (λ (L : Context). L.width) c.in_ok-nothing.ensures.1 ∙ c.width.ensures.width;
  among = unknown_among c.args.rules.now.members c.args.rows.now c.in_ok-nothing.nothing.whole c.in_ok-nothing.nothing.sets.rows
      c.in_ok-nothing.ensures.0;
}
