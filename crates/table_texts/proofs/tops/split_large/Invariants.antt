use Rattle.std.proofs.Common.{◌≡◌, All, take}
use Rattle.table_texts.specs.Tops.{IsTop, branches}
use Rattle.table_texts.proofs.tops.split_large.Given as goal

abbrev pub invariant-loop-top : goal.invariant-loop-top
invariant-loop-top g l = record {
  tops : All (IsTop l.crosses) l.more.items;
  laid : branches l.crosses l.more.items ≡ branches l.crosses (take l.top-index l.tops);
}
