use Rattle.std.proofs.Common.{◌≡◌, take, length}
use Rattle.direct_basis.specs.Direct.{one_pass}
use Rattle.direct_basis.proofs.passing.pass_over.Given as goal

abbrev pub invariant-loop-i : goal.invariant-loop-i
invariant-loop-i l = record {
  wide : length l.joined ≡ length l.x;
  pass : l.joined ≡ one_pass (take l.i-index l.members) l.x;
}
