-- The link does not listen yet.
use Rattle.std.proofs.Common.{◌≡◌, false}
use Rattle.exploration_tests.proofs.real_ends_tests.listen_at_free_port.Given as goal

abbrev pub invariant-loop-port : goal.invariant-loop-port
invariant-loop-port g l = g.L.Listener.listens l.link ≡ false
