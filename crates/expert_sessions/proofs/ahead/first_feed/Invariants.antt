-- No line feed stands before the place.
use Rattle.std.proofs.Common.{take}
use Rattle.expert_sessions.specs.Lines.{HasNoFeed}
use Rattle.expert_sessions.proofs.ahead.first_feed.Given as goal

abbrev pub invariant-loop-at : goal.invariant-loop-at
invariant-loop-at l = HasNoFeed (take l.at l.bytes)
