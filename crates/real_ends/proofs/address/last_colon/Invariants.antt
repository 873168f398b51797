use Rattle.std.proofs.Common.{◌≡◌, ◌<◌, IfSome}
use Rattle.std.specs.Path.{rfind_below}
use Rattle.real_ends.proofs.address.last_colon.Given as goal

abbrev pub invariant-loop-place : goal.invariant-loop-place
invariant-loop-place l = (l.last ≡ rfind_below 58 l.text l.place) × IfSome l.last (λ place. place < l.place)
