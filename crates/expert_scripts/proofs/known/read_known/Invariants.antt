use Rattle.std.proofs.Common.{◌≡◌, ◌≤◌, ◌+◌, length}
use Rattle.text_pieces.specs.Lines.{lines}
use Rattle.expert_scripts.specs.Known.{known_from, known_form}
use Rattle.expert_scripts.proofs.KnownLemmas.{after}
use Rattle.expert_scripts.proofs.known.read_known.Given as goal

abbrev pub invariant-loop-rest : goal.invariant-loop-rest
invariant-loop-rest l = record {
  counted : l.number + length l.rest ≤ length l.bytes;
  width : l.list.width ≡ l.n;
  known : after l.list.members (known_from l.n (l.number + 1) (lines l.rest)) ≡ known_form l.bytes l.n;
}

abbrev pub decreases-loop-rest : goal.decreases-loop-rest
decreases-loop-rest l = length l.rest
