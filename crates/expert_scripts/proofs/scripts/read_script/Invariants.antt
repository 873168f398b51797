use Rattle.std.proofs.Common.{◌≡◌, ◌≤◌, ◌+◌, length}
use Rattle.text_pieces.specs.Lines.{lines}
use Rattle.expert_wire.specs.Lines.{numbered_lines}
use Rattle.expert_scripts.specs.Scripts.{script_form}
use Rattle.expert_scripts.specs.Stages.{content_to_come}
use Rattle.expert_scripts.proofs.scripts.read_script.Given as goal

abbrev pub invariant-loop-rest : goal.invariant-loop-rest
invariant-loop-rest l = record {
  counted : l.number + length l.rest ≤ length l.bytes;
  width : l.script.settings.known.width ≡ l.n;
  said : content_to_come l.n l.script (numbered_lines (l.number + 1) (lines l.rest)) ≡ script_form l.bytes l.n;
}

abbrev pub decreases-loop-rest : goal.decreases-loop-rest
decreases-loop-rest l = length l.rest
