use Rattle.std.proofs.Common.{[], ap, sym, ◌∙◌, append-nil}
use Rattle.expert_wire.proofs.SkipLemmas.{Skips-nil}
use Rattle.expert_scripts.specs.Scripts.{script_form}
use Rattle.expert_scripts.specs.Transcripts.{transcript}
use Rattle.expert_scripts.proofs.TranscriptLemmas.{script_form-transcript}
use Rattle.expert_scripts.proofs.laws.transcript_reads_back.Goals as goal

pub returns : goal.returns
returns c = λ n attributes settings H names can said.
    ap (λ t. script_form t n) (sym (append-nil (transcript attributes settings H)))
    ∙ script_form-transcript n attributes settings H [] names can said Skips-nil
