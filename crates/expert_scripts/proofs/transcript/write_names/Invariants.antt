use Rattle.expert_scripts.specs.Transcripts.{names_text}
use Rattle.expert_scripts.proofs.NamedLemmas.{names_left}
use Rattle.expert_scripts.proofs.DraftLemmas.{Drafting}
use Rattle.expert_scripts.proofs.transcript.write_names.Given as goal

abbrev pub invariant-loop-expert : goal.invariant-loop-expert
invariant-loop-expert l = Drafting l.fn.draft l.draft (names_text l.names) (names_left l.names l.expert)
