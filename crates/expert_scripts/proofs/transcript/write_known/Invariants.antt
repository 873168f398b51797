use Rattle.std.proofs.Common.{drop}
use Rattle.std.specs.List.{flat_map}
use Rattle.expert_scripts.specs.Transcripts.{known_line}
use Rattle.expert_scripts.proofs.DraftLemmas.{Drafting}
use Rattle.expert_scripts.proofs.transcript.write_known.Given as goal

abbrev pub invariant-loop-implication : goal.invariant-loop-implication
invariant-loop-implication l =
    Drafting l.fn.draft l.draft (flat_map (known_line l.table.attributes) l.known)
    (flat_map (known_line l.table.attributes) (drop l.implication-index l.known))
