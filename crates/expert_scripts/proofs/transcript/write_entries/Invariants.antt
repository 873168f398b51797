use Rattle.std.proofs.Common.{drop}
use Rattle.expert_scripts.specs.Transcripts.{entries_text}
use Rattle.expert_scripts.proofs.DraftLemmas.{Drafting}
use Rattle.expert_scripts.proofs.transcript.write_entries.Given as goal

abbrev pub invariant-loop-entry : goal.invariant-loop-entry
invariant-loop-entry l = Drafting l.fn.draft l.draft (entries_text l.table.attributes l.journal)
    (entries_text l.table.attributes (drop l.entry-index l.journal))
