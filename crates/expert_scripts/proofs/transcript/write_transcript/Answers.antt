use Rattle.exploration_terms.specs.Settings.{settings_of}
use Rattle.expert_scripts.specs.Transcripts.{entries_text, opening_text, transcript}
use Rattle.expert_scripts.proofs.DraftLemmas.{Drafting, Drafting-start, Drafting-more, Drafting-fault, Drafting-last}
use Rattle.expert_scripts.proofs.transcript.write_transcript.Goals as goal

pub returns-in_err-write_opening-clause-front : goal.returns-in_err-write_opening-clause-front
returns-in_err-write_opening-clause-front c =
    let s = settings_of c.args.settings.now in
    let attributes = c.args.table.now.attributes in
    Drafting-fault (opening_text attributes s) (entries_text attributes c.args.journal.now)
    (Drafting-start c.args.draft.now (transcript attributes s c.args.journal.now)) c.in_err-write_opening.ensures.front

pub returns-clause-front : goal.returns-clause-front
returns-clause-front c =
    let s = settings_of c.args.settings.now in
    let attributes = c.args.table.now.attributes in
    let entries = entries_text attributes c.args.journal.now in
    Drafting-last entries (Drafting-more (opening_text attributes s) entries
    (Drafting-start c.args.draft.now (transcript attributes s c.args.journal.now)) c.in_ok-write_opening.ensures.whole)
    c.write_entries.ensures.front
