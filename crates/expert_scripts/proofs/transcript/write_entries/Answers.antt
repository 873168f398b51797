use Rattle.std.proofs.Common.{add-one}
use Rattle.expert_scripts.specs.Transcripts.{entries_text}
use Rattle.expert_scripts.proofs.DraftLemmas.{entries_text-drop, entries_text-past, Drafting-start, Drafting-equal, Drafting-more}
use Rattle.expert_scripts.proofs.DraftLemmas.{Drafting-fault, Drafting-end, front-whole}
use Rattle.expert_scripts.proofs.transcript.write_entries.Goals as goal

pub loop-entry-init : goal.loop-entry-init
loop-entry-init c = Drafting-start c.args.draft.now (entries_text c.args.table.now.attributes c.args.journal.now)

pub loop-entry-preserved : goal.loop-entry-preserved
loop-entry-preserved c = rw add-one (Drafting-more _ _
    (Drafting-equal (entries_text-drop c.args.table.now.attributes c.args.journal.now c.loop-entry.entry-index c.entry-item.result
    c.loop-entry-test.true c.entry-item.is) c.loop-entry.invariant) c.in_ok-write_entry.ensures.whole)

pub returns-in_err-write_entry-clause-front : goal.returns-in_err-write_entry-clause-front
returns-in_err-write_entry-clause-front c = Drafting-fault _ _
    (Drafting-equal (entries_text-drop c.args.table.now.attributes c.args.journal.now c.loop-entry.entry-index c.entry-item.result
    c.loop-entry-test.true c.entry-item.is) c.loop-entry.invariant) c.in_err-write_entry.ensures.front

pub returns-clause-whole : goal.returns-clause-whole
returns-clause-whole c = Drafting-end (Drafting-equal
    (entries_text-past c.args.table.now.attributes c.args.journal.now c.loop-entry.entry-index c.loop-entry-test.false)
    c.loop-entry.invariant)

pub returns-clause-front : goal.returns-clause-front
returns-clause-front c = front-whole (entries_text c.args.table.now.attributes c.args.journal.now)
    (Drafting-end (Drafting-equal (entries_text-past c.args.table.now.attributes c.args.journal.now c.loop-entry.entry-index
    c.loop-entry-test.false) c.loop-entry.invariant))
