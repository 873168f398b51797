use Rattle.std.proofs.Common.{List, ◌++◌, sym, append_assoc}
use Rattle.std.specs.Prelude.{codes}
use Rattle.fca_model.specs.Tables.{Text}
use Rattle.fca_model.specs.Exploration.{SetEntry}
use Rattle.expert_wire.specs.Texts.{line_end}
use Rattle.expert_wire.specs.Replies.{reply_line}
use Rattle.expert_scripts.specs.Transcripts.{event_text, entry_lines}
use Rattle.expert_scripts.proofs.DraftLemmas.{Drafting, Drafting-start, Drafting-equal, Drafting-more, Drafting-fault, Drafting-last}
use Rattle.expert_scripts.proofs.transcript.write_entry.Goals as goal

begun : (d : Text) (attributes : List Text) (entry : SetEntry)
    → Drafting d d (entry_lines attributes entry)
    ((event_text entry.event ++ line_end) ++ (codes "# " ++ reply_line attributes entry.reply))
begun d attributes entry =
    Drafting-equal (sym (append_assoc (event_text entry.event) line_end (codes "# " ++ reply_line attributes entry.reply)))
    (Drafting-start d (entry_lines attributes entry))

pub returns-in_err-write_event-clause-front : goal.returns-in_err-write_event-clause-front
returns-in_err-write_event-clause-front c =
    let attributes = c.args.table.now.attributes in
    let entry : SetEntry = c.args.entry.now in
    Drafting-fault (event_text entry.event ++ line_end) (codes "# " ++ reply_line attributes entry.reply)
    (begun c.args.draft.now attributes entry) c.in_err-write_event.ensures.front

pub returns-in_err-append_parts-clause-front : goal.returns-in_err-append_parts-clause-front
returns-in_err-append_parts-clause-front c =
    let attributes = c.args.table.now.attributes in
    let entry : SetEntry = c.args.entry.now in
    Drafting-fault (codes "# ") (reply_line attributes entry.reply)
    (Drafting-more (event_text entry.event ++ line_end) (codes "# " ++ reply_line attributes entry.reply)
    (begun c.args.draft.now attributes entry) c.in_ok-write_event.ensures.whole)
    c.in_err-append_parts.ensures.front

pub returns-clause-front : goal.returns-clause-front
returns-clause-front c =
    let attributes = c.args.table.now.attributes in
    let entry : SetEntry = c.args.entry.now in
    Drafting-last (reply_line attributes entry.reply)
    (Drafting-more (codes "# ") (reply_line attributes entry.reply)
    (Drafting-more (event_text entry.event ++ line_end) (codes "# " ++ reply_line attributes entry.reply)
    (begun c.args.draft.now attributes entry) c.in_ok-write_event.ensures.whole)
    c.in_ok-append_parts.ensures.whole)
    c.append_reply.ensures.front
