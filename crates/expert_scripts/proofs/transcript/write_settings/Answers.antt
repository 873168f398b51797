use Rattle.std.proofs.Common.{◌++◌}
use Rattle.std.specs.Prelude.{codes, decimal}
use Rattle.std.specs.List.{flat_map}
use Rattle.fca_model.specs.Tables.{Text}
use Rattle.expert_wire.specs.Texts.{line_end}
use Rattle.expert_scripts.specs.Transcripts.{known_line, names_text}
use Rattle.expert_scripts.proofs.DraftLemmas.{Drafting-start, Drafting-more, Drafting-fault, Drafting-last}
use Rattle.expert_scripts.proofs.transcript.write_settings.Goals as goal

pub returns-in_err-append_parts-clause-front : goal.returns-in_err-append_parts-clause-front
returns-in_err-append_parts-clause-front c =
    let held : Text = (codes "holders " ++ decimal c.args.settings.now.holders) ++ line_end in
    let rest : Text = flat_map (known_line c.args.table.now.attributes) c.args.settings.now.known.members
    ++ names_text c.args.settings.now.names in
    Drafting-fault held rest (Drafting-start c.args.draft.now (held ++ rest))
    (rw c.from-holders.ensures at c.in_err-append_parts.ensures.front)

pub returns-in_err-write_known-clause-front : goal.returns-in_err-write_known-clause-front
returns-in_err-write_known-clause-front c =
    let held : Text = (codes "holders " ++ decimal c.args.settings.now.holders) ++ line_end in
    let known : Text = flat_map (known_line c.args.table.now.attributes) c.args.settings.now.known.members in
    let names : Text = names_text c.args.settings.now.names in
    Drafting-fault known names (Drafting-more held (known ++ names) (Drafting-start c.args.draft.now (held ++ (known ++ names)))
    (rw c.from-holders.ensures at c.in_ok-append_parts.ensures.whole))
    (rw c.as_slice.ensures.members at c.in_err-write_known.ensures.front)

pub returns-clause-front : goal.returns-clause-front
returns-clause-front c =
    let held : Text = (codes "holders " ++ decimal c.args.settings.now.holders) ++ line_end in
    let known : Text = flat_map (known_line c.args.table.now.attributes) c.args.settings.now.known.members in
    let names : Text = names_text c.args.settings.now.names in
    Drafting-last names
    (Drafting-more known names (Drafting-more held (known ++ names) (Drafting-start c.args.draft.now (held ++ (known ++ names)))
    (rw c.from-holders.ensures at c.in_ok-append_parts.ensures.whole))
    (rw c.as_slice.ensures.members at c.in_ok-write_known.ensures.whole))
    c.write_names.ensures.front
