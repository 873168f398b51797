use Rattle.std.proofs.Common.{◌≡◌, ◌++◌}
use Rattle.basis_report.specs.Explorations.{explore_text}
use Rattle.serve_command.proofs.ServedLemmas.{words_are_lines, spelled-sessions}
use Rattle.serve_command.proofs.serving.output_of.Goals as goal

-- the sessions stand behind the text of the exploration, in lines that are skipped
pub returns-clause-spells : goal.returns-clause-spells
returns-clause-spells c =
    let value = c.deref.ensures.value in
    let told = c.in_ok-words.ensures in
    let law = words_are_lines c.args.ended.now in
    let skipped = c.in_ok-sessions.ensures.skipped cc in
    let items = c.in_ok-extend_from_slice.ensures.items in
    let first = c.in_ok-text.ensures.text in
    let behind = c.deref-2.ensures.value in
    let whole = c.whole.ensures in
    let joined : c.whole.result
    ≡ explore_text c.args.explore.now.opening.table c.args.explore.now.opening.settings c.args.explore.now.journal
    ++ c.in_ok-sessions.sessions.items = cc in
    spelled-sessions c.in_ok-sessions.sessions.items c.whole.result c.args.explore.now c.requires c.in_ok-text.ensures.reads_back skipped
    joined
