use Rattle.std.proofs.Common.{◌∙◌, ◌++◌, ap, subst}
use Rattle.fca_model.specs.Tables.{NamedContext}
use Rattle.fca_model.specs.Exploration.{IsLegal, opening}
use Rattle.text_pieces.specs.Lists.{EachName}
use Rattle.basis_report.specs.Explorations.{EachNamed, explore_text}
use Rattle.basis_report.proofs.CommentLemmas.{spelled-comments}
use Rattle.basis_report.proofs.explorations.explore_text.Goals as goal

pub returns-clause-text : goal.returns-clause-text
returns-clause-text c =
    let o = c.args.explore.now.opening in
    c.into_bytes.ensures ∙ c.in_ok-write_exploration.ensures
    ∙ ap (λ d. d ++ explore_text o.table o.settings c.args.explore.now.journal) c.new-draft.ensures

pub returns-clause-reads_back : goal.returns-clause-reads_back
returns-clause-reads_back c = λ lines whole can.
    let o = c.args.explore.now.opening in
    let names = subst (λ (t : NamedContext). EachName t.attributes) c.table-table.ensures c.look_at_attributes.ensures in
    let named = subst EachNamed c.journal.ensures.entries c.look_at_rows.ensures in
    let legal = subst (IsLegal (opening o.table.context o.table.objects o.settings)) c.journal.ensures.entries c.journal.ensures.legal in
    spelled-comments o.table o.settings c.args.explore.now.journal lines names can named legal whole
