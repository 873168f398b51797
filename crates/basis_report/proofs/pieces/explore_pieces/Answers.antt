use Rattle.std.proofs.Common.{subst}
use Rattle.std.proofs.lemmas.Result.{IfOk-weaker}
use Rattle.fca_model.specs.Tables.{NamedContext}
use Rattle.fca_model.specs.Exploration.{IsLegal, opening}
use Rattle.text_pieces.specs.Lists.{EachName}
use Rattle.basis_report.specs.Explorations.{EachNamed}
use Rattle.basis_report.proofs.CommentLemmas.{spelled-comments}
use Rattle.basis_report.proofs.pieces.explore_pieces.Goals as goal

pub returns-clause-reads_back : goal.returns-clause-reads_back
returns-clause-reads_back g c =
    let o = c.args.explore.now.opening in
    let names = subst (λ (t : NamedContext). EachName t.attributes) c.table.ensures c.look_at_attributes.ensures in
    let named = subst EachNamed c.journal.ensures.entries c.look_at_rows.ensures in
    let legal = subst (IsLegal (opening o.table.context o.table.objects o.settings)) c.journal.ensures.entries c.journal.ensures.legal in
    IfOk-weaker c.make_pieces.result _ _ (λ pieces told. λ lines whole can. spelled-comments o.table o.settings c.args.explore.now.journal
    lines names can named legal whole) c.make_pieces.ensures
