use Rattle.std.proofs.Common.{◌≡◌, ◌++◌, position, sym, ap, ◌∙◌}
use Rattle.std.proofs.lemmas.Result.{IfOk-weaker}
use Rattle.fca_model.specs.Context.{Context}
use Rattle.fca_model.specs.Implications.{rule, refutes}
use Rattle.fca_model.specs.Pseudo.{basis}
use Rattle.implication_closure.specs.Closing.{RuleList}
use Rattle.basis_report.specs.Verdicts.{refutation_text, follows_text}
use Rattle.basis_report.proofs.VerdictLemmas.{written_refuted}
use Rattle.basis_report.proofs.verdicts.verdict_text.Goals as goal

pub follows_text-requires-clause-basis : goal.follows_text-requires-clause-basis
follows_text-requires-clause-basis g c =
    c.in_ok-list.ensures.members ∙ ap (λ (K : Context). record { width = K.width; members = basis K }) c.rows-2.ensures.rows

pub returns-in-Some : goal.returns-in-Some
returns-in-Some g c =
    let found = c.refuter.ensures ∙ ap (λ (K : Context). position (λ row. refutes row (rule c.args.p.now c.args.c.now)) K.rows)
    c.rows.ensures.rows in
    written_refuted c.args.table.now (basis c.args.table.now.context) c.args.p.now c.args.c.now c.in-Some.place c.into_bytes.result.items
    (sym found ∙ c.in-Some.is)
    (c.into_bytes.ensures ∙ c.in_ok-write_refutation.ensures
    ∙ ap (λ d. d ++ refutation_text c.args.table.now c.in-Some.place) c.new-draft.ensures)

pub returns : goal.returns
returns g c =
    IfOk-weaker c.follows_text.result (λ v. v.items ≡ follows_text c.args.table.now c.in_ok-list.list.members c.args.p.now c.args.c.now)
    (λ v. v.items ≡ follows_text c.args.table.now (basis c.args.table.now.context) c.args.p.now c.args.c.now)
    (λ v e. e ∙ ap (λ (L : RuleList). follows_text c.args.table.now L.members c.args.p.now c.args.c.now)
    (c.in_ok-list.ensures.members ∙ ap (λ (K : Context). record { width = K.width; members = basis K }) c.rows-2.ensures.rows))
    c.follows_text.ensures
