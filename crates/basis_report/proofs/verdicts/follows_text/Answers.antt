use Rattle.std.proofs.Common.{◌++◌, position, sym, ap, ap₂, ◌∙◌}
use Rattle.fca_model.specs.Implications.{rule, refutes}
use Rattle.basis_report.specs.Verdicts.{derivation_text, refutation_text}
use Rattle.basis_report.proofs.VerdictLemmas.{unrefuted_follows, written_refuted, written_held}
use Rattle.basis_report.proofs.verdicts.follows_text.Goals as goal
use Rattle.basis_report.proofs.verdicts.follows_text.Goals.{in-Some+in_ok-write_refutation-in-Some}
use Rattle.basis_report.proofs.verdicts.follows_text.Goals.{in-None+in_ok-derivation-in-None+in_ok-write_derivation-in-None}

pub derivation_of-requires-clause-follows : goal.derivation_of-requires-clause-follows
derivation_of-requires-clause-follows c =
    let found = c.refuter.ensures ∙ ap (λ K. position (λ row. refutes row (rule c.args.p.now c.args.c.now)) K.rows) c.rows.ensures.rows in
    unrefuted_follows c.args.table.now c.args.list.now c.args.p.now c.args.c.now c.requires.basis c.requires.premise c.requires.conclusion
    (sym found ∙ c.in-None.is)

pub returns : goal.returns
returns c =
    let found = c.refuter.ensures ∙ ap (λ K. position (λ row. refutes row (rule c.args.p.now c.args.c.now)) K.rows) c.rows.ensures.rows in
    elim c.match-refuter.branch [
      | in-Some+in_ok-write_refutation-in-Some w ↦
          written_refuted c.args.table.now c.args.list.now.members c.args.p.now c.args.c.now _ c.into_bytes.result.items
          (sym found ∙ w.in-Some.is)
          (c.into_bytes.ensures ∙ w.draft-is ∙ w.in_ok-write_refutation-in-Some.ensures
          ∙ ap (λ d. d ++ refutation_text c.args.table.now w.in-Some.place) c.new-draft.ensures)
      | in-None+in_ok-derivation-in-None+in_ok-write_derivation-in-None w ↦
          written_held c.args.table.now c.args.list.now c.args.p.now c.args.c.now _ c.into_bytes.result.items
          (ap (λ J. J.width) c.requires.basis) (sym found ∙ w.in-None.is) w.in_ok-derivation-in-None.ensures.derivation
          (c.into_bytes.ensures ∙ w.draft-is ∙ w.in_ok-write_derivation-in-None.ensures
          ∙ ap (λ d. d ++ derivation_text c.args.table.now.attributes w.as_slice.result.now w.as_slice-in-None.result.now)
          c.new-draft.ensures
          ∙ ap₂ (derivation_text c.args.table.now.attributes) w.as_slice.ensures.members w.as_slice-in-None.ensures)
    ]
