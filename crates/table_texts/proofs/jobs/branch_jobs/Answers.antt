use Rattle.std.proofs.Common.{◌∙◌, All, sym, ap, subst}
use Rattle.fca_model.specs.Context.{Context}
use Rattle.table_texts.specs.Tops.{IsTop, branches}
use Rattle.table_texts.proofs.TopLemmas.{All-jobs, branches-jobs}
use Rattle.table_texts.proofs.jobs.branch_jobs.Goals as goal

pub returns-clause-tops : goal.returns-clause-tops
returns-clause-tops g c =
    let K : Context = c.args.crosses.now in
    All-jobs (IsTop K) c.in_ok-jobs.jobs.items (subst (All (IsTop K)) (sym c.in_ok-jobs.ensures) c.requires)

pub returns-clause-branches : goal.returns-clause-branches
returns-clause-branches g c =
    let K : Context = c.args.crosses.now in
    branches-jobs K c.in_ok-jobs.jobs.items ∙ ap (branches K) c.in_ok-jobs.ensures
