use Rattle.std.proofs.Common.{◌≡◌, ℕ, true, ap, ◌∙◌}
use Rattle.std.proofs.lemmas.Result.{IfOk-weaker}
use Rattle.fca_model.specs.Sets.{same}
use Rattle.fca_model.specs.Context.{Context, is_closed}
use Rattle.fca_model.proofs.SetLemmas.{within_refl}
use Rattle.lectic_concepts.specs.Branches.{branch}
use Rattle.lectic_concepts.proofs.BranchLemmas.{among, closure_among, branch_among}
use Rattle.lectic_concepts.proofs.children.rows_above.Goals as goal

pub returns-clause-width : goal.returns-clause-width
returns-clause-width g c =
    IfOk-weaker c.supersets.result (λ (X : Context). X ≡ among c.args.rows.now c.args.a.now) (λ X. X.width ≡ c.args.rows.now.width)
    (λ X e. ap (λ Y. Y.width) e) c.supersets.ensures

pub returns-clause-closed : goal.returns-clause-closed
returns-clause-closed g c =
    IfOk-weaker c.supersets.result (λ (X : Context). X ≡ among c.args.rows.now c.args.a.now) (λ X. is_closed X c.args.a.now ≡ true)
    (λ X e. ap (λ Y. is_closed Y c.args.a.now) e ∙ ap (same c.args.a.now)
    (closure_among c.args.rows.now c.args.a.now c.args.a.now (within_refl c.args.a.now)) ∙ c.requires.closed)
    c.supersets.ensures

pub returns-clause-branch : goal.returns-clause-branch
returns-clause-branch g c =
    IfOk-weaker c.supersets.result (λ (X : Context). X ≡ among c.args.rows.now c.args.a.now)
    (λ X. (k : ℕ) → branch X c.args.a.now k ≡ branch c.args.rows.now c.args.a.now k)
    (λ X e k. ap (λ Y. branch Y c.args.a.now k) e ∙ branch_among c.args.rows.now c.args.a.now k)
    c.supersets.ensures
