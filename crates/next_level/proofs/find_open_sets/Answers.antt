use Rattle.std.proofs.Common.{◌≡◌, ◌≤◌, [], length, vec_len, eq-eqb, sym, ap, ◌∙◌, arith}
use Rattle.std.proofs.lemmas.Bool.{false≢true}
use Rattle.std.proofs.lemmas.Result.{IfOk-weaker}
use Rattle.fca_model.specs.Context.{Context}
use Rattle.next_level.proofs.find_open_sets.Goals as goal

pub returns-then-not-is_empty-clause-all : goal.returns-then-not-is_empty-clause-all
returns-then-not-is_empty-clause-all g c e =
    let members = c.in_ok-seen.seen.members in
    absurd (false≢true (sym c.if-not-is_empty.true ∙ c.is_empty.ensures
    ∙ eq-eqb (vec_len members) 0 (omega (arith, members.ok.0, ap length e))))

pub returns-in-Ok-clause-all : goal.returns-in-Ok-clause-all
returns-in-Ok-clause-all g c e =
    let n : c.width-bound.result ≡ c.args.walk.now.indexed.width = c.width-bound.ensures.width
    ∙ ap (λ (X : Context). X.width) c.rows.ensures in
    let le = c.in-Ok.ensures.kept e in
    omega (arith, n, le)

pub returns-in-Err-clause-all : goal.returns-in-Err-clause-all
returns-in-Err-clause-all g c =
    let n : c.width-bound.result ≡ c.args.walk.now.indexed.width = c.width-bound.ensures.width
    ∙ ap (λ (X : Context). X.width) c.rows.ensures in
    IfOk-weaker c.open_sets_up_to-in-Err.result (λ sets. sets.members.items ≡ [] → c.width-bound.result ≤ sets.bound)
    (λ sets. sets.members.items ≡ [] → c.args.walk.now.indexed.width ≤ sets.bound)
    (λ sets h e. let le = h e in omega (arith, n, le)) c.open_sets_up_to-in-Err.ensures.kept
