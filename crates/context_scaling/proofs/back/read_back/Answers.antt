use Rattle.std.proofs.Common.{◌≡◌, ◌∙◌, ◌++◌, suc, drop, sym, ap, subst}
use Rattle.fca_model.specs.Sets.{Set}
use Rattle.value_tables.specs.Values.{object_at, value_at}
use Rattle.context_scaling.specs.Scaling.{scale_row, object_row}
use Rattle.context_scaling.specs.Back.{GivesBack, back_by, begin_of, plan_record_at}
use Rattle.context_scaling.specs.declared.back.Back.{Back}
use Rattle.context_scaling.proofs.BackLemmas.{row_from}
use Rattle.context_scaling.proofs.BackLaw.{gives_back, stands_once}
use Rattle.context_scaling.proofs.back.read_back.Goals as goal

pub returns-clause-value : goal.returns-clause-value
returns-clause-value c = λ t g fits row_is.
    let plan = c.args.plan.now in
    let k = c.args.k in
    let s = plan_record_at plan k in
    let text = value_at s.place (object_at t g) in
    let rest = object_row (drop (suc k) plan) (object_at t g) in
    let marks : drop (begin_of plan k) c.args.row.now ≡ scale_row s text ++ rest = ap (drop (begin_of plan k)) row_is
    ∙ row_from plan k (object_at t g) c.requires.record in
    let Q : Set → Type 0 = λ m. GivesBack s.kind s.values text (back_by s.kind s.values m) in
    let given = subst Q (sym marks) (gives_back s.kind s.values text rest
    (λ nominal. stands_once plan k c.requires.record nominal text fits.differing)) in
    let P : Back → Type 0 = λ told. GivesBack s.kind s.values text told in
    subst P (sym c.back_at.ensures) given
