use Rattle.std.proofs.Common.{◌≡◌, rules, true, false, length, get_or, set, sym, ap, ◌∙◌, subst, arith}
use Rattle.fca_model.specs.Sets.{Set}
use Rattle.fca_model.specs.Context.{Context, closure}
use Rattle.fca_model.proofs.SetLemmas.{not_within_at}
use Rattle.fca_model.proofs.StepLemmas.{first_missing_none}
use Rattle.fca_model.proofs.ClosureLemmas.{length-closure}
use Rattle.attr_bits.proofs.DifferenceLemmas.{first_missing-parts}
use Rattle.lattice_covers.proofs.chain.allowed_closure.Goals as goal

pub returns-then-implies-clause-closed : goal.returns-then-implies-clause-closed
returns-then-implies-clause-closed g c =
    not_within_at (closure c.args.rows.now (set c.args.link.now.intent c.args.i true)) c.args.allowed.now c.args.link.now.last_disallowed
    (c.implies.ensures c.if-implies.true) (c.lacks.ensures.lacks c.if-lacks.true)

pub returns-in-None-clause-closed : goal.returns-in-None-clause-closed
returns-in-None-clause-closed g c =
    let K : Context = c.args.rows.now in
    let A : Set = c.args.link.now.intent in
    let closed : c.closure_with-closed.result ≡ closure K (set A c.args.i true) = c.closure_with-closed.ensures in
    (closed, first_missing_none 0 c.closure_with-closed.result c.args.allowed.now (sym c.first_missing.ensures ∙ c.in-None.is))

pub note_missing-requires : goal.note_missing-requires
note_missing-requires g c = (
  search rules,
  (first_missing-parts c.closure_with-closed.result c.args.allowed.now c.in-Some.known
      (sym c.first_missing.ensures ∙ c.in-Some.is)).0,
)

pub later_missing-link-requires : goal.later_missing-link-requires
later_missing-link-requires g c =
    let K : Context = c.args.rows.now in
    let A : Set = c.args.link.now.intent in
    let closed : c.closure_with-closed.result ≡ closure K (set A c.args.i true) = c.closure_with-closed.ensures in
    let wide : length c.closure_with-closed.result ≡ K.width = ap length closed ∙ length-closure K (set A c.args.i true) in
    let further = first_missing-parts c.closure_with-closed.result c.args.allowed.now c.in-Some.known
    (sym c.first_missing.ensures ∙ c.in-Some.is) in
    (search rules, (further.0, (further.1, omega (arith, wide, c.requires.inside))))

pub returns-in-Some-clause-closed : goal.returns-in-Some-clause-closed
returns-in-Some-clause-closed g c =
    let K : Context = c.args.rows.now in
    let A : Set = c.args.link.now.intent in
    let closed : c.closure_with-closed.result ≡ closure K (set A c.args.i true) = c.closure_with-closed.ensures in
    let later = c.later_missing-link.result in
    not_within_at (closure K (set A c.args.i true)) c.args.allowed.now later
    (subst (λ (D : Set). get_or D later false ≡ true) closed c.later_missing-link.ensures.member) c.later_missing-link.ensures.lacks
