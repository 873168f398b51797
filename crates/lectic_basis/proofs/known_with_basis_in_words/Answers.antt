use Rattle.std.proofs.Common.{◌≡◌, ◌++◌, length, true, false, replicate, sym, ap, ap₂, ◌∙◌, subst, arith}
use Rattle.std.specs.List.{list_all}
use Rattle.std.proofs.lemmas.Simd.{length-replicate}
use Rattle.fca_model.specs.Context.{Context}
use Rattle.fca_model.specs.Implications.{holds}
use Rattle.fca_model.specs.Pseudo.{basis_known}
use Rattle.implication_closure.specs.Closing.{RuleList, IsClosure}
use Rattle.lectic_basis.specs.Rows.{HaveSameRows}
use Rattle.lectic_basis.specs.Walks.{IsVisit}
use Rattle.lectic_basis.specs.Watches.{IsFiled, IsGood}
use Rattle.lectic_basis.proofs.RowLemmas.{same_rows_turned, same_rows_hold, same_rows_basis}
use Rattle.lectic_basis.proofs.TreeLemmas.{where_every}
use Rattle.lectic_basis.proofs.WalkLemmas.{root_visit}
use Rattle.lectic_basis.proofs.known_with_basis_in_words.Goals as goal

pub visit_all-requires : goal.visit_all-requires
visit_all-requires g c =
    let K : Context = c.in_ok-indexed.indexed in
    let L : RuleList = c.args.known.now in
    let same = subst (λ (X : Context). HaveSameRows X c.args.rows) (sym c.in_ok-indexed.ensures) c.in_ok-without_repetitions.ensures in
    let wide : L.width ≡ K.width = c.requires.wide ∙ sym same.width in
    let A = c.naive_closure-least.result in
    let F = c.in_ok-found.found in
    let is = root_visit L.members K A F (same_rows_hold c.args.rows K (same_rows_turned K c.args.rows same) L.members c.requires.holds)
    (subst (λ X. IsClosure L.members X A) (c.empty.ensures
    ∙ ap (λ n. replicate n false) (c.width.ensures.width ∙ wide)) c.naive_closure-least.ensures)
    (c.in_ok-found.ensures.list ∙ ap (λ n. record { width = n; members = L.members }) wide)
    (subst (λ (M : RuleList). IsFiled M.width M.members F.buckets) (sym c.in_ok-found.ensures.list) c.in_ok-found.ensures.filed)
    (subst (λ (M : RuleList). IsGood M.members F.buckets A) (sym c.in_ok-found.ensures.list) c.in_ok-found.ensures.good) in (
      omega arith,
      (
        omega arith,
        (
          omega (arith, c.width-width.ensures.words),
          subst (λ X. IsVisit L.members K X 0 F) (sym c.resize.ensures) is,
        ),
      ),
    )

pub resize-requires : goal.resize-requires
resize-requires g c =
    let K : Context = c.in_ok-indexed.indexed in
    let L : RuleList = c.args.known.now in
    let same = subst (λ (X : Context). HaveSameRows X c.args.rows) (sym c.in_ok-indexed.ensures) c.in_ok-without_repetitions.ensures in
    let known : L.width ≡ K.width = c.requires.wide ∙ sym same.width in
    let wide : length c.naive_closure-least.result ≡ L.width = c.naive_closure-least.ensures.wide ∙ ap length c.empty.ensures
    ∙ length-replicate c.width.result false ∙ c.width.ensures.width in (
      omega arith,
      (
        omega (arith, c.width-width.ensures.words),
        omega (
          arith,
          wide,
          known,
          ap (λ (X : Context). X.width) c.rows.ensures,
          c.width-width.ensures.width,
          c.width-width.ensures.narrow,
        ),
      ),
    )

pub returns : goal.returns
returns g c =
    let K : Context = c.in_ok-indexed.indexed in
    let J = c.args.known.now.members in
    let same = subst (λ (X : Context). HaveSameRows X c.args.rows) (sym c.in_ok-indexed.ensures) c.in_ok-without_repetitions.ensures in
    c.into_list.ensures ∙ c.in_ok-visit_all.ensures.found
    ∙ ap (λ Zs. record { width = K.width; members = Zs }) (where_every J K c.resize.result)
    ∙ ap₂ (λ n B. record { width = n; members = J ++ B }) same.width (same_rows_basis K c.args.rows same J c.requires.holds)
