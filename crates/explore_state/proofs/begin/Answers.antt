use Rattle.std.proofs.Common.{◌≡◌, ◌∙◌, sym, subst, true}
use Rattle.std.specs.List.{list_all}
use Rattle.fca_model.specs.Implications.{holds}
use Rattle.fca_model.proofs.ClosureLemmas.{known_hold}
use Rattle.implication_closure.specs.Closing.{HaveWidth}
use Rattle.exploration_terms.specs.Settings.{settings_of}
use Rattle.explore_state.proofs.OpenLemmas.{no_fault, wide_conclusions}
use Rattle.explore_state.proofs.begin.Goals as goal

pub open_known_by-requires-clause-hold : goal.open_known_by-requires-clause-hold
open_known_by-requires-clause-hold g c =
    let K = c.args.table.now.context in
    let S = c.args.settings.now.known.members in
    let told = no_fault K c.args.experts (settings_of c.args.settings.now) (sym c.open_fault.ensures ∙ c.in_default.is) in
    let even : HaveWidth c.args.settings.now.known.width S =
    subst (HaveWidth c.args.settings.now.known.width) c.as_slice-known.ensures.members c.as_slice-known.ensures.even in
    subst (λ L. list_all (holds L) S ≡ true) (sym c.rows.ensures.rows)
    (known_hold S K (wide_conclusions K.width S (subst (λ n. HaveWidth n S) c.requires even)) told.1)
