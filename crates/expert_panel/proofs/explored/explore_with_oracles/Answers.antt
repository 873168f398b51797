use Rattle.std.proofs.Common.{◌≡◌, ◌∙◌, ◌<◌, ◌≤◌, ◌⊎◌, ◌↔◌, ℕ, true, false, None, List, [], length, map, refl, sym, ap, subst, arith, All}
use Rattle.std.proofs.Common.{vec_len}
use Rattle.std.proofs.lemmas.List.{length-map}
use Rattle.std.specs.List.{list_all}
use Rattle.fca_model.specs.declared.TheConstants.{MAX_EXPERTS, MAX_OBJECTS, MAX_SURVEYED, MAX_TURNS}
use Rattle.fca_model.specs.Sets.{Set}
use Rattle.fca_model.specs.Context.{Context}
use Rattle.fca_model.specs.Tables.{NamedContext}
use Rattle.fca_model.specs.Implications.{Rule, holds}
use Rattle.fca_model.specs.Invariant.{rows_respect}
use Rattle.fca_model.specs.Exploration.{Settings, own, is_expert}
use Rattle.fca_model.proofs.RunLemmas.{expert_range}
use Rattle.implication_closure.specs.Closing.{HaveWidth}
use Rattle.explore_state.specs.History.{Opening, ExploreModel}
use Rattle.oracle_expert.specs.Oracles.{Recall, no_conflict, untold}
use Rattle.oracle_expert.specs.Runs.{ends_done}
use Rattle.oracle_expert.specs.Intents.{HasIntentsOf, are_intents}
use Rattle.expert_panel.specs.Explorations.{HasEnded, HasFewRows, IsOraclesShare, EachNumbered, IsWithinMostTurns, HasAgreed, HasEvenRows}
use Rattle.expert_panel.proofs.ShareLemmas.{untold_free}
use Rattle.expert_panel.proofs.EndingLemmas.{untold_all, untold_tables, tables_all, IfOk-mono}
use Rattle.expert_panel.proofs.CourseLemmas.{respecting_new, known_holds, within_turns, never_spent, agreed}
use Rattle.expert_panel.proofs.explored.explore_with_oracles.Goals as goal

as_many : (oracles before : List Recall) → map (λ (r : Recall). r.table) oracles ≡ map (λ (r : Recall). r.table) before
    → length oracles ≡ length before
as_many oracles before e = sym (length-map oracles (λ (r : Recall). r.table)) ∙ ap length e ∙ length-map before (λ (r : Recall). r.table)

one_width : (Ds : List NamedContext) (C : Context) (n : ℕ) → 1 ≤ length Ds → All (λ (D : NamedContext). HasIntentsOf C D.context) Ds
    → All (λ (D : NamedContext). D.context.width ≡ n) Ds → C.width ≡ n
one_width Ds C n some same wide =
    let bare : NamedContext = record { title = None; objects = []; attributes = []; context = C } in
    sym (same 0 bare (omega arith)).width ∙ wide 0 bare (omega arith)

-- from the exploration that was handed in to the base of the gate
based : (h : ExploreModel) (o : Opening) → o ≡ h.opening → rows_respect h.opening.settings.known h.opening.table.context ≡ true
    → rows_respect o.settings.known o.table.context ≡ true
based h o e respecting = subst (λ (p : Opening). rows_respect p.settings.known p.table.context ≡ true) (sym e) respecting

pub run_oracles-requires-clause-some : goal.run_oracles-requires-clause-some
run_oracles-requires-clause-some g c κs within =
    let range = (expert_range c.experts-experts.result c.experts-experts.ensures.limits).0 in
    let is = c.experts-experts.ensures.number in
    let count = c.in_ok-gate.ensures.counts.1 in
    omega arith

pub run_oracles-requires-clause-oracles : goal.run_oracles-requires-clause-oracles
run_oracles-requires-clause-oracles g c κs within =
    let many : length c.in_ok-oracles.oracles.items ≡ vec_len c.args.experts = ap length c.in_ok-oracles.ensures.untold
    ∙ length-map c.args.experts.items untold ∙ omega arith in
    let count = c.in_ok-gate.ensures.counts.1 in
    let all = c.requires.experts in
    omega arith

pub run_oracles-requires-clause-no_row_dropped : goal.run_oracles-requires-clause-no_row_dropped
run_oracles-requires-clause-no_row_dropped g c κs within =
    subst (All (λ (r : Recall). r.conflicts ≡ no_conflict r.table)) (sym c.in_ok-oracles.ensures.untold) (untold_free c.args.experts.items)

pub run_oracles-requires-clause-width : goal.run_oracles-requires-clause-width
run_oracles-requires-clause-width g c κs within =
    subst (λ (n : ℕ). All (λ (r : Recall). r.table.context.width ≡ n) c.in_ok-oracles.oracles.items)
    (sym (ap (λ (o : Opening). o.table.context.width) c.in_ok-gate.ensures.opening))
    (subst (All (λ (r : Recall). r.table.context.width ≡ c.args.explore.opening.table.context.width)) (sym c.in_ok-oracles.ensures.untold)
    (untold_all (λ (D : NamedContext). D.context.width ≡ c.args.explore.opening.table.context.width) c.args.experts.items c.requires.width))

pub run_oracles-requires-clause-known : goal.run_oracles-requires-clause-known
run_oracles-requires-clause-known g c κs within =
    based c.args.explore c.in_ok-gate.gate.base c.in_ok-gate.ensures.opening
    (respecting_new c.args.explore c.requires.new c.journal-journal.ensures.valid)

pub returns-clause-tables : goal.returns-clause-tables
returns-clause-tables g c =
    IfOk-mono (λ r. HasEnded c.in_ok-gate.gate c.in_ok-oracles.oracles.items r.explore r.oracles.items r.spent)
    (λ r. map (λ (o : Recall). o.table) r.oracles.items ≡ c.args.experts.items) c.run_oracles.result
    (λ r ended. ended.tables ∙ ap (map (λ (o : Recall). o.table)) c.in_ok-oracles.ensures.untold
    ∙ untold_tables c.args.experts.items) c.run_oracles.ensures

pub returns-clause-oracles : goal.returns-clause-oracles
returns-clause-oracles g c =
    IfOk-mono (λ r. HasEnded c.in_ok-gate.gate c.in_ok-oracles.oracles.items r.explore r.oracles.items r.spent)
    (λ r. EachNumbered (IsOraclesShare c.args.turns r.explore.journal) r.oracles.items) c.run_oracles.result
    (λ r ended. subst (λ (n : ℕ). EachNumbered (IsOraclesShare n r.explore.journal) r.oracles.items) c.in_ok-gate.ensures.counts.0
    ended.shares) c.run_oracles.ensures

pub returns-clause-others : goal.returns-clause-others
returns-clause-others g c =
    let many : length c.in_ok-oracles.oracles.items ≡ vec_len c.args.experts = ap length c.in_ok-oracles.ensures.untold
    ∙ length-map c.args.experts.items untold ∙ omega arith in
    IfOk-mono (λ r. HasEnded c.in_ok-gate.gate c.in_ok-oracles.oracles.items r.explore r.oracles.items r.spent)
    (λ r. (e : ℕ) → (e ≡ 0) ⊎ (vec_len c.args.experts < e) → own r.explore.journal e ≡ []) c.run_oracles.result
    (λ r ended. subst (λ (n : ℕ). (e : ℕ) → (e ≡ 0) ⊎ (n < e) → own r.explore.journal e ≡ []) many ended.others) c.run_oracles.ensures

pub returns-clause-spent : goal.returns-clause-spent
returns-clause-spent g c =
    let many : length c.in_ok-oracles.oracles.items ≡ vec_len c.args.experts = ap length c.in_ok-oracles.ensures.untold
    ∙ length-map c.args.experts.items untold ∙ omega arith in
    IfOk-mono (λ r. HasEnded c.in_ok-gate.gate c.in_ok-oracles.oracles.items r.explore r.oracles.items r.spent)
    (λ r. (r.spent ≡ true) ↔ ((e : ℕ) × (1 ≤ e) × (e ≤ vec_len c.args.experts) × (ends_done (own r.explore.journal e) ≡ false)))
    c.run_oracles.result
    (λ r ended. subst (λ (n : ℕ). (r.spent ≡ true)
    ↔ ((e : ℕ) × (1 ≤ e) × (e ≤ n) × (ends_done (own r.explore.journal e) ≡ false))) many ended.spent) c.run_oracles.ensures

pub returns-clause-bound : goal.returns-clause-bound
returns-clause-bound g c =
    let gate = c.in_ok-gate.gate in
    let before = c.in_ok-oracles.oracles.items in
    let respecting = based c.args.explore gate.base c.in_ok-gate.ensures.opening
    (respecting_new c.args.explore c.requires.new c.journal-journal.ensures.valid) in
    let holders : gate.base.settings.holders ≡ MAX_EXPERTS = ap (λ (o : Opening). o.settings.holders) c.in_ok-gate.ensures.opening
    ∙ c.requires.holders in
    let many : length before ≡ vec_len c.args.experts = ap length c.in_ok-oracles.ensures.untold ∙ length-map c.args.experts.items untold
    ∙ omega arith in
    let most = (expert_range c.experts-experts.result c.experts-experts.ensures.limits).1 in
    let number = c.experts-experts.ensures.number in
    let all = c.requires.experts in
    IfOk-mono (λ r. HasEnded gate before r.explore r.oracles.items r.spent)
    (λ r. EachNumbered (IsWithinMostTurns r.explore.journal) r.oracles.items) c.run_oracles.result
    (λ r ended. let same = as_many r.oracles.items before ended.tables in
    within_turns gate.base r.explore.journal gate.turns r.oracles.items respecting holders ended.is_legal (omega arith) ended.shares)
    c.run_oracles.ensures

pub returns-clause-unspent : goal.returns-clause-unspent
returns-clause-unspent g c =
    let gate = c.in_ok-gate.gate in
    let before = c.in_ok-oracles.oracles.items in
    let respecting = based c.args.explore gate.base c.in_ok-gate.ensures.opening
    (respecting_new c.args.explore c.requires.new c.journal-journal.ensures.valid) in
    let holders : gate.base.settings.holders ≡ MAX_EXPERTS = ap (λ (o : Opening). o.settings.holders) c.in_ok-gate.ensures.opening
    ∙ c.requires.holders in
    let table : gate.base.table ≡ c.args.explore.opening.table = ap (λ (o : Opening). o.table) c.in_ok-gate.ensures.opening in
    let many : length before ≡ vec_len c.args.experts = ap length c.in_ok-oracles.ensures.untold ∙ length-map c.args.experts.items untold
    ∙ omega arith in
    let most = (expert_range c.experts-experts.result c.experts-experts.ensures.limits).1 in
    let number = c.experts-experts.ensures.number in
    let experts = c.requires.experts in
    IfOk-mono (λ r. HasEnded gate before r.explore r.oracles.items r.spent)
    (λ r. c.args.turns ≡ MAX_TURNS → c.args.explore.opening.table.context.width ≤ MAX_SURVEYED → r.spent ≡ false) c.run_oracles.result
    (λ r ended all narrow.
    let same : length r.oracles.items ≡ length before = as_many r.oracles.items before ended.tables in
    let few : All HasFewRows r.oracles.items = tables_all
    (λ (D : NamedContext). length D.context.rows ≤ MAX_OBJECTS) r.oracles.items before ended.tables c.in_ok-oracles.ensures.few in
    never_spent gate.base r.explore.journal gate.turns r.oracles.items respecting holders ended.is_legal (omega arith) ended.shares r.spent
    (subst (λ (n : ℕ). (r.spent ≡ true) ↔ ((e : ℕ) × (1 ≤ e) × (e ≤ n) × (ends_done (own r.explore.journal e) ≡ false)))
    (sym same) ended.spent)
    few (c.in_ok-gate.ensures.counts.0 ∙ all) (subst (λ (K : NamedContext). K.context.width ≤ MAX_SURVEYED) (sym table) narrow))
    c.run_oracles.ensures

pub returns-clause-agreed : goal.returns-clause-agreed
returns-clause-agreed g c =
    let gate = c.in_ok-gate.gate in
    let before = c.in_ok-oracles.oracles.items in
    let respecting = based c.args.explore gate.base c.in_ok-gate.ensures.opening
    (respecting_new c.args.explore c.requires.new c.journal-journal.ensures.valid) in
    let holders : gate.base.settings.holders ≡ MAX_EXPERTS = ap (λ (o : Opening). o.settings.holders) c.in_ok-gate.ensures.opening
    ∙ c.requires.holders in
    let table : gate.base.table ≡ c.args.explore.opening.table = ap (λ (o : Opening). o.table) c.in_ok-gate.ensures.opening in
    let width : gate.base.table.context.width ≡ c.args.explore.opening.table.context.width =
    ap (λ (K : NamedContext). K.context.width) table in
    let S : List Rule = c.args.explore.opening.settings.known in
    let members = c.as_slice-known.ensures.members ∙ ap (λ (s : Settings). s.known) c.settings.ensures.settings in
    let even : HaveWidth c.args.explore.opening.table.context.width S =
    subst (λ (n : ℕ). HaveWidth n S) c.settings.ensures.width
    (subst (HaveWidth c.settings.result.now.known.width) members c.as_slice-known.ensures.even) in
    let many : length before ≡ vec_len c.args.experts = ap length c.in_ok-oracles.ensures.untold ∙ length-map c.args.experts.items untold
    ∙ omega arith in
    let range = expert_range c.experts-experts.result c.experts-experts.ensures.limits in
    let some = range.0 in
    let most = range.1 in
    let number = c.experts-experts.ensures.number in
    let experts = c.requires.experts in
    IfOk-mono (λ r. HasEnded gate before r.explore r.oracles.items r.spent)
    (λ r. (C : Context) → All (λ (D : NamedContext). HasIntentsOf C D.context) c.args.experts.items
    → are_intents C c.args.explore.opening.table.context.rows ≡ true → rows_respect S C ≡ true
    → HasAgreed C r.explore r.oracles.items r.spent) c.run_oracles.result
    (λ r ended C same part known.
    let as_long : length r.oracles.items ≡ length before = as_many r.oracles.items before ended.tables in
    let befores : All (λ (o : Recall). HasIntentsOf C o.table.context) before =
    subst (All (λ (o : Recall). HasIntentsOf C o.table.context)) (sym c.in_ok-oracles.ensures.untold)
    (untold_all (λ (D : NamedContext). HasIntentsOf C D.context) c.args.experts.items same) in
    let wide : C.width ≡ c.args.explore.opening.table.context.width =
    one_width c.args.experts.items C c.args.explore.opening.table.context.width (omega arith) same c.requires.width in
    agreed gate.base r.explore.journal gate.turns r.oracles.items respecting holders ended.is_legal (omega arith) ended.shares C
    (wide ∙ sym width) (subst (λ (K : NamedContext). are_intents C K.context.rows ≡ true) (sym table) part)
    (subst (λ (o : Opening). list_all (holds C) o.settings.known ≡ true) (sym c.in_ok-gate.ensures.opening)
    (known_holds S C c.args.explore.opening.table.context.width even wide known))
    (tables_all (λ (D : NamedContext). HasIntentsOf C D.context) r.oracles.items before ended.tables befores)
    (tables_all (λ (D : NamedContext). All (λ (row : Set). length row ≡ D.context.width) D.context.rows) r.oracles.items before ended.tables
    c.in_ok-oracles.ensures.even)
    (subst (λ (n : ℕ). (e : ℕ) → (e ≡ 0) ⊎ (n < e) → own r.explore.journal e ≡ []) (sym as_long) ended.others)
    r.explore r.spent ended.opening refl ended.finished) c.run_oracles.ensures
