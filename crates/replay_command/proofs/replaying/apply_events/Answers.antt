use Rattle.std.proofs.Common.{◌≡◌, ◌∷◌, [], List, length, refl, sym, ap, subst, ◌∙◌, append_assoc, append-nil, arith}
use Rattle.std.proofs.lemmas.Bool.{and_parts}
use Rattle.std.specs.List.{list_all}
use Rattle.std.specs.Vec.Iter.{into_iter_items}
use Rattle.fca_model.specs.Exploration.{SetEvent}
use Rattle.exploration_terms.specs.Settings.{settings_of}
use Rattle.expert_scripts.specs.Scripts.{may_apply}
use Rattle.command_io.specs.Explorations.{exploration_of}
use Rattle.replay_command.specs.Replayed.{exploration_by}
use Rattle.replay_command.proofs.ReplayLemmas.{exploration_of-start, exploration_of-push, exploration_of-admits, no_items}
use Rattle.replay_command.proofs.replaying.apply_events.Goals as goal

-- the event at hand, and those behind it, may be applied
pub apply-requires : goal.apply-requires
apply-requires c =
    let inv = c.loop-event.invariant in
    let all = ap (list_all (may_apply c.args.table.context.width)) c.in-Some.ensures.steps.0 in
    exploration_of-admits _ _ c.loop-event.yielded c.loop-event.explore c.in-Some.event inv.3 (and_parts _ _ (sym all ∙ inv.2)).0

pub loop-event-init : goal.loop-event-init
loop-event-init c =
    let given = c.into_iter-event-iterator.ensures.into_iter_gives in (
      refl,
      given.1 ∙ c.args.events.ok.0 ∙ sym (ap length given.0),
      ap (list_all (may_apply c.args.table.context.width)) given.0 ∙ c.requires.may,
      exploration_of-start c.args.table (settings_of c.args.settings) c.in-Ok.explore c.in-Ok.ensures.opening c.in-Ok.ensures.journal,
    )

pub loop-event-preserved : goal.loop-event-preserved
loop-event-preserved c =
    let inv = c.loop-event.invariant in
    let all = ap (list_all (may_apply c.args.table.context.width)) c.in-Some.ensures.steps.0 in (
      append_assoc c.loop-event.yielded (c.in-Some.event ∷ []) _ ∙ rw (← c.in-Some.ensures.steps.0) inv.0,
      (let long = ap length c.in-Some.ensures.steps.0 in let gone = c.in-Some.ensures.steps.1 in let was = inv.1 in omega arith),
      (and_parts _ _ (sym all ∙ inv.2)).1,
      exploration_of-push c.args.table (settings_of c.args.settings) c.loop-event.yielded c.loop-event.explore c.apply.new.self c.in-Some.event
          c.in_ok-apply.field-0 inv.3 c.in_ok-apply.ensures.ok,
    )

pub returns : goal.returns
returns c =
    let inv = c.loop-event.invariant in
    let given = c.into_iter-event-iterator.ensures.into_iter_gives in
    let rest : into_iter_items c.loop-event.event-iterator ≡ [] = no_items _ (sym inv.1 ∙ c.in-None.ensures.steps.0) in
    let all = sym (append-nil c.loop-event.yielded) ∙ rw rest at inv.0 ∙ given.0 in
    let P : List SetEvent → Type 0 = λ events. exploration_of c.loop-event.explore ≡ exploration_by c.args.table
    (settings_of c.args.settings) events in
    subst P all inv.3
