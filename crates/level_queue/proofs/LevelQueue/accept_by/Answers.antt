use Rattle.std.proofs.Common.{◌∙◌, ◌≡◌, ◌+◌, ◌<◌, ◌≤◌, ◌++◌, ◌∷◌, [], true, length, ap, sym, subst, arith, slice_get}
use Rattle.fca_model.specs.Implications.{holds}
use Rattle.fca_model.specs.Invariant.{have_distinct_premises}
use Rattle.fca_model.specs.Levels.{HasBelow}
use Rattle.fca_model.specs.Questions.{open_questions}
use Rattle.implication_closure.specs.Closing.{RuleList}
use Rattle.std.specs.List.{list_all, remove}
use Rattle.level_queue.specs.Queue.{QueueModel, IsKeptQueue}
use Rattle.level_queue.specs.Rules.{RuleParts}
use Rattle.next_level.specs.Among.{AllAmong, IsAhead}
use Rattle.level_queue.proofs.AheadLemmas.{rule_ahead, ahead_all}
use Rattle.level_queue.proofs.AcceptLemmas.{accepted_base}
use Rattle.level_queue.proofs.OpenLemmas.{kept_open, accepted_premise, accepted_conclusion, accepted_kept, accepted_distinct}
use Rattle.level_queue.proofs.OpenLemmas.{accepted_below, accepted_bounded, opened_kept}
use Rattle.level_queue.proofs.LevelQueue.accept_by.Goals as goal

pub get-question-requires : goal.get-question-requires
get-question-requires g c = omega (
  arith,
  c.requires,
  ap length (kept_open c.self.invariant.kept),
  ap (λ (b : QueueModel). length (open_questions b.known b.context b.accepted)) c.self.view_is,
)

pub push-requires-clause-premise : goal.push-requires-clause-premise
push-requires-clause-premise g c =
    let l : c.args.i < length c.self.inside.level.questions =
    omega (
      arith,
      c.requires,
      ap length (kept_open c.self.invariant.kept),
      ap (λ (b : QueueModel). length (open_questions b.known b.context b.accepted)) c.self.view_is,
    ) in
    accepted_premise c.self.invariant.kept c.args.i c.get-question.result l c.get-question.ensures ∙ sym c.self.invariant.wide

pub push-requires-clause-conclusion : goal.push-requires-clause-conclusion
push-requires-clause-conclusion g c =
    let l : c.args.i < length c.self.inside.level.questions =
    omega (
      arith,
      c.requires,
      ap length (kept_open c.self.invariant.kept),
      ap (λ (b : QueueModel). length (open_questions b.known b.context b.accepted)) c.self.view_is,
    ) in
    accepted_conclusion c.self.invariant.kept c.args.i c.get-question.result l c.get-question.ensures ∙ sym c.self.invariant.wide

pub take_out-requires : goal.take_out-requires
take_out-requires g c = omega (
  arith,
  c.requires,
  ap length (kept_open c.self.invariant.kept),
  ap (λ (b : QueueModel). length (open_questions b.known b.context b.accepted)) c.self.view_is,
)

pub invariant_of-self-then-as_slice-gt1 : goal.invariant_of-self-then-as_slice-gt1
invariant_of-self-then-as_slice-gt1 g c =
    let a = c.self.inside in
    let q = c.get-question.result in
    let l : c.args.i < length c.self.inside.level.questions =
    omega (
      arith,
      c.requires,
      ap length (kept_open c.self.invariant.kept),
      ap (λ (b : QueueModel). length (open_questions b.known b.context b.accepted)) c.self.view_is,
    ) in
    let ok = c.in_ok-push.ensures.ok in
    record {
      wide = ap (λ (p : RuleParts). p.width) ok ∙ c.self.invariant.wide;
      kept = subst (λ qs. IsKeptQueue c.push.new.self.known a.rows a.level.size c.push.new.self.accepted qs) (sym c.take_out.ensures)
          (subst (λ (p : RuleParts). IsKeptQueue p.known a.rows a.level.size p.accepted (remove a.level.questions c.args.i)) (sym ok)
          (accepted_kept c.self.invariant.kept c.args.i q l c.get-question.ensures
          (omega (arith, c.if-as_slice-gt1.true, ap length c.as_slice.ensures))));
      ahead_wide = c.self.invariant.ahead_wide;
      ahead = subst (λ (p : RuleParts). IsAhead (p.known ++ p.accepted) a.rows a.level.size a.level.ahead.whole a.level.ahead.sets.rows)
          (sym ok) (rule_ahead a.rules.known a.rules.accepted a.rows a.level.size a.level.ahead.whole a.level.ahead.sets.rows q
          c.self.invariant.ahead);
    }

pub open_level-requires : goal.open_level-requires
open_level-requires g c =
    let a = c.self.inside in
    let q = c.get-question.result in
    let l : c.args.i < length c.self.inside.level.questions =
    omega (
      arith,
      c.requires,
      ap length (kept_open c.self.invariant.kept),
      ap (λ (b : QueueModel). length (open_questions b.known b.context b.accepted)) c.self.view_is,
    ) in
    let ok = c.in_ok-push.ensures.ok in
    let last : length a.level.questions ≤ 1 = omega (arith, c.if-as_slice-gt1.false, ap length c.as_slice.ensures) in
    let all = ahead_all a.rules.known (a.rules.accepted ++ q ∷ []) a.rows a.level.size a.level.ahead.whole a.level.ahead.sets.rows
    (accepted_below c.self.invariant.kept c.args.i q l c.get-question.ensures last)
    (rule_ahead a.rules.known a.rules.accepted a.rows a.level.size a.level.ahead.whole a.level.ahead.sets.rows q c.self.invariant.ahead) in
    record {
      wide = ap (λ (J : RuleList). J.width) c.all.ensures ∙ ap (λ (p : RuleParts). p.width) ok ∙ c.self.invariant.wide;
      ahead_wide = c.self.invariant.ahead_wide;
      among = subst (λ (J : RuleList). AllAmong J.members a.rows a.level.ahead.whole a.level.ahead.sets.rows) (sym c.all.ensures)
          (subst (λ (p : RuleParts). AllAmong (p.known ++ p.accepted) a.rows a.level.ahead.whole a.level.ahead.sets.rows) (sym ok) all);
    }

pub returns-then-as_slice-gt1-clause-ok : goal.returns-then-as_slice-gt1-clause-ok
returns-then-as_slice-gt1-clause-ok g c question at =
    let a = c.self.inside in
    let l : c.args.i < length c.self.inside.level.questions =
    omega (
      arith,
      c.requires,
      ap length (kept_open c.self.invariant.kept),
      ap (λ (b : QueueModel). length (open_questions b.known b.context b.accepted)) c.self.view_is,
    ) in
    accepted_base a.rows a.rules c.push.new.self a.level.questions c.args.self.now c.args.i c.get-question.result question c.self.view_is
    c.in_ok-push.ensures.ok l c.get-question.ensures
    (ap (λ qs. slice_get qs c.args.i) (kept_open c.self.invariant.kept
    ∙ ap (λ (b : QueueModel). open_questions b.known b.context b.accepted) c.self.view_is) ∙ at)

pub invariant_of-self-in-Ok : goal.invariant_of-self-in-Ok
invariant_of-self-in-Ok g c =
    let a = c.self.inside in
    let q = c.get-question.result in
    let l : c.args.i < length c.self.inside.level.questions =
    omega (
      arith,
      c.requires,
      ap length (kept_open c.self.invariant.kept),
      ap (λ (b : QueueModel). length (open_questions b.known b.context b.accepted)) c.self.view_is,
    ) in
    let ok = c.in_ok-push.ensures.ok in
    let last : length a.level.questions ≤ 1 = omega (arith, c.if-as_slice-gt1.false, ap length c.as_slice.ensures) in
    record {
      wide = ap (λ (p : RuleParts). p.width) ok ∙ c.self.invariant.wide;
      kept = opened_kept
          (subst (λ (p : RuleParts). list_all (holds a.rows) p.known ≡ true) (sym ok) c.self.invariant.kept.hold)
          (subst (λ (p : RuleParts). have_distinct_premises p.accepted ≡ true) (sym ok)
          (accepted_distinct c.self.invariant.kept c.args.i q l c.get-question.ensures))
          (c.in-Ok.ensures.next c.push.new.self.known c.push.new.self.accepted (a.level.size + 1)
          (ap (λ (J : RuleList). J.members) c.all.ensures)
          (subst (λ (p : RuleParts). HasBelow p.known a.rows (a.level.size + 1) p.accepted) (sym ok)
          (accepted_below c.self.invariant.kept c.args.i q l c.get-question.ensures last))
          (accepted_bounded c.self.invariant.kept c.args.i q l c.get-question.ensures));
      ahead_wide = c.in-Ok.ensures.ahead_wide;
      ahead = subst (λ (J : RuleList). IsAhead J.members a.rows c.in-Ok.next.size c.in-Ok.next.ahead.whole c.in-Ok.next.ahead.sets.rows)
          c.all.ensures c.in-Ok.ensures.ahead;
    }

pub returns-in-Ok-clause-ok : goal.returns-in-Ok-clause-ok
returns-in-Ok-clause-ok g c question at =
    let a = c.self.inside in
    let l : c.args.i < length c.self.inside.level.questions =
    omega (
      arith,
      c.requires,
      ap length (kept_open c.self.invariant.kept),
      ap (λ (b : QueueModel). length (open_questions b.known b.context b.accepted)) c.self.view_is,
    ) in
    accepted_base a.rows a.rules c.push.new.self a.level.questions c.args.self.now c.args.i c.get-question.result question c.self.view_is
    c.in_ok-push.ensures.ok l c.get-question.ensures
    (ap (λ qs. slice_get qs c.args.i) (kept_open c.self.invariant.kept
    ∙ ap (λ (b : QueueModel). open_questions b.known b.context b.accepted) c.self.view_is) ∙ at)
