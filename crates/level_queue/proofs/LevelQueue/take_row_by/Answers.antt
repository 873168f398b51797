use Rattle.std.proofs.Common.{◌∙◌, ◌≡◌, ◌+◌, ◌≤◌, ◌++◌, true, map, refl, sym, ap, subst}
use Rattle.std.specs.List.{list_all}
use Rattle.fca_model.specs.Context.{Context, with_row}
use Rattle.fca_model.specs.Implications.{holds, respects_all}
use Rattle.fca_model.specs.Levels.{HasBelow}
use Rattle.implication_closure.specs.Closing.{RuleList}
use Rattle.level_queue.specs.Queue.{QueueModel, IsKeptQueue, narrowed, still_open}
use Rattle.next_level.specs.Among.{AllAmong, IsAhead}
use Rattle.level_queue.proofs.AheadLemmas.{row_ahead, ahead_all}
use Rattle.level_queue.proofs.OpenLemmas.{kept_unclosed, row_kept, row_hold, row_below, row_bounded, opened_kept}
use Rattle.level_queue.proofs.PlaceLemmas.{settles, settled, not_settled}
use Rattle.level_queue.proofs.LevelQueue.take_row_by.Goals as goal

pub invariant_of-self-then-not-closes_all : goal.invariant_of-self-then-not-closes_all
invariant_of-self-then-not-closes_all g c =
    let a = c.self.inside in
    let r = c.args.row in
    let respecting = ap (λ (b : QueueModel). respects_all (b.known ++ b.accepted) r) c.self.view_is ∙ c.requires.respecting in
    record {
      wide = c.self.invariant.wide ∙ sym (ap (λ (K : Context). K.width) c.in_ok-push.ensures.ok);
      kept = subst (λ (K : Context). IsKeptQueue a.rules.known K a.level.size a.rules.accepted c.narrow.new.self) (sym c.in_ok-push.ensures.ok)
          (row_kept c.self.invariant.kept r respecting c.narrow.new.self c.narrow.ensures
          (λ none. not_settled r a.level.questions
          (sym (c.closes_all.ensures ∙ ap (settles r) c.as_slice.ensures) ∙ c.if-not-closes_all.true)
          (sym c.narrow.ensures ∙ none)));
      ahead_wide = c.self.invariant.ahead_wide ∙ sym (ap (λ (K : Context). K.width) c.in_ok-push.ensures.ok);
      ahead = subst
          (λ (K : Context). IsAhead (a.rules.known ++ a.rules.accepted) K a.level.size a.level.ahead.whole a.level.ahead.sets.rows)
          (sym c.in_ok-push.ensures.ok) (row_ahead (a.rules.known ++ a.rules.accepted) a.rows a.level.size a.level.ahead.whole
          a.level.ahead.sets.rows r c.self.invariant.ahead);
    }

pub narrow-requires : goal.narrow-requires
narrow-requires g c = kept_unclosed c.self.invariant.kept

pub open_level-requires : goal.open_level-requires
open_level-requires g c =
    let a = c.self.inside in
    let r = c.args.row in
    let ok = c.in_ok-push.ensures.ok in
    let respecting = ap (λ (b : QueueModel). respects_all (b.known ++ b.accepted) r) c.self.view_is ∙ c.requires.respecting in
    let none = settled r a.level.questions (sym (c.closes_all.ensures ∙ ap (settles r) c.as_slice.ensures) ∙ c.if-not-closes_all.false) in
    let below = row_below c.self.invariant.kept r respecting (still_open (map (narrowed r) a.level.questions)) refl none.1 in
    let all = ahead_all a.rules.known a.rules.accepted (with_row a.rows r) a.level.size a.level.ahead.whole a.level.ahead.sets.rows below
    (row_ahead (a.rules.known ++ a.rules.accepted) a.rows a.level.size a.level.ahead.whole a.level.ahead.sets.rows r
    c.self.invariant.ahead) in
    record {
      wide = ap (λ (J : RuleList). J.width) c.all.ensures ∙ c.self.invariant.wide ∙ sym (ap (λ (K : Context). K.width) ok);
      ahead_wide = c.self.invariant.ahead_wide ∙ sym (ap (λ (K : Context). K.width) ok);
      among = subst (λ (J : RuleList). AllAmong J.members c.push.new.self a.level.ahead.whole a.level.ahead.sets.rows) (sym c.all.ensures)
          (subst (λ (K : Context). AllAmong (a.rules.known ++ a.rules.accepted) K a.level.ahead.whole a.level.ahead.sets.rows)
          (sym ok) all);
    }

pub invariant_of-self-in-Ok : goal.invariant_of-self-in-Ok
invariant_of-self-in-Ok g c =
    let a = c.self.inside in
    let r = c.args.row in
    let ok = c.in_ok-push.ensures.ok in
    let respecting = ap (λ (b : QueueModel). respects_all (b.known ++ b.accepted) r) c.self.view_is ∙ c.requires.respecting in
    let none = settled r a.level.questions (sym (c.closes_all.ensures ∙ ap (settles r) c.as_slice.ensures) ∙ c.if-not-closes_all.false) in
    record {
      wide = c.self.invariant.wide ∙ sym (ap (λ (K : Context). K.width) ok);
      kept = opened_kept
          (subst (λ (K : Context). list_all (holds K) a.rules.known ≡ true) (sym ok) (row_hold c.self.invariant.kept r respecting))
          c.self.invariant.kept.distinct
          (c.in-Ok.ensures.next a.rules.known a.rules.accepted (a.level.size + 1) (ap (λ (J : RuleList). J.members) c.all.ensures)
          (subst (λ (K : Context). HasBelow a.rules.known K (a.level.size + 1) a.rules.accepted) (sym ok)
          (row_below c.self.invariant.kept r respecting (still_open (map (narrowed r) a.level.questions)) refl none.1))
          (subst (λ (K : Context). a.level.size + 1 ≤ K.width + 1) (sym ok) (row_bounded c.self.invariant.kept r respecting none.0)));
      ahead_wide = c.in-Ok.ensures.ahead_wide;
      ahead = subst (λ (J : RuleList). IsAhead J.members c.push.new.self c.in-Ok.next.size c.in-Ok.next.ahead.whole
          c.in-Ok.next.ahead.sets.rows) c.all.ensures c.in-Ok.ensures.ahead;
    }
