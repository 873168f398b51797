use Rattle.std.proofs.Common.{◌∙◌, ◌≡◌, true, sym, ap, subst, arith}
use Rattle.std.specs.List.{list_all}
use Rattle.fca_model.specs.Context.{Context}
use Rattle.fca_model.specs.Implications.{holds}
use Rattle.fca_model.specs.Invariant.{have_distinct_premises}
use Rattle.fca_model.specs.Levels.{HasBelow}
use Rattle.fca_model.proofs.LevelLemmas.{has_none}
use Rattle.implication_closure.specs.Closing.{RuleList}
use Rattle.level_queue.specs.Rules.{RuleParts}
use Rattle.next_level.specs.Among.{IsAhead}
use Rattle.level_queue.proofs.OpenLemmas.{opened_kept}
use Rattle.next_level.proofs.NextLevelLemmas.{unknown_among}
use Rattle.level_queue.proofs.LevelQueue.open_known_by.Goals as goal

pub open_level-requires : goal.open_level-requires
open_level-requires g c = record {
  wide = ap (λ (J : RuleList). J.width) c.all.ensures ∙ ap (λ (p : RuleParts). p.width) c.in_ok-rules.ensures ∙ c.requires.wide
      ∙ sym (ap (λ (L : Context). L.width) c.in_ok-rows.ensures);
  ahead_wide = ap (λ (L : Context). L.width) c.in_ok-nothing.ensures.1 ∙ c.width.ensures.width;
  among = unknown_among c.all.result.now.members c.in_ok-rows.rows c.in_ok-nothing.nothing.whole c.in_ok-nothing.nothing.sets.rows
      c.in_ok-nothing.ensures.0;
}

pub invariant_of-result : goal.invariant_of-result
invariant_of-result g c =
    let K = c.in_ok-rows.rows in
    let rules : RuleParts = c.in_ok-rules.rules in
    let known_is : rules.known ≡ c.args.known.now.members = ap (λ (p : RuleParts). p.known) c.in_ok-rules.ensures in
    let none_is = ap (λ (p : RuleParts). p.accepted) c.in_ok-rules.ensures in
    record {
      wide = ap (λ (p : RuleParts). p.width) c.in_ok-rules.ensures ∙ c.requires.wide
          ∙ sym (ap (λ (L : Context). L.width) c.in_ok-rows.ensures);
      kept = opened_kept
          (subst (λ (L : Context). list_all (holds L) rules.known ≡ true) (sym c.in_ok-rows.ensures)
          (ap (list_all (holds c.args.rows.now)) known_is ∙ c.requires.hold))
          (ap have_distinct_premises none_is)
          (c.in_ok-first.ensures.next rules.known rules.accepted 0 (ap (λ (J : RuleList). J.members) c.all.ensures)
          (subst (λ acc. HasBelow rules.known K 0 acc) (sym none_is) (has_none rules.known K)) (omega arith));
      ahead_wide = c.in_ok-first.ensures.ahead_wide;
      ahead = subst (λ (J : RuleList). IsAhead J.members K c.in_ok-first.first.size c.in_ok-first.first.ahead.whole
          c.in_ok-first.first.ahead.sets.rows) c.all.ensures c.in_ok-first.ensures.ahead;
    }
