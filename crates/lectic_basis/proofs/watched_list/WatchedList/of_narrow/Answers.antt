use Rattle.std.proofs.Common.{◌≡◌, ℕ, ◌<◌, ◌+◌, [], List, length, get_or, sym, ap, ◌∙◌, subst, arith}
use Rattle.std.proofs.lemmas.List.{get_or_default}
use Rattle.fca_model.specs.Sets.{Set}
use Rattle.fca_model.specs.Exploration.{first_missing}
use Rattle.fca_model.specs.Implications.{Rule, rule}
use Rattle.implication_closure.specs.Closing.{RuleList}
use Rattle.lectic_basis.specs.Watches.{Watched, IsPut, member_at}
use Rattle.lectic_basis.proofs.WaitLemmas.{IsWaiting, waiting_more, waiting_same}
use Rattle.lectic_basis.proofs.watched_list.WatchedList.of_narrow.Goals as goal
use Rattle.lectic_basis.proofs.watched_list.WatchedList.of_narrow.Goals.{in-Some+in_ok-wait_for, in_default}

pub loop-place-preserved : goal.loop-place-preserved
loop-place-preserved g c =
    let J : List Rule = c.args.list.members in
    let X : Set = c.args.x.now in
    let k : ℕ = c.loop-place.place in
    let i : Rule = member_at J k in
    let lt : k < length J = omega (arith, c.loop-place-test.true, ap length c.as_slice-count.ensures.members) in
    let is : i ≡ get_or J k i = sym (get_or_default J k i (rule [] []) lt) in
    let here : member_at c.loop-place.watched.list.members k ≡ i =
    ap (λ (L : RuleList). member_at L.members k) c.loop-place.invariant.list in
    let missing : first_missing 0 i.premise X ≡ c.first_missing_at.result =
    sym (c.first_missing_at.ensures.missing ∙ ap (λ (j : Rule). first_missing 0 j.premise X) here) in
    elim c.match-first_missing_at.branch [
      | in-Some+in_ok-wait_for w ↦ record {
        list = ap (λ (F : Watched). F.list) w.watched-is ∙ w.wait_for.ensures.list ∙ c.loop-place.invariant.list;
        waiting = subst (λ (F : Watched). IsWaiting c.args.list.width J X (k + 1) F.buckets) (sym w.watched-is)
            (waiting_more c.loop-place.invariant.waiting i lt is w.wait_for.new.self.buckets w.in-Some.z (missing ∙ w.in-Some.is)
            (subst (λ j. IsPut c.loop-place.watched.buckets w.wait_for.new.self.buckets w.in-Some.z j) here w.in_ok-wait_for.ensures.put));
      }
      | in_default w ↦ record {
        list = ap (λ (F : Watched). F.list) w.watched-is ∙ c.loop-place.invariant.list;
        waiting = subst (λ (F : Watched). IsWaiting c.args.list.width J X (k + 1) F.buckets) (sym w.watched-is)
            (waiting_same c.loop-place.invariant.waiting i lt is (missing ∙ w.in_default.is) c.requires.respecting);
      }
    ]
