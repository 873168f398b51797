use Rattle.std.proofs.Common.{◌≡◌, ◌<◌, ◌-◌, ◌∙◌, [], ℕ, suc, List, length, sym, ap, subst, arith}
use Rattle.std.proofs.lemmas.List.{get_or_push, length_push}
use Rattle.std.proofs.lemmas.Result.{on_ok_weaker}
use Rattle.fca_model.specs.Implications.{Rule, rule}
use Rattle.implication_closure.specs.Closing.{RuleList}
use Rattle.lectic_basis.specs.Watches.{Watched, IsPut, IsPutBefore, member_at}
use Rattle.lectic_basis.proofs.watched_list.WatchedList.push_to_wait.Goals as goal

pub returns-then-from-eq0-clause-put : goal.returns-then-from-eq0-clause-put
returns-then-from-eq0-clause-put g c =
    let i : Rule = rule c.args.member.premise c.args.member.conclusion in
    subst (λ n. IsPutBefore n c.args.self.now.buckets c.push.new.self.buckets i) (sym c.if-from-eq0.true) c.in_ok-push.ensures.buckets

pub wait_for-requires : goal.wait_for-requires
wait_for-requires g c =
    let J : List Rule = c.args.self.now.list.members in
    let i : Rule = rule c.args.member.premise c.args.member.conclusion in
    let place : length c.as_slice-place.result.now ≡ length J =
    ap length (c.as_slice-place.ensures.members ∙ ap (λ (F : Watched). F.list.members) c.self.view_is) in
    let there : length c.as_slice-place.result.now < length c.push.new.self.list.members =
    subst (λ (L : RuleList). length c.as_slice-place.result.now < length L.members) (sym c.in_ok-push.ensures.list)
    (omega (arith, place, length_push J i)) in
    (omega arith, (there, omega (arith, c.requires.inside, c.if-from-eq0.false, ap length c.in_ok-push.ensures.buckets)))

pub returns-clause-list : goal.returns-clause-list
returns-clause-list g c =
    on_ok_weaker c.wait_for.result
    (λ (put : IsPut c.push.new.self.buckets c.wait_for.new.self.buckets (c.args.from - 1)
    (member_at c.push.new.self.list.members (length c.as_slice-place.result.now))). c.wait_for.ensures.list ∙ c.in_ok-push.ensures.list)
    c.wait_for.ensures.put

pub returns-clause-put : goal.returns-clause-put
returns-clause-put g c =
    let J : List Rule = c.args.self.now.list.members in
    let i : Rule = rule c.args.member.premise c.args.member.conclusion in
    let w : ℕ = c.args.from - 1 in
    let new : List (List Rule) = c.wait_for.new.self.buckets in
    let place : length c.as_slice-place.result.now ≡ length J =
    ap length (c.as_slice-place.ensures.members ∙ ap (λ (F : Watched). F.list.members) c.self.view_is) in
    let here : member_at c.push.new.self.list.members (length c.as_slice-place.result.now) ≡ i =
    ap (λ (L : RuleList). member_at L.members (length c.as_slice-place.result.now)) c.in_ok-push.ensures.list
    ∙ get_or_push J i (rule [] []) (length c.as_slice-place.result.now) (sym place) in
    let next : suc w ≡ c.args.from = omega (arith, c.if-from-eq0.false) in
    on_ok_weaker c.wait_for.result
    (λ (put : IsPut c.push.new.self.buckets new w (member_at c.push.new.self.list.members (length c.as_slice-place.result.now))). subst
    (λ n. IsPutBefore n c.args.self.now.buckets new i) next
    (subst (λ Bs. IsPut Bs new w i) c.in_ok-push.ensures.buckets (subst (λ j. IsPut c.push.new.self.buckets new w j) here put)))
    c.wait_for.ensures.put
