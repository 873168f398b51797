use Rattle.std.proofs.Common.{◌≡◌, ◌∙◌, sym, subst, map, length, MatchOption, true}
use Rattle.fca_model.specs.Levels.{absorbs_all}
use Rattle.implication_closure.specs.Closing.{RuleList}
use Rattle.pseudo_levels.specs.Index.{IsBroken, IsFiled}
use Rattle.pseudo_levels.proofs.IndexLemmas.{found_filed, searched_filed, wide_broken}
use Rattle.pseudo_levels.proofs.member_index.MemberIndex.broken_member.Goals as goal

pub returns-in-Some-clause-broken : goal.returns-in-Some-clause-broken
returns-in-Some-clause-broken c =
    subst (λ (J : RuleList). IsBroken J.members c.args.set.now c.in-Some.i) c.self.view_is
    (found_filed c.self.inside.list.width (λ v. v.items) c.self.inside.list.members c.self.inside.buckets.items c.deref.result.now
    c.args.set.now c.in-Some.i c.self.invariant c.deref.ensures.value (sym c.search_bucket.ensures ∙ c.in-Some.is))

pub returns-clause-broken : goal.returns-clause-broken
returns-clause-broken c =
    subst (λ (J : RuleList). MatchOption c.search_pairs.result (absorbs_all J.members c.args.set.now ≡ true)
    (λ i. IsBroken J.members c.args.set.now i)) c.self.view_is
    (searched_filed c.width-width.result (λ v. v.items) c.self.inside.list.members c.self.inside.buckets.items c.deref.result.now
    c.deref-2.result.now c.args.set.now c.search_pairs.result
    (subst (λ n. IsFiled n c.self.inside.list.members (map (λ v. v.items) c.self.inside.buckets.items))
    (sym c.width-width.ensures.width) c.self.invariant) c.deref.ensures.value c.deref-2.ensures.value
    (sym c.search_bucket.ensures ∙ c.in_default.is) c.search_pairs.ensures)

pub returns-in-Some-clause-wide : goal.returns-in-Some-clause-wide
returns-in-Some-clause-wide c =
    let J = c.self.inside.list in
    subst (λ (L : RuleList). length c.in-Some.i.conclusion ≡ L.width) c.self.view_is
    (wide_broken J.width J.members c.args.set.now c.in-Some.i c.width-width.ensures.even
    (found_filed J.width (λ v. v.items) J.members c.self.inside.buckets.items c.deref.result.now c.args.set.now c.in-Some.i c.self.invariant
    c.deref.ensures.value (sym c.search_bucket.ensures ∙ c.in-Some.is)))
