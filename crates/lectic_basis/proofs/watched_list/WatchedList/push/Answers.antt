use Rattle.std.proofs.Common.{map, sym, ap, ◌∙◌, subst}
use Rattle.fca_model.specs.Implications.{rule}
use Rattle.implication_closure.specs.Closing.{RuleList}
use Rattle.lectic_basis.specs.Entries.{HaveEntries}
use Rattle.lectic_basis.specs.Watches.{Watched, member_at}
use Rattle.lectic_basis.proofs.EntryLemmas.{longer_entries, longer_view}
use Rattle.lectic_basis.proofs.watched_list.WatchedList.push.Goals as goal

pub invariant_of-self-2 : goal.invariant_of-self-2
invariant_of-self-2 g c =
    let entries = subst (λ (L : RuleList). HaveEntries L.members (map (λ v. v.items) c.self.inside.buckets.items))
    (sym c.in_ok-push.ensures.ok)
    (longer_entries c.self.inside.list.members (rule c.args.member.premise c.args.member.conclusion)
    (map (λ v. v.items) c.self.inside.buckets.items) c.self.invariant.entries) in
    record { words = c.self.invariant.words; entries = entries }

pub returns-clause-buckets : goal.returns-clause-buckets
returns-clause-buckets g c =
    ap (λ (L : RuleList). map (map (member_at L.members)) (map (λ v. v.items) c.self.inside.buckets.items)) c.in_ok-push.ensures.ok
    ∙ longer_view c.self.inside.list.members (rule c.args.member.premise c.args.member.conclusion)
    (map (λ v. v.items) c.self.inside.buckets.items) c.self.invariant.entries
    ∙ ap (λ (F : Watched). F.buckets) c.self.view_is
