use Rattle.lectic_basis.proofs.EntryLemmas.{stored_put, stored_put_entries, stored_same_entries}
use Rattle.lectic_basis.proofs.watched_list.WatchedList.wait_for.Goals as goal

pub invariant_of-self : goal.invariant_of-self
invariant_of-self g c = record {
  words = c.self.invariant.words;
  entries = stored_same_entries (λ v. v.items) c.self.inside.list c.self.inside.buckets.items c.args.self.now
      (c.self.view_is, c.self.invariant.entries)
      c.args.z c.index_mut.result.now c.requires.inside c.index_mut.ensures.value c.in_err-push.ensures.items;
}

pub invariant_of-self-2 : goal.invariant_of-self-2
invariant_of-self-2 g c = record {
  words = c.self.invariant.words;
  entries = stored_put_entries (λ v. v.items) c.self.inside.list c.self.inside.buckets.items c.args.self.now
      (c.self.view_is, c.self.invariant.entries)
      c.args.z c.index_mut.result.now c.requires.inside c.index_mut.ensures.value c.args.place c.push.new.self c.in_ok-push.ensures.items
      c.requires.there;
}

pub returns-clause-put : goal.returns-clause-put
returns-clause-put g c = stored_put (λ v. v.items) c.self.inside.list c.self.inside.buckets.items c.args.self.now
    (c.self.view_is, c.self.invariant.entries)
    c.args.z c.index_mut.result.now c.requires.inside c.index_mut.ensures.value c.args.place c.push.new.self c.in_ok-push.ensures.items
