use Rattle.std.proofs.Common.{arith, length, ap}
use Rattle.lectic_basis.specs.Entries.{is_entry}
use Rattle.lectic_basis.proofs.BucketLemmas.{still_is, moved_is, moved_all}
use Rattle.lectic_basis.proofs.EntryLemmas.{stored_room, stored_count, stored_there, stored_moved, stored_same_entries}
use Rattle.lectic_basis.proofs.watched_list.WatchedList.move_to.Goals as goal

pub index-place-requires : goal.index-place-requires
index-place-requires g c =
    let held = stored_count (λ v. v.items) c.self.inside.list c.self.inside.buckets.items c.args.self.now
    (c.self.view_is, c.self.invariant.entries) c.args.z c.index.result.now c.requires.inside c.index.ensures in
    omega (arith, held, c.requires.there, c.index.result.now.ok.0)

pub invariant_of-self : goal.invariant_of-self
invariant_of-self g c = record {
  words = c.self.invariant.words;
  entries = stored_same_entries (λ v. v.items) c.self.inside.list c.self.inside.buckets.items c.args.self.now
      (c.self.view_is, c.self.invariant.entries)
      c.args.other c.index_mut.result.now c.requires.other_inside c.index_mut.ensures.value c.in_err-push.ensures.items;
}

pub swap_remove-requires : goal.swap_remove-requires
swap_remove-requires g c =
    let room = stored_room (λ v. v.items) c.self.inside.list c.self.inside.buckets.items c.args.self.now
    (c.self.view_is, c.self.invariant.entries) in
    let there = stored_there (λ v. v.items) c.self.inside.list c.self.inside.buckets.items c.args.self.now
    (c.self.view_is, c.self.invariant.entries) c.args.z c.index.result.now c.requires.inside c.index.ensures c.args.k
    c.index-place.result.now c.requires.there c.index-place.ensures in
    let still = still_is (λ v. v.items) c.self.inside.buckets.items c.args.z c.args.other c.push.new.self c.index_mut-2.result.now
    (omega (arith, c.requires.inside, room)) c.requires.elsewhere c.index_mut-2.ensures.value in
    omega (arith, there, ap length still, c.index_mut-2.result.now.ok.0)

pub invariant_of-self-2 : goal.invariant_of-self-2
invariant_of-self-2 g c =
    let room = stored_room (λ v. v.items) c.self.inside.list c.self.inside.buckets.items c.args.self.now
    (c.self.view_is, c.self.invariant.entries) in
    let there = stored_there (λ v. v.items) c.self.inside.list c.self.inside.buckets.items c.args.self.now
    (c.self.view_is, c.self.invariant.entries) c.args.z c.index.result.now c.requires.inside c.index.ensures c.args.k
    c.index-place.result.now c.requires.there c.index-place.ensures in
    let entries = moved_all (is_entry c.self.inside.list.members)
    (moved_is (λ v. v.items) c.self.inside.buckets.items c.args.z c.args.k c.args.other c.index.result.now c.index_mut.result.now
    c.push.new.self c.index_mut-2.result.now c.swap_remove.new.self
    c.index-place.result.now c.swap_remove.result (omega (arith, c.requires.inside, room))
    (omega (arith, c.requires.other_inside, room)) there c.requires.elsewhere
    c.index.ensures c.index-place.ensures c.index_mut.ensures.value c.in_ok-push.ensures.items c.index_mut-2.ensures.value
    c.swap_remove.ensures.value c.swap_remove.ensures.items)
    c.self.invariant.entries in
    record { words = c.self.invariant.words; entries = entries }

pub returns-clause-moved : goal.returns-clause-moved
returns-clause-moved g c =
    let room = stored_room (λ v. v.items) c.self.inside.list c.self.inside.buckets.items c.args.self.now
    (c.self.view_is, c.self.invariant.entries) in
    let there = stored_there (λ v. v.items) c.self.inside.list c.self.inside.buckets.items c.args.self.now
    (c.self.view_is, c.self.invariant.entries) c.args.z c.index.result.now c.requires.inside c.index.ensures c.args.k
    c.index-place.result.now c.requires.there c.index-place.ensures in
    stored_moved (λ v. v.items) c.self.inside.list c.self.inside.buckets.items c.args.self.now
    (c.self.view_is, c.self.invariant.entries) c.args.z c.index.result.now c.requires.inside c.index.ensures c.args.k
    c.index-place.result.now c.requires.there c.index-place.ensures
    (moved_is (λ v. v.items) c.self.inside.buckets.items c.args.z c.args.k c.args.other c.index.result.now c.index_mut.result.now
    c.push.new.self c.index_mut-2.result.now c.swap_remove.new.self
    c.index-place.result.now c.swap_remove.result (omega (arith, c.requires.inside, room))
    (omega (arith, c.requires.other_inside, room)) there c.requires.elsewhere
    c.index.ensures c.index-place.ensures c.index_mut.ensures.value c.in_ok-push.ensures.items c.index_mut-2.ensures.value
    c.swap_remove.ensures.value c.swap_remove.ensures.items)
