use Rattle.std.proofs.Common.{[], length, get_or, sym, ap, ◌∙◌, arith}
use Rattle.std.proofs.lemmas.List.{get_or_default}
use Rattle.fca_model.specs.Implications.{Rule, rule}
use Rattle.lectic_basis.proofs.EntryLemmas.{stored_count, stored_place, stored_waits}
use Rattle.lectic_basis.proofs.watched_list.WatchedList.waiting_member.Goals as goal

pub index-place-requires : goal.index-place-requires
index-place-requires g c =
    let held = stored_count (λ v. v.items) c.self.inside.list c.self.inside.buckets.items c.args.self.now
    (c.self.view_is, c.self.invariant.entries) c.args.z c.index.result.now c.requires.inside c.index.ensures in
    omega (arith, held, c.requires.there, c.index.result.now.ok.0)

pub offset_bounds-as_slice-place : goal.offset_bounds-as_slice-place
offset_bounds-as_slice-place g c =
    let there = stored_place (λ v. v.items) c.self.inside.list c.self.inside.buckets.items c.args.self.now
    (c.self.view_is, c.self.invariant.entries) c.args.z c.index.result.now c.requires.inside c.index.ensures
    c.args.k c.index-place.result.now c.requires.there c.index-place.ensures in
    omega (arith, there, ap length c.as_slice.ensures.members)

pub bounds-as_slice-place : goal.bounds-as_slice-place
bounds-as_slice-place g c =
    let there = stored_place (λ v. v.items) c.self.inside.list c.self.inside.buckets.items c.args.self.now
    (c.self.view_is, c.self.invariant.entries) c.args.z c.index.result.now c.requires.inside c.index.ensures
    c.args.k c.index-place.result.now c.requires.there c.index-place.ensures in
    omega (arith, there, ap length c.as_slice.ensures.members)

pub returns : goal.returns
returns g c =
    let i : Rule = c.index-as_slice-place.result in
    let there = stored_place (λ v. v.items) c.self.inside.list c.self.inside.buckets.items c.args.self.now
    (c.self.view_is, c.self.invariant.entries) c.args.z c.index.result.now c.requires.inside c.index.ensures
    c.args.k c.index-place.result.now c.requires.there c.index-place.ensures in
    let waits = stored_waits (λ v. v.items) c.self.inside.list c.self.inside.buckets.items c.args.self.now
    (c.self.view_is, c.self.invariant.entries) c.args.z c.index.result.now c.requires.inside c.index.ensures
    c.args.k c.index-place.result.now c.requires.there c.index-place.ensures in
    c.index-as_slice-place.is ∙ ap (λ J. get_or J c.index-place.result.now i) c.as_slice.ensures.members
    ∙ get_or_default c.self.inside.list.members c.index-place.result.now i (rule [] []) there ∙ sym waits
